-- What steps make of views.
use Rattle.std.specs.Prelude.{ℕ, ◌+◌, false, length, List, [], ◌∷◌, ◌++◌, Some, None, if◌then◌else◌}
use Rattle.clause_cell.specs.Free.{is_within}
use Rattle.clause_cell.specs.Packing.{words_for}
use Rattle.share_core.specs.State.{blank}
use Rattle.share_core.specs.declared.part.CoreOpening.{CoreOpening}
use Rattle.share_core.specs.Events.{granted_part, opened_part, shared_part, dropped_part}
use Rattle.share_rule.specs.declared.view.Op.{Op}
use Rattle.share_rule.specs.declared.view.Op.TheVariants.{Load, Store, Swap, FetchAdd, FetchSub}
use Rattle.share_rule.specs.declared.view.StoredWord.{StoredWord}
use Rattle.share_rule.specs.declared.view.RingPart.{RingPart}
use Rattle.share_rule.specs.declared.view.View.{View}
use Rattle.share_rule.specs.Layout.{grant_at}
use Rattle.share_rule.specs.Views.{without_in, start_glues, clause_in, view, first_of}

-- the words stored outside of n words from a on
abbrev pub stored_else : ℕ → ℕ → List StoredWord → List StoredWord
stored_else a n [] = []
stored_else a n (s ∷ ss) = if is_within a n s.place then stored_else a n ss else s ∷ stored_else a n ss

-- the first part, changed
abbrev pub on_first : (RingPart → RingPart) → List RingPart → List RingPart
on_first f [] = []
on_first f (p ∷ ps) = f p ∷ ps

-- one step more
abbrev pub stepped : ℕ → Op → ℕ → View → View
stepped w op n v = record v { steps = v.steps + 1; last = Some (record { word = w; op = op; found = n }) }

-- with another part of its ring
abbrev pub changed : (RingPart → RingPart) → View → View
changed f v = record v { parts = on_first f v.parts }

-- a ring that has its grant
abbrev pub new_part : CoreOpening → ℕ → RingPart
new_part o r = record { core = granted_part o (blank r); glues = start_glues o.starts; stored = []; turn = None; listed = 0; whole = false; unit = None; number = None; refused = None; failed = false; set = None; ended = false; gave = []; polls = []; caught_up = 0 }

-- Parts

-- the ring holds the cell once more
abbrev pub share_part : ℕ → RingPart → RingPart
share_part a p = record p { core = shared_part (clause_in a p.core.held) p.core }

-- once less; if the count that it found was 1, the cell waits
abbrev pub drop_part : ℕ → ℕ → RingPart → RingPart
drop_part a n p = record p { core = dropped_part (clause_in a p.core.held) n p.core }

-- it stored a word of a cell that it builds
abbrev pub store_part : ℕ → ℕ → RingPart → RingPart
store_part w n p = record p { stored = record { place = w; word = n } ∷ p.stored }

-- it holds what it built
abbrev pub open_part : ℕ → RingPart → RingPart
open_part a p = record p { core = opened_part (clause_in a p.core.making) p.core; stored = stored_else a (words_for (length (clause_in a p.core.making).lits)) p.stored }

-- Steps

-- a word of a cell under construction is stored
abbrev pub after_store : ℕ → ℕ → View → View
after_store w n v = stepped w (Store n) n (changed (store_part w n) v)

-- a cell is opened
abbrev pub after_open : ℕ → View → View
after_open a v = stepped a (Store 1) 1 (changed (open_part a) v)

-- a grant is taken
abbrev pub after_grant : ℕ → View → View
after_grant r v = record (stepped (grant_at r) (Swap 0) 1 v) { rights = without_in r v.rights; parts = new_part v.opening r ∷ v.parts }

-- a count is taken
abbrev pub after_share : ℕ → ℕ → View → View
after_share a n v = stepped a (FetchAdd 1) n (changed (share_part a) v)

-- a count is given up
abbrev pub after_drop : ℕ → ℕ → View → View
after_drop a n v = stepped a (FetchSub 1) n (changed (drop_part a n) v)

-- a word is read
abbrev pub after_load : ℕ → ℕ → View → View
after_load w n v = stepped w Load n v

-- Seats

-- the right moves to a new pass
abbrev pub without_right : ℕ → View → View
without_right r v = record v { rights = without_in r v.rights }

-- to this one
abbrev pub with_right : ℕ → View → View
with_right r v = view v.layout v.opening v.origin (r ∷ [])

-- two passes in one
abbrev pub joined : View → View → View
joined v w = record v { stop = first_of v.stop w.stop; rights = v.rights ++ w.rights; parts = v.parts ++ w.parts }
