-- Where clauses lie: a fold over the entries of a journal.
use Rattle.std.specs.Option.{option_map}
use Rattle.std.specs.Prelude.{◌≡◌, ◌≤◌, ◌<◌, ◌++◌, ◌^◌, ◌||◌, Bool, true, false, ℕ, ◌*◌, List, length, drop, fold, All, Option, Some, None, if◌then◌else◌, nat_le}
use Rattle.sat_words.specs.Literal.{Literal}
use Rattle.clause_cell.specs.declared.holes.Hole.{Hole}
use Rattle.clause_cell.specs.Packing.{words_for}
use Rattle.clause_cell.specs.Free.{is_within, is_free, range, whole, first_fit, without_fit, with_range}
use Rattle.rup_model.specs.declared.journal.Addition.{Addition}
use Rattle.rup_model.specs.declared.journal.Entry.{Entry}
use Rattle.rup_model.specs.Basics.{put}
use Rattle.rup_model.specs.Journal.{addition, added, deletion, is_ring}
use Rattle.share_core.specs.declared.stored.ClauseAt.{ClauseAt}
use Rattle.share_core.specs.declared.part.CoreOpening.{CoreOpening}
use Rattle.share_core.specs.declared.stored.Cell.{Cell}
use Rattle.share_core.specs.State.{State}
use Rattle.share_rule.specs.declared.Layout.{Layout}
use Rattle.share_rule.specs.Layout.{first_cell, cells_end, InVars}

-- the free words, and the words of each clause by its number
pub record Room : Type 0 where
  pub holes : List Hole
  pub words : ℕ → Option Hole

-- the clause takes the front of the first hole that is long enough
abbrev pub with_clause : ℕ → ℕ → Room → Option ℕ → Room
with_clause n size m None = m
with_clause n size m (Some a) = record { holes = without_fit (words_for size) m.holes; words = put m.words n (Some (range a (words_for size))) }

-- if there is one
abbrev pub placed : Room → ℕ → ℕ → Room
placed m n size = with_clause n size m (first_fit (words_for size) m.holes)

-- its words are free again
abbrev pub without_words : ℕ → Room → Option Hole → Room
without_words n m None = m
without_words n m (Some r) = record { holes = with_range r.first r.len m.holes; words = put m.words n None }

-- if it has any
abbrev pub freed : Room → ℕ → Room
freed m n = without_words n m (m.words n)

-- an addition of two literals or more takes words
abbrev pub with_addition : Room → Option Addition → Room
with_addition m None = m
with_addition m (Some x) = if nat_le 2 (length x.lits) then placed m x.number (length x.lits) else m

-- a deletion gives them back
abbrev pub with_deletion : Room → Option ℕ → Room
with_deletion m None = m
with_deletion m (Some n) = freed m n

-- an entry does both
abbrev pub room_after : Room → Entry → Room
room_after m e = with_deletion (with_addition m (addition e)) (deletion e)

-- the entry adds a clause with this number, or deletes it
abbrev pub names : Entry → ℕ → Bool
names e n = is_ring n (option_map (λ (x : Addition). x.number) (addition e)) || is_ring n (deletion e)

-- the start clauses, in the order given, which is that of their numbers
abbrev pub start_room : Layout → List ClauseAt → Room
start_room l ss = fold (λ m s. placed m s.number (length s.lits)) (record { holes = whole (first_cell l) l.words; words = λ _. None }) ss

-- after these entries, of which the first stood before the rings began
abbrev pub room : Layout → CoreOpening → List Entry → Room
room l o J = fold room_after (start_room l o.starts) (drop (length o.journal) J)

-- each word for cells that is not free is one of some clause's
abbrev pub IsTiled : Layout → Room → Type 0
IsTiled l m = (w : ℕ) → first_cell l ≤ w → w < cells_end l → is_free m.holes w ≡ false → (n : ℕ) × (r : Hole) × (m.words n ≡ Some r) × (is_within r.first r.len w ≡ true)

-- cells lie if their clauses do, and no other clauses have words; their literals, those of the rings' additions and those of the listed units are on the
-- layout's variables, which are no more than a proof may name; the units that were listed from the start stand first, and
-- there are no more than two a variable
pub record Places (l : Layout) (c : State) : Type 0 where
  pub rings : l.rings ≡ c.opening.rings
  pub depth : l.depth ≡ c.opening.depth
  pub limit : l.conflicts ≡ c.opening.limit
  pub small : l.vars ≤ 2 ^ 30
  pub words : (a : ℕ) (x : Cell) → c.cell a ≡ Some x → (room l c.opening c.journal).words x.number ≡ Some (range a (words_for (length x.lits)))
  pub only : (n : ℕ) (r : Hole) → (room l c.opening c.journal).words n ≡ Some r → (x : Cell) × (c.cell r.first ≡ Some x) × (x.number ≡ n)
  pub tiled : IsTiled l (room l c.opening c.journal)
  pub vars : (a : ℕ) (x : Cell) → c.cell a ≡ Some x → InVars l x.lits
  pub starts : All (λ s. InVars l s.lits) c.opening.starts
  pub entries : All (InVars l) (added (drop (length c.opening.journal) c.journal))
  pub units : InVars l c.units
  pub few : length c.units ≤ 2 * l.vars
  pub first : (later : List Literal) × (c.units ≡ c.opening.units ++ later)
