-- What looking for the next listed unit does.
use Rattle.std.specs.Prelude.{◌≡◌, ◌+◌, ◌≤◌, ℕ, Bool, true, false, not, ◌&&◌, ◌||◌, List, [], ◌∷◌, ◌++◌, length, take, drop, All, Contains, Some, None, is_some}
use Rattle.std.specs.List.{list_any}
use Rattle.sat_words.specs.Literal.{Literal, same}
use Rattle.sat_words.specs.Clause.{has, distinct_lits, same_set}
use Rattle.rup_model.specs.declared.journal.Kind.{Kind}
use Rattle.rup_model.specs.declared.journal.Entry.TheVariants.{Add}
use Rattle.rup_model.specs.Journal.{book, added}
use Rattle.share_rule.specs.declared.view.RingPart.{RingPart}
use Rattle.share_rule.specs.declared.view.View.{View}
use Rattle.share_rule.specs.Steps.{after_load}
use Rattle.share_rule.specs.Units.{after_count, after_see}
use Rattle.share_rule.specs.Layout.{number_at, InVars}
use Rattle.share_rule.specs.Turns.{IsWriting, journal_in}
use Rattle.share_rule.specs.Views.{only}
use Rattle.ring_pass.specs.Writes.{entries_of}

-- so many are listed; the next one is seen, and its number is read
abbrev pub after_sight : Literal → ℕ → ℕ → View → View
after_sight lit number listed v = after_load (number_at v.layout (length (only v).core.seen)) number (after_see lit number (after_count listed v))

-- more are listed than were seen; one more is seen, and is kept after those that arrived
pub record SawOne (v w : View) (seen seen' arrived arrived' : List Literal) (lit : Literal) : Type 0 where
  pub listed : ℕ
  pub number : ℕ
  pub view : w ≡ after_sight lit number listed v
  pub caught_up : (only w).caught_up ≡ (only v).caught_up
  pub seen_is : seen' ≡ seen ++ lit ∷ []
  pub arrived_is : arrived' ≡ arrived ++ lit ∷ []

-- as many are listed as were seen, among them those that were listed from the start
pub record SawAll (v w : View) (count : ℕ) (seen seen' arrived arrived' : List Literal) : Type 0 where
  pub view : w ≡ after_count count v
  pub caught_up : (only w).caught_up ≡ (only v).caught_up + 1
  pub opening : (later : List Literal) × ((only v).core.seen ≡ v.opening.units ++ later)
  pub seen_is : seen' ≡ seen
  pub arrived_is : arrived' ≡ arrived

-- some more are seen, and kept after those that arrived
pub record SawNews (v w : View) (seen' arrived arrived' : List Literal) : Type 0 where
  pub news : List Literal
  pub numbers : List ℕ
  pub part : RingPart
  pub parts : w.parts ≡ part ∷ []
  pub layout : w.layout ≡ v.layout
  pub opening : w.opening ≡ v.opening
  pub origin : w.origin ≡ v.origin
  pub stop : w.stop ≡ v.stop
  pub looks : w.looks ≡ v.looks
  pub core : part.core ≡ record (only v).core { seen = (only v).core.seen ++ news; numbers = (only v).core.numbers ++ numbers }
  pub glues : part.glues ≡ (only v).glues
  pub gave : part.gave ≡ (only v).gave
  pub polls : part.polls ≡ (only v).polls
  pub caught_up : (only v).caught_up ≤ part.caught_up
  pub turn : part.turn ≡ (only v).turn
  pub refused : part.refused ≡ (only v).refused
  pub ended : part.ended ≡ (only v).ended
  pub failed : part.failed ≡ (only v).failed
  pub seen_is : seen' ≡ part.core.seen
  pub arrived_is : arrived' ≡ arrived ++ news
  pub distinct : distinct_lits arrived' ≡ true
  pub told : All (λ l. has part.core.seen l ≡ true) arrived'

-- all listed units are seen, of which the ring knows the number; it knows that it is all of them if it has the turn
pub record SawRest (v w : View) (seen' arrived arrived' : List Literal) : Type 0 where
  pub saw : SawNews v w seen' arrived arrived'
  pub whole : (only w).whole ≡ is_some (only v).turn
  pub listed : (only w).listed ≡ length (only w).core.seen

-- the ring wrote this unit
abbrev pub wrote_unit : RingPart → Literal → Bool
wrote_unit p lit = list_any (same_set (lit ∷ [])) (added (entries_of p))

-- a unit that the ring wrote is listed, and all others that were are seen and kept; a lone ring has learned of no new failed write
pub record Listed (v w : View) (arrived arrived' : List Literal) (lit : Literal) : Type 0 where
  pub news : List Literal
  pub part : RingPart
  pub parts : w.parts ≡ part ∷ []
  pub layout : w.layout ≡ v.layout
  pub opening : w.opening ≡ v.opening
  pub stop : w.stop ≡ v.stop
  pub looks : w.looks ≡ v.looks
  pub core : part.core ≡ record (only v).core { seen = part.core.seen; numbers = part.core.numbers }
  pub glues : part.glues ≡ (only v).glues
  pub gave : part.gave ≡ (only v).gave
  pub polls : part.polls ≡ (only v).polls
  pub caught_up : (only v).caught_up ≤ part.caught_up
  pub turn : part.turn ≡ None
  pub refused : part.refused ≡ (only v).refused
  pub ended_is : (only v).ended ≡ true → part.ended ≡ true
  pub failed_is : (only v).failed ≡ true → part.failed ≡ true
  pub alone : v.opening.rings ≡ 1 → part.failed ≡ true → (only v).failed ≡ true
  pub sees : (k : Literal) → has part.core.seen k ≡ (has ((only v).core.seen ++ news) k || same lit k)
  pub apart : (k : Literal) → has news k ≡ true → has (only v).core.seen k ≡ false
  pub arrived_is : arrived' ≡ arrived ++ news
  pub distinct : distinct_lits arrived' ≡ true
  pub told : All (λ l. has part.core.seen l ≡ true) arrived'

-- it is not among those that are to be given any more
pub record LeftOut (passed : ℕ) (lit : Literal) (old new : List Literal) : Type 0 where
  pub front : take passed new ≡ take passed old
  pub rest : (k : Literal) → has (drop passed new) k ≡ (has (drop passed old) k && not (same lit k))
  pub passed_is : passed ≤ length new
  pub distinct : distinct_lits new ≡ true
  pub among : (k : Literal) → has new k ≡ true → has old k ≡ true

-- one of its entries adds this unit under this number
abbrev pub HasNumbered : RingPart → Literal → ℕ → Type 0
HasNumbered p lit number = (kind : Kind) × (hints : List ℕ) × Contains (entries_of p) (Add (record { ring = p.core.ring; number = number; lits = lit ∷ []; kind = kind; hints = hints }))

-- the ring has the turn and has seen all listed units; a clause that is this one had the number before the turn
pub record MayList (lit : Literal) (number : ℕ) (v : View) : Type 0 where
  pub writing : IsWriting v
  pub whole : ((only v).whole ≡ true) × ((only v).listed ≡ length (only v).core.seen)
  pub told : (book v.opening.formula (journal_in (only v).turn)).clause number ≡ Some (lit ∷ [])
  pub vars : InVars v.layout (lit ∷ [])

-- it is listed
pub record ListedOne (v w : View) (seen' : List Literal) (lit : Literal) : Type 0 where
  pub part : RingPart
  pub parts : w.parts ≡ part ∷ []
  pub layout : w.layout ≡ v.layout
  pub opening : w.opening ≡ v.opening
  pub origin : w.origin ≡ v.origin
  pub stop : w.stop ≡ v.stop
  pub looks : w.looks ≡ v.looks
  pub core : part.core ≡ record (only v).core { seen = part.core.seen; numbers = part.core.numbers }
  pub glues : part.glues ≡ (only v).glues
  pub gave : part.gave ≡ (only v).gave
  pub polls : part.polls ≡ (only v).polls
  pub caught_up : part.caught_up ≡ (only v).caught_up
  pub turn : part.turn ≡ (only v).turn
  pub refused : part.refused ≡ (only v).refused
  pub ended : part.ended ≡ (only v).ended
  pub failed : part.failed ≡ (only v).failed
  pub seen_is : seen' ≡ part.core.seen
  pub sees : (k : Literal) → has part.core.seen k ≡ (has (only v).core.seen k || same lit k)
