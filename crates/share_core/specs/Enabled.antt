-- When an event is enabled.
use Rattle.std.specs.Prelude.{◌≡◌, ◌≢◌, ℕ, ◌<◌, ◌≤◌, true, false, List, [], ◌∷◌, length, fold, Some, None}
use Rattle.sat_words.specs.Clause.{has}
use Rattle.rup_model.specs.declared.journal.TheConstants.{LEARNED_PER_REDUCTION}
use Rattle.rup_model.specs.Basics.{EachAfter}
use Rattle.rup_model.specs.Journal.{book, ended, recent}
use Rattle.rup_model.specs.Opening.{IsLong}
use Rattle.sat_words.specs.declared.shared.TheConstants.{MAX_ENTRIES}
use Rattle.share_core.specs.declared.event.TheConstants.{MAX_SHARES}
use Rattle.share_core.specs.declared.event.Event.{Event}
use Rattle.share_core.specs.declared.event.Event.TheVariants.{Grant, TakeTurn, GiveTurn, AddClause, AddUnit, AddEmpty, Reduce, OpenCell, Read, Share, DropCount, Bury, Put, Get, Publish, See, Stop, Draw}
use Rattle.share_core.specs.State.{times_at, later, State}
use Rattle.share_core.specs.Learning.{follows, MayAddClause, MayAddUnit}
use Rattle.share_core.specs.Events.{after}

-- Parts of guards

-- it is a ring's number
abbrev pub IsRing : State → ℕ → Type 0
IsRing c r = r < c.opening.rings

-- the ring holds the cell
abbrev pub Holds : State → ℕ → ℕ → Type 0
Holds c r a = 0 < times_at a (c.part r).held

-- the ring has the turn, and there is room for one more entry of a log that is not ended
pub record Writes (c : State) (r : ℕ) : Type 0 where
  pub turn : c.turn ≡ Some r
  pub going : ended c.opening.formula c.journal ≡ false
  pub room : length c.journal < MAX_ENTRIES

-- Guards

-- the guard of each event
abbrev pub IsEnabled : State → Event → Type 0
-- the ring's grant is open
IsEnabled c (Grant r) = IsRing c r × (c.granted r ≡ false)
-- the turn is free
IsEnabled c (TakeTurn r) = IsRing c r × (c.turn ≡ None)
-- the turn is the ring's
IsEnabled c (GiveTurn r) = IsRing c r × (c.turn ≡ Some r)
-- two literals or more without repeats or opposites, which follow from what the ring knows; a free address
IsEnabled c (AddClause r kind lits hints a) =
    IsRing c r × Writes c r × MayAddClause c.opening c.journal (c.part r) r kind lits × IsLong lits × (c.cell a ≡ None) × (a ≢ 0)
    × (follows c.opening.hinted (c.part r) lits hints ≡ true)
IsEnabled c (AddUnit r kind lit hints) =
    IsRing c r × Writes c r × MayAddUnit c.opening c.journal (c.part r) r kind (lit ∷ []) × (follows c.opening.hinted (c.part r) (lit ∷ []) hints ≡ true)
IsEnabled c (AddEmpty r hints) = IsRing c r × Writes c r × (follows c.opening.hinted (c.part r) [] hints ≡ true)
-- the ring has learned enough since it last reduced
IsEnabled c (Reduce r) = IsRing c r × Writes c r × (LEARNED_PER_REDUCTION ≤ length (recent r (later c.opening c.journal)))
-- the ring builds the cell
IsEnabled c (OpenCell r a) = IsRing c r × (0 < times_at a (c.part r).making)
IsEnabled c (Read r a) = IsRing c r × Holds c r a
IsEnabled c (Share r a) = IsRing c r × Holds c r a × ((c.part r).shared < MAX_SHARES)
IsEnabled c (DropCount r a) = IsRing c r × Holds c r a
-- the cell waits at the ring
IsEnabled c (Bury r a) = IsRing c r × Writes c r × (0 < times_at a (c.part r).waiting)
-- for another ring, of one of the four classes, at a place that there is
IsEnabled c (Put r to k i a) = IsRing c r × IsRing c to × (to ≢ r) × (k < 4) × (i < c.opening.depth) × Holds c r a
IsEnabled c (Get r from k i) = IsRing c r × IsRing c from × (from ≢ r) × (k < 4) × (i < c.opening.depth)
-- the turn is the ring's; the number is that of a clause that is this unit; the ring has seen all units, and this is none
IsEnabled c (Publish r lit n) =
    IsRing c r × (c.turn ≡ Some r) × ((book c.opening.formula c.journal).clause n ≡ Some (lit ∷ [])) × (length (c.part r).seen ≡ length c.units) × (has c.units lit ≡ false)
-- the ring has not seen all units
IsEnabled c (See r) = IsRing c r × (length (c.part r).seen < length c.units)
-- a kind from 1 to 5; a refutation only if the log is ended
IsEnabled c (Stop r kind) = IsRing c r × (1 ≤ kind) × (kind ≤ 5) × (kind ≡ 2 → ended c.opening.formula c.journal ≡ true)
-- the ring has no ticket in hand, and each draw of it so far found one left
IsEnabled c (Draw r) = IsRing c r × ((c.part r).ticket ≡ false) × ((c.part r).found ≤ c.opening.limit)

-- each event of the list is enabled after those before it
abbrev pub AllEnabled : State → List Event → Type 0
AllEnabled c es = EachAfter (λ before e. IsEnabled (fold after c before) e) [] es
