-- States that enabled events leave, and whose step each event is.
use Rattle.std.specs.Prelude.{◌≡◌, ◌≢◌, ℕ, Bool, false, ◌==◌, List, fold, All}
use Rattle.share_core.specs.declared.event.Event.{Event}
use Rattle.share_core.specs.declared.event.Event.TheVariants.{Grant, TakeTurn, GiveTurn, AddClause, AddUnit, AddEmpty, Reduce, OpenCell, Read, Share, DropCount, Bury, Put, Get, Publish, See, Stop, Draw}
use Rattle.share_core.specs.State.{CoreOpening, IsCoreOpening, State, opened}
use Rattle.share_core.specs.Enabled.{AllEnabled}
use Rattle.share_core.specs.Events.{after}

-- some list of enabled events leads from this opening to this state
pub record Left (o : CoreOpening) (c : State) : Type 0 where
  pub opens : IsCoreOpening o
  pub events : List Event
  pub enabled : AllEnabled (opened o) events
  pub leaves : fold after (opened o) events ≡ c

-- whose step it is
abbrev pub ring_of : Event → ℕ
ring_of (Grant r) = r
ring_of (TakeTurn r) = r
ring_of (GiveTurn r) = r
ring_of (AddClause r kind lits hints a) = r
ring_of (AddUnit r kind lit hints) = r
ring_of (AddEmpty r hints) = r
ring_of (Reduce r) = r
ring_of (OpenCell r a) = r
ring_of (Read r a) = r
ring_of (Share r a) = r
ring_of (DropCount r a) = r
ring_of (Bury r a) = r
ring_of (Put r to k i a) = r
ring_of (Get r from k i) = r
ring_of (Publish r lit n) = r
ring_of (See r) = r
ring_of (Stop r kind) = r
ring_of (Draw r) = r

-- all are steps of other rings
abbrev pub AreOthers : ℕ → List Event → Type 0
AreOthers r es = All (λ e. ring_of e ≢ r) es

-- the ring shares a cell
abbrev pub shares : ℕ → Event → Bool
shares r (Grant q) = false
shares r (TakeTurn q) = false
shares r (GiveTurn q) = false
shares r (AddClause q kind lits hints a) = false
shares r (AddUnit q kind lit hints) = false
shares r (AddEmpty q hints) = false
shares r (Reduce q) = false
shares r (OpenCell q a) = false
shares r (Read q a) = false
shares r (Share q a) = q == r
shares r (DropCount q a) = false
shares r (Bury q a) = false
shares r (Put q to k i a) = false
shares r (Get q from k i) = false
shares r (Publish q lit n) = false
shares r (See q) = false
shares r (Stop q kind) = false
shares r (Draw q) = false
