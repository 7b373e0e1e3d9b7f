-- Every event keeps the state sound.
use Rattle.std.proofs.Common.{◌≡◌, ℕ, ◌<◌, List, [], ◌++◌, Some, None, refl, sym, subst, append-nil}
use Rattle.rup_model.specs.declared.journal.Entry.{Entry}
use Rattle.share_core.specs.declared.event.Event.{Event}
use Rattle.share_core.specs.declared.event.Event.TheVariants.{Grant, TakeTurn, GiveTurn, AddClause, AddUnit, AddEmpty, Reduce, OpenCell, Read, Share, DropCount, Bury, Put, Get, Publish, See, Stop, Draw}
use Rattle.share_core.specs.State.{State}
use Rattle.share_core.specs.Enabled.{IsEnabled}
use Rattle.share_core.specs.Events.{after}
use Rattle.share_core.specs.Sound.{Sound}
use Rattle.share_core.proofs.Counting.{some_same, none_some}
use Rattle.share_core.proofs.Writing.{adds_clause, adds_unit, adds_empty, reduces}
use Rattle.share_core.proofs.Burying.{buries}
use Rattle.share_core.proofs.Recounting.{opens_cell, shares, drops}
use Rattle.share_core.proofs.Exchanging.{grants, puts, gets}
use Rattle.share_core.proofs.Listing.{publishes, sees, stops, turns, draws}

pub event_sound : (c : State) (e : Event) → Sound c → IsEnabled c e → Sound (after c e)
event_sound c (Grant r) s e = grants c r s e
event_sound c (TakeTurn r) s e = turns c (Some r) s (λ q is. subst (λ (n : ℕ). n < c.opening.rings) (some_same r q is) e.0)
event_sound c (GiveTurn r) s e = turns c None s (λ q is. absurd (none_some q is))
event_sound c (AddClause r kind lits hints a) s e = adds_clause c r kind lits hints a s e
event_sound c (AddUnit r kind l hints) s e = adds_unit c r kind l hints s e
event_sound c (AddEmpty r hints) s e = adds_empty c r hints s e
event_sound c (Reduce r) s e = reduces c r s e
event_sound c (OpenCell r a) s e = opens_cell c r a s e
event_sound c (Read r a) s e = s
event_sound c (Share r a) s e = shares c r a s e
event_sound c (DropCount r a) s e = drops c r a s e
event_sound c (Bury r a) s e = buries c r a s e
event_sound c (Put r to k l a) s e = puts c r to k l a s e
event_sound c (Get r from k l) s e = gets c r from k l s e
event_sound c (Publish r l n) s e = publishes c r l n s e
event_sound c (See r) s e = sees c r s e
event_sound c (Stop r kind) s e = stops c r kind s e
event_sound c (Draw r) s e = draws c r s e

-- the journal only grows
pub event_grows : (c : State) (e : Event) → (K : List Entry) × ((after c e).journal ≡ c.journal ++ K)
event_grows c (Grant r) = ([], sym (append-nil c.journal))
event_grows c (TakeTurn r) = ([], sym (append-nil c.journal))
event_grows c (GiveTurn r) = ([], sym (append-nil c.journal))
event_grows c (AddClause r kind lits hints a) = (_, refl)
event_grows c (AddUnit r kind l hints) = (_, refl)
event_grows c (AddEmpty r hints) = (_, refl)
event_grows c (Reduce r) = (_, refl)
event_grows c (OpenCell r a) = ([], sym (append-nil c.journal))
event_grows c (Read r a) = ([], sym (append-nil c.journal))
event_grows c (Share r a) = ([], sym (append-nil c.journal))
event_grows c (DropCount r a) = ([], sym (append-nil c.journal))
event_grows c (Bury r a) = (_, refl)
event_grows c (Put r to k l a) = ([], sym (append-nil c.journal))
event_grows c (Get r from k l) = ([], sym (append-nil c.journal))
event_grows c (Publish r l n) = ([], sym (append-nil c.journal))
event_grows c (See r) = ([], sym (append-nil c.journal))
event_grows c (Stop r kind) = ([], sym (append-nil c.journal))
event_grows c (Draw r) = ([], sym (append-nil c.journal))

-- what the core was opened with stays
pub event_opening : (c : State) (e : Event) → (after c e).opening ≡ c.opening
event_opening c (Grant r) = refl
event_opening c (TakeTurn r) = refl
event_opening c (GiveTurn r) = refl
event_opening c (AddClause r kind lits hints a) = refl
event_opening c (AddUnit r kind l hints) = refl
event_opening c (AddEmpty r hints) = refl
event_opening c (Reduce r) = refl
event_opening c (OpenCell r a) = refl
event_opening c (Read r a) = refl
event_opening c (Share r a) = refl
event_opening c (DropCount r a) = refl
event_opening c (Bury r a) = refl
event_opening c (Put r to k l a) = refl
event_opening c (Get r from k l) = refl
event_opening c (Publish r l n) = refl
event_opening c (See r) = refl
event_opening c (Stop r kind) = refl
event_opening c (Draw r) = refl
