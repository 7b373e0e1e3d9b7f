-- What a port does when a ring gives clauses up: they are held once less, and those that nobody holds are deleted.
use Rattle.std.specs.Prelude.{◌≡◌, ◌⊎◌, ℕ, ◌<◌, ◌==◌, false, List, [], ◌∷◌, ◌++◌, if◌then◌else◌, map, length, take, drop, Option, Some, None, Result, Ok, Err}
use Rattle.std.specs.List.{list_any}
use Rattle.rup_model.specs.declared.journal.Entry.{Entry}
use Rattle.rup_model.specs.declared.journal.Entry.TheVariants.{Del}
use Rattle.ring_port.specs.declared.stops.PortStop.{PortStop}
use Rattle.ring_port.specs.declared.stops.PortStop.TheVariants.{Memory}
use Rattle.ring_port.specs.PortState.{Holding, PortState, held_at}
use Rattle.ring_port.specs.Port.{Refused}

-- Dropping

-- without the first clause at the address
abbrev pub without_one : List Holding → ℕ → List Holding
without_one [] a = []
without_one (h ∷ hs) a = if h.address == a then hs else h ∷ without_one hs a

-- it was not taken from another ring since the last Reduce entry
abbrev pub IsNotTaken : PortState → ℕ → Type 0
IsNotTaken s a = list_any (λ b. b == a) s.taken ≡ false

-- the address, unless it is this one
abbrev pub unless_at : Option ℕ → ℕ → Option ℕ
unless_at None a = None
unless_at (Some b) a = if b == a then None else Some b

-- the clause is held once less, and can't be offered any more; if that was the last time that anybody held it, it waits to be
-- deleted, and so it does at once if there is no other ring
pub record DroppedOnce (old new : PortState) (a : ℕ) : Type 0 where
  pub clause : Holding
  pub there : held_at old a ≡ Some clause
  pub waits : (new.waiting ≡ old.waiting) ⊎ ((new.waiting ≡ old.waiting ++ clause ∷ []) × (held_at new a ≡ None))
  pub alone : old.rings ≡ 1 → held_at new a ≡ None → new.waiting ≡ old.waiting ++ clause ∷ []
  pub state : new ≡ record old { held = without_one old.held a; waiting = new.waiting; last = unless_at old.last a }

-- what `drop_clause` did; it is refused for want of memory alone
abbrev pub Dropped : PortState → PortState → ℕ → Result (Unit {0}) PortStop → Type 0
Dropped old new a (Ok done) = DroppedOnce old new a
Dropped old new a (Err stop) = (stop ≡ Memory) × (new ≡ old)

-- Deleting

-- the ring's entries that delete the clauses
abbrev pub deletions : ℕ → List Holding → List Entry
deletions ring hs = map (λ h. Del ring h.number) hs

-- the first k of the clauses that waited were deleted, in their order
pub record TidiedUpTo (old new : PortState) (k : ℕ) : Type 0 where
  pub going : 0 < k → old.ended ≡ false
  pub state : new ≡ record old {
    waiting = drop k old.waiting;
    mine = old.mine ++ deletions old.ring (take k old.waiting);
    output = new.output;
  }

-- the deletion of a clause was refused; those before it were deleted, and the others still wait
pub record TidiedSome (old new : PortState) (stop : PortStop) : Type 0 where
  pub many : ℕ
  pub some : many < length old.waiting
  pub middle : PortState
  pub first : TidiedUpTo old middle many
  pub refused : Refused middle new stop

-- what `tidy` did
abbrev pub Tidied : PortState → PortState → Result (Unit {0}) PortStop → Type 0
Tidied old new (Ok done) = TidiedUpTo old new (length old.waiting)
Tidied old new (Err stop) = TidiedSome old new stop

-- the deletion of the first clause that waits
abbrev pub TidiedFirst : PortState → PortState → Result (Unit {0}) PortStop → Type 0
TidiedFirst old new (Ok done) = TidiedUpTo old new 1
TidiedFirst old new (Err stop) = Refused old new stop
