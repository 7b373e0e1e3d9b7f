-- What is left once some clauses are dropped, one after the other.
use Rattle.std.specs.Prelude.{◌≡◌, ◌≢◌, ℕ, List, [], ◌∷◌, ◌++◌, Contains}
use Rattle.sat_words.specs.declared.shared.Cref.{Cref}
use Rattle.ring_port.specs.PortState.{PortState, held_at, lits_at}
use Rattle.ring_port.specs.Deleting.{DroppedOnce}
use Rattle.ring_port.specs.declared.stops.PortStop.{PortStop}
use Rattle.ring_port.specs.declared.stops.PortStop.TheVariants.{Memory}
use Rattle.ring_trail.specs.TrailData.{TrailData}
use Rattle.ring_trail.specs.Closed.{IsClosed}
use Rattle.watch_prop.specs.WatchData.{WatchData, attached, clauses_of}
use Rattle.watch_prop.specs.Watched.{Watched}
use Rattle.watch_prop.specs.Propagation.{HasReasons, IsQuiet}

-- each of the clauses was dropped once, in this order
abbrev pub DroppedEach : PortState → PortState → List Cref → Type 0
DroppedEach old new [] = new ≡ old
DroppedEach old new (c ∷ cs) = (middle : PortState) × DroppedOnce old middle c.address × DroppedEach middle new cs

-- these clauses were dropped: nothing but what is held, what waits and what can be offered has changed, and each other clause is
-- held as it was
pub record DroppedAll (old new : PortState) (dropped : List Cref) : Type 0 where
  pub each : DroppedEach old new dropped
  pub state : new ≡ record old { held = new.held; waiting = new.waiting; last = new.last }
  pub others : (a : ℕ) → ((c : Cref) → Contains dropped c → c.address ≢ a) → held_at new a ≡ held_at old a

-- the first of these clauses were dropped, in their order, and then there was no memory
pub record DroppedSome (old new : PortState) (clauses : List Cref) (stop : PortStop) : Type 0 where
  pub memory : stop ≡ Memory
  pub dropped : List Cref
  pub more : List Cref
  pub parts : dropped ++ more ≡ clauses
  pub port : DroppedAll old new dropped

-- what is held at no address of these clauses is held as it was
abbrev pub HoldsOthers : PortState → PortState → List Cref → Type 0
HoldsOthers old new cs = (a : ℕ) → ((c : Cref) → Contains cs c → c.address ≢ a) → held_at new a ≡ held_at old a

-- whatever held between port, watches and trail still does
pub record StaysReady (old new : PortState) (v w : WatchData) (t : TrailData) : Type 0 where
  pub vars : w.vars ≡ v.vars
  pub watched : Watched v (lits_at old) t → Watched w (lits_at new) t
  pub reasons : HasReasons (attached v) old t.steps → HasReasons (attached w) new t.steps
  pub closed : (k : ℕ) → IsClosed (clauses_of v (lits_at old)) t.steps k → IsClosed (clauses_of w (lits_at new)) t.steps k
  pub quiet : IsQuiet v (lits_at old) t → IsQuiet w (lits_at new) t
