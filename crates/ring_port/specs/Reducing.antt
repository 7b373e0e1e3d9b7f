-- What a port does when a ring gives up what it learned before.
use Rattle.std.specs.Prelude.{◌≡◌, ◌≤◌, false, [], ◌∷◌, ◌++◌, length, Result, Ok, Err}
use Rattle.rup_model.specs.declared.journal.TheConstants.{LEARNED_PER_REDUCTION}
use Rattle.rup_model.specs.declared.journal.Entry.TheVariants.{Reduce}
use Rattle.rup_model.specs.Journal.{recent}
use Rattle.ring_port.specs.declared.stops.PortStop.{PortStop}
use Rattle.ring_port.specs.PortState.{PortState}
use Rattle.ring_port.specs.Port.{Refused}

-- the ring has learned enough clauses since it last reduced, or since it began
abbrev pub MayReduce : PortState → Type 0
MayReduce s = LEARNED_PER_REDUCTION ≤ length (recent s.ring s.mine)

-- the Reduce entry stands; what was learned and taken before need not be kept
pub record NotedReduce (old new : PortState) : Type 0 where
  pub going : old.ended ≡ false
  pub state : new ≡ record old { mine = old.mine ++ Reduce old.ring ∷ []; taken = [] }

-- what `note_reduce` did
abbrev pub Noted : PortState → PortState → Result (Unit {0}) PortStop → Type 0
Noted old new (Ok done) = NotedReduce old new
Noted old new (Err stop) = Refused old new stop
