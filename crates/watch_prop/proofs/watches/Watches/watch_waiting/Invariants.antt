use Rattle.std.proofs.Common.{◌≡◌, ◌-◌, length}
use Rattle.ring_port.specs.PortState.{lits_at}
use Rattle.watch_prop.specs.Propagation.{IsClosedBelow}
use Rattle.watch_prop.specs.Advancing.{HasAdvanced}
use Rattle.watch_prop.proofs.watches.Watches.watch_waiting.Given as goal

abbrev pub invariant-loop-self : goal.invariant-loop-self
invariant-loop-self g l = record {
  same : g.P.Port.state l.port ≡ g.P.Port.state l.fn.port;
  kept : HasAdvanced (g.P.Port.state l.fn.port) l.fn.self l.self l.fn.trail l.trail;
  below : IsClosedBelow l.self (lits_at (g.P.Port.state l.fn.port)) l.trail;
}

abbrev pub decreases-loop-self : goal.decreases-loop-self
decreases-loop-self g l = length l.self.slots - l.self.settled
