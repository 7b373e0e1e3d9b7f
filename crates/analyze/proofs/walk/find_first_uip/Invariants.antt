use Rattle.std.proofs.Common.{◌≡◌}
use Rattle.ring_port.specs.PortState.{lits_at}
use Rattle.ring_port.specs.PortState.{clause_at}
use Rattle.analyze.proofs.Walking.{Walking}
use Rattle.analyze.proofs.walk.find_first_uip.Given as goal

abbrev pub invariant-places : goal.invariant-places
invariant-places g l = record {
  same : g.P.Port.state l.port ≡ g.P.Port.state l.fn.port;
  walking : Walking (clause_at (g.P.Port.state l.fn.port)) l.trail.steps l.trail.vars l.level (lits_at (g.P.Port.state l.fn.port) l.fn.conflict.address) l.marks l.«open» l.place;
}

abbrev pub decreases-places : goal.decreases-places
decreases-places g l = l.place
