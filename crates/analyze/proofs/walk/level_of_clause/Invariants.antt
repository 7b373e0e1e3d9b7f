use Rattle.std.proofs.Common.{◌≡◌, length, take}
use Rattle.ring_port.specs.PortState.{lits_at}
use Rattle.analyze.specs.Levels.{clause_level}
use Rattle.analyze.proofs.walk.level_of_clause.Given as goal

abbrev pub invariant-loop-i : goal.invariant-loop-i
invariant-loop-i g l = record {
  same : g.P.Port.state l.port ≡ g.P.Port.state l.fn.port;
  size : l.size ≡ length (lits_at (g.P.Port.state l.fn.port) l.c.address);
  level : l.most ≡ clause_level l.trail.steps (take l.i (lits_at (g.P.Port.state l.fn.port) l.c.address));
}
