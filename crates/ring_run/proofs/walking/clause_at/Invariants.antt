use Rattle.std.proofs.Common.{◌≡◌, length, take}
use Rattle.ring_port.specs.PortState.{lits_at}
use Rattle.ring_run.proofs.walking.clause_at.Given as goal

abbrev pub invariant-loop-i : goal.invariant-loop-i
invariant-loop-i g l = record {
  same : g.P.Port.state l.port ≡ g.P.Port.state l.fn.port;
  size : l.size ≡ length (lits_at (g.P.Port.state l.fn.port) l.clause.address);
  lits : l.lits.items ≡ take l.i (lits_at (g.P.Port.state l.fn.port) l.clause.address);
}
