use Rattle.std.proofs.Common.{◌≡◌}
use Rattle.test_ring.proofs.memory.analyse_often.Given as goal

abbrev pub invariant-loop : goal.invariant-loop
invariant-loop g l = record {
  same : g.P.Port.state l.port ≡ g.P.Port.state l.fn.port;
  vars : l.analysis.vars ≡ l.fn.analysis.vars;
}
