use Rattle.std.proofs.Common.{◌≡◌}
use Rattle.test_ring.proofs.memory.read_clauses.Given as goal

abbrev pub invariant-loop-clause : goal.invariant-loop-clause
invariant-loop-clause g l = g.P.Port.state l.port ≡ g.P.Port.state l.fn.port
