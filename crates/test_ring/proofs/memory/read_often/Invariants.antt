use Rattle.std.proofs.Common.{◌≡◌}
use Rattle.test_ring.proofs.memory.read_often.Given as goal

abbrev pub invariant-loop : goal.invariant-loop
invariant-loop g l = g.P.Port.state l.port ≡ g.P.Port.state l.fn.port
