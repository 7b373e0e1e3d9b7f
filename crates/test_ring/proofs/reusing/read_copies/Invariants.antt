use Rattle.std.proofs.Common.{◌≡◌}
use Rattle.test_ring.proofs.reusing.read_copies.Given as goal

abbrev pub invariant-loop-c : goal.invariant-loop-c
invariant-loop-c g l = g.P.Port.state l.port ≡ g.P.Port.state l.fn.port
