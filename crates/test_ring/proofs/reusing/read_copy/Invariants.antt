use Rattle.std.proofs.Common.{◌≡◌}
use Rattle.test_ring.proofs.reusing.read_copy.Given as goal

abbrev pub invariant-loop-i : goal.invariant-loop-i
invariant-loop-i g l = g.P.Port.state l.port ≡ g.P.Port.state l.fn.port
