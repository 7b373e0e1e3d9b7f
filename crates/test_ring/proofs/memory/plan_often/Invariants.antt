use Rattle.std.proofs.Common.{◌≡◌}
use Rattle.test_ring.proofs.memory.plan_often.Given as goal

abbrev pub invariant-loop-i : goal.invariant-loop-i
invariant-loop-i l = l.restarts.count ≡ l.i
