use Rattle.std.proofs.Common.{◌≡◌}
use Rattle.test_ring.proofs.memory.go_often.Given as goal

abbrev pub invariant-loop : goal.invariant-loop
invariant-loop l = l.trail ≡ l.fn.trail
