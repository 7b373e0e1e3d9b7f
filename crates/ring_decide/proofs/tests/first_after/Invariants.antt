use Rattle.std.proofs.Common.{◌≡◌}
use Rattle.ring_decide.proofs.tests.first_after.Given as goal

abbrev pub invariant-loop-conflict : goal.invariant-loop-conflict
invariant-loop-conflict l = l.decider ≡ l.fn.decider
