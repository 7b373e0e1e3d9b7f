use Rattle.std.proofs.Common.{◌≡◌}
use Rattle.ring_decide.proofs.tests.meet.Given as goal

abbrev pub invariant-loop-met : goal.invariant-loop-met
invariant-loop-met l = l.decider ≡ l.fn.decider
