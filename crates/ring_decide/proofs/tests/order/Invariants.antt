use Rattle.std.proofs.Common.{◌≡◌}
use Rattle.ring_decide.proofs.tests.order.Given as goal

abbrev pub invariant-loop-decided : goal.invariant-loop-decided
invariant-loop-decided l = (l.trail.vars ≡ 5) × (l.decider ≡ l.fn.decider)
