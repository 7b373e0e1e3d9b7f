use Rattle.std.proofs.Common.{◌≡◌}
use Rattle.ring_run.proofs.variables.bump_each.Given as goal

abbrev pub invariant-loop-bump : goal.invariant-loop-bump
invariant-loop-bump l = l.decider ≡ l.fn.decider
