use Rattle.std.proofs.Common.{◌≤◌, ◌+◌}
use Rattle.restart_plan.proofs.tests.lemmas_to_restart.Given as goal

abbrev pub invariant-loop-n : goal.invariant-loop-n
invariant-loop-n l = l.restarts.count ≤ l.fn.restarts.count + l.n
