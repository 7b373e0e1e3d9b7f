use Rattle.std.proofs.Common.{◌≡◌, length}
use Rattle.test_search.proofs.decisions.decisions.Given as goal

abbrev pub invariant-loop-done : goal.invariant-loop-done
invariant-loop-done l = (l.trail.vars ≡ length l.decider.active) × (length l.decider.active ≡ length l.fn.decider.active)
