use Rattle.std.proofs.Common.{◌≡◌, length}
use Rattle.ring_decide.proofs.tests.firsts.Given as goal

abbrev pub invariant-loop-conflicts : goal.invariant-loop-conflicts
invariant-loop-conflicts l = length l.decider.active ≡ 5
