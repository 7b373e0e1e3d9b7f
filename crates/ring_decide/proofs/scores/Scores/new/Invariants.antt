use Rattle.std.proofs.Common.{◌≡◌, length}
use Rattle.ring_decide.proofs.scores.Scores.new.Given as goal

abbrev pub invariant-loop-i : goal.invariant-loop-i
invariant-loop-i l = l.heap.vars ≡ length l.active
