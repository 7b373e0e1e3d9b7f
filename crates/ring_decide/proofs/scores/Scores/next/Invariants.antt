use Rattle.std.proofs.Common.{◌≡◌}
use Rattle.ring_decide.proofs.scores.Scores.next.Given as goal

abbrev pub invariant-loop-var : goal.invariant-loop-var
invariant-loop-var l = record {
  scores : l.self-inside.scores ≡ l.initial.self-inside.scores;
  add : l.self-inside.add ≡ l.initial.self-inside.add;
  vars : l.self-inside.heap.vars ≡ l.initial.self-inside.heap.vars;
}

abbrev pub decreases-loop-var : goal.decreases-loop-var
decreases-loop-var l = l.self-inside.heap.count
