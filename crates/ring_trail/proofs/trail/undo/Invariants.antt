use Rattle.std.proofs.Common.{◌≡◌, ◌≤◌, take, length, vec_capacity}
use Rattle.ring_trail.specs.Inside.{IsKept}
use Rattle.ring_trail.proofs.trail.undo.Given as goal

abbrev pub invariant-loop-steps : goal.invariant-loop-steps
invariant-loop-steps l = record {
  kept : IsKept l.steps.items l.values;
  low : l.keep ≤ length l.steps.items;
  rest : l.steps.items ≡ take (length l.steps.items) l.fn.steps.items;
  high : length l.steps.items ≤ length l.fn.steps.items;
  room : vec_capacity l.steps ≡ vec_capacity l.fn.steps;
  range : length l.values ≡ length l.fn.values;
}

abbrev pub decreases-loop-steps : goal.decreases-loop-steps
decreases-loop-steps l = length l.steps.items
