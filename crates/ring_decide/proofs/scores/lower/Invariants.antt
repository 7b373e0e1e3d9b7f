use Rattle.std.proofs.Common.{◌≡◌, ℕ, ◌<◌, ◌≤◌, ◌/◌, ◌^◌, length, slice_index}
use Rattle.ring_decide.proofs.scores.lower.Given as goal

abbrev pub invariant-loop-i : goal.invariant-loop-i
invariant-loop-i l = record {
  len : length l.scores.items ≡ length l.fn.scores.items;
  done : (k : ℕ) → k < l.i → slice_index l.scores.items k ≡ slice_index l.fn.scores.items k / 2 ^ 48;
  left : (k : ℕ) → l.i ≤ k → slice_index l.scores.items k ≡ slice_index l.fn.scores.items k;
}
