use Rattle.std.proofs.Common.{◌≡◌, ℕ, ◌+◌, ◌*◌, ◌<◌, ◌≤◌, length, take, slice_index}
use Rattle.std.specs.Prelude.{◌^◌, sum, vec_capacity}
use Rattle.ring_walk.proofs.occurrences.starts_of.Given as goal

abbrev pub invariant-loop-size : goal.invariant-loop-size
invariant-loop-size l = record {
  len : length l.starts.items ≡ l.size-index;
  room : vec_capacity l.starts ≡ length l.sizes + 1;
  start : l.start ≡ sum (take l.size-index l.sizes);
  small : l.start ≤ l.size-index * 2 ^ 32;
  each : (x : ℕ) → x < l.size-index → slice_index l.starts.items x ≡ sum (take x l.sizes);
}
