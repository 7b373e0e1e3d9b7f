use Rattle.std.proofs.Common.{◌≡◌, ℕ, ◌<◌, length, slice_index}
use Rattle.std.specs.Prelude.{vec_capacity}
use Rattle.ring_walk.proofs.listed.numbers_below.Given as goal

abbrev pub invariant-loop-number : goal.invariant-loop-number
invariant-loop-number l = record {
  len : length l.numbers.items ≡ l.number;
  each : (k : ℕ) → k < l.number → slice_index l.numbers.items k ≡ k;
  room : vec_capacity l.numbers ≡ l.count;
}
