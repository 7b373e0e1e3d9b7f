use Rattle.std.proofs.Common.{◌≡◌, ℕ, ◌+◌, ◌<◌, length, take, slice_index}
use Rattle.ring_walk.specs.Occurrences.{times}
use Rattle.ring_walk.proofs.occurrences.add_times.Given as goal

abbrev pub invariant-loop-lit : goal.invariant-loop-lit
invariant-loop-lit l = record {
  len : length l.sizes.items ≡ length l.fn.sizes.items;
  each : (x : ℕ) → x < length l.fn.sizes.items → slice_index l.sizes.items x ≡ slice_index l.fn.sizes.items x + times x (take l.lit-index l.lits);
}
