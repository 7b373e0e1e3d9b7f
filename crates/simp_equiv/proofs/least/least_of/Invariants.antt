use Rattle.std.proofs.Common.{◌≡◌, ℕ, ◌<◌, length}
use Rattle.std.specs.List.{slice_index}
use Rattle.simp_equiv.specs.Leasts.{FirstPlaces}
use Rattle.simp_equiv.proofs.least.least_of.Given as goal

abbrev pub invariant-loop-place : goal.invariant-loop-place
invariant-loop-place l = record {
  size : length l.first.items ≡ length l.numbers;
  long : length l.least.items ≡ l.place;
  firsts : FirstPlaces l.numbers l.first.items l.place (length l.numbers);
  least : (k : ℕ) → k < l.place → slice_index l.least.items k ≡ slice_index l.first.items (slice_index l.numbers k);
}
