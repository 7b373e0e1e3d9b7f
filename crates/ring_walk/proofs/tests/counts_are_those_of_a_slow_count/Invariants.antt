use Rattle.std.proofs.Common.{◌≡◌, ℕ, false, length}
use Rattle.sat_words.specs.Truth.{value_of}
use Rattle.ring_walk.proofs.tests.counts_are_those_of_a_slow_count.Given as goal

abbrev pub invariant-loop-flip : goal.invariant-loop-flip
invariant-loop-flip g l = record {
  walker : length l.walker.values ≡ 12;
  free : (v : ℕ) → value_of l.walker.fixed v ≡ false;
  values : length l.values ≡ 12;
}
