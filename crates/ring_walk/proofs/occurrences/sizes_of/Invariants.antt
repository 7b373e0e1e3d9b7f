use Rattle.std.proofs.Common.{◌≡◌, ℕ, ◌<◌, length, slice_index}
use Rattle.ring_walk.specs.Occurrences.{codes_of, rank}
use Rattle.ring_walk.proofs.occurrences.sizes_of.Given as goal

abbrev pub invariant-loop-clause : goal.invariant-loop-clause
invariant-loop-clause l = record {
  len : length l.sizes.items ≡ codes_of l.vars;
  each : (x : ℕ) → x < codes_of l.vars → slice_index l.sizes.items x ≡ rank l.clauses x l.clause-index;
}
