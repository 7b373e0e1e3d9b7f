use Rattle.std.proofs.Common.{◌≡◌, ℕ, ◌<◌, length, slice_index}
use Rattle.ring_walk.specs.Occurrences.{codes_of, rank, AreNamed}
use Rattle.ring_walk.proofs.occurrences.named_of.Given as goal

abbrev pub invariant-loop-i : goal.invariant-loop-i
invariant-loop-i l = record {
  len : length l.named.items ≡ l.total;
  filled_len : length l.filled.items ≡ codes_of l.vars;
  filled : (x : ℕ) → x < codes_of l.vars → slice_index l.filled.items x ≡ rank l.clauses x l.i;
  named : AreNamed l.clauses (codes_of l.vars) l.starts l.named.items l.i;
}
