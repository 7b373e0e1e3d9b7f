use Rattle.std.proofs.Common.{◌≡◌, ℕ, ◌+◌, ◌<◌, ◌≤◌, length, take, slice_index}
use Rattle.ring_walk.specs.Occurrences.{times}
use Rattle.ring_walk.proofs.occurrences.name_clause.Given as goal

abbrev pub invariant-loop-lit : goal.invariant-loop-lit
invariant-loop-lit l = record {
  len : length l.filled.items ≡ length l.fn.filled.items;
  named_len : length l.named.items ≡ length l.fn.named.items;
  filled : (x : ℕ) → x < length l.fn.filled.items → slice_index l.filled.items x ≡ slice_index l.fn.filled.items x + times x (take l.lit-index l.lits);
  kept : (x r : ℕ) → x < length l.fn.filled.items → r < slice_index l.fn.filled.items x → slice_index l.named.items (slice_index l.starts x + r) ≡ slice_index l.fn.named.items (slice_index l.starts x + r);
  added : (x r : ℕ) → x < length l.fn.filled.items → slice_index l.fn.filled.items x ≤ r → r < slice_index l.fn.filled.items x + times x (take l.lit-index l.lits) → slice_index l.named.items (slice_index l.starts x + r) ≡ l.clause;
}
