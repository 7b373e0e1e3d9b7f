use Rattle.std.proofs.Common.{◌≡◌, ◌⊎◌, ℕ, ◌+◌, ◌<◌, ◌≤◌, length}
use Rattle.clause_cell.specs.Packing.{lit_word}
use Rattle.ring_port.specs.Store.{word_at}
use Rattle.ring_port.proofs.words.write_lits.Given as goal

abbrev pub invariant-loop-place : goal.invariant-loop-place
invariant-loop-place l = record {
  long : length l.words.items ≡ length l.fn.words.items;
  there : (j : ℕ) → j < l.place → word_at l.words.items (l.first + j) ≡ lit_word l.lits j;
  others : (w : ℕ) → (w < l.first) ⊎ (l.first + l.place ≤ w) → word_at l.words.items w ≡ word_at l.fn.words.items w;
}
