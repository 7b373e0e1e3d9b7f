use Rattle.std.proofs.Common.{◌≡◌, ℕ, ◌+◌, ◌++◌}
use Rattle.random_bits.specs.Bits.{rest_of}
use Rattle.test_ruler.specs.Draws.{lits_from, behind_lits}
use Rattle.test_ruler.proofs.draws.draw_clause.Given as goal

abbrev pub invariant-loop-index : goal.invariant-loop-index
invariant-loop-index l = record {
  lits : (m : ℕ) → lits_from (rest_of l.fn.words) (l._index + m) ≡ l.lits.items ++ lits_from l.words m;
  behind : (m : ℕ) → behind_lits (rest_of l.fn.words) (l._index + m) ≡ behind_lits l.words m;
}
