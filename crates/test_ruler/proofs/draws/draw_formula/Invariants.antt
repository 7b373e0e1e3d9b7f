use Rattle.std.proofs.Common.{◌≡◌, ℕ, ◌+◌, ◌++◌}
use Rattle.random_bits.specs.Bits.{rest_of}
use Rattle.test_ruler.specs.Draws.{source, clauses_from}
use Rattle.test_ruler.proofs.draws.draw_formula.Given as goal

abbrev pub invariant-loop-index : goal.invariant-loop-index
invariant-loop-index l = record {
  vars : l.formula.vars ≡ 6;
  clauses : (m : ℕ) → clauses_from (rest_of (source l.fn.number)) (l._index + m) ≡ l.formula.clauses ++ clauses_from l.words m;
}
