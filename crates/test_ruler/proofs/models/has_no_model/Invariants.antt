use Rattle.std.proofs.Common.{◌≡◌, ◌<◌, ℕ, false}
use Rattle.sat_words.specs.Truth.{formula_true}
use Rattle.test_ruler.specs.Models.{assignment}
use Rattle.test_ruler.proofs.models.has_no_model.Given as goal

abbrev pub invariant-loop-number : goal.invariant-loop-number
invariant-loop-number l = (n : ℕ) → n < l.number → formula_true (assignment n) l.formula.clauses ≡ false
