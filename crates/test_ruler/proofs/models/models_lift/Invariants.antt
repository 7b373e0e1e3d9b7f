use Rattle.std.proofs.Common.{◌≡◌, ℕ, true}
use Rattle.sat_words.specs.Truth.{formula_true}
use Rattle.test_ruler.specs.Models.{assignment, is_model, is_lifted, each_below, some_below}
use Rattle.test_ruler.proofs.models.models_lift.Given as goal

abbrev pub invariant-loop-number : goal.invariant-loop-number
invariant-loop-number l = record {
  lifted : each_below l.number (λ (n : ℕ). is_lifted l.formula.clauses l.clauses l.units l.stack (assignment n)) ≡ true;
  before : l.before ≡ some_below l.number (λ (n : ℕ). formula_true (assignment n) l.formula.clauses);
  after : l.after ≡ some_below l.number (λ (n : ℕ). is_model (assignment n) l.clauses l.units);
}
