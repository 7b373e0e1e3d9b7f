use Rattle.std.proofs.Common.{List, ℕ, sym, subst}
use Rattle.sat_words.specs.Literal.{Literal}
use Rattle.sat_words.specs.FormulaData.{FormulaData}
use Rattle.test_formulas.specs.Problems.{IsProblem}
use Rattle.test_formulas.proofs.Openings.{none_yet}
use Rattle.test_formulas.proofs.problem.Problem.new.Goals as goal

pub invariant_of-result : goal.invariant_of-result
invariant_of-result c = record {
  ready = subst (λ (y : FormulaData × List (ℕ × List Literal) × List Literal × List (Literal × ℕ)). IsProblem y.0 y.1 y.2 y.3) (λ i. (sym c.new.ensures i, sym c.new-2.ensures.items i, sym c.new-3.ensures.items i, sym c.new-4.ensures.items i)) (none_yet c.args.vars);
}
