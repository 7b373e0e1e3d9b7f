use Rattle.std.proofs.Common.{◌≡◌, ◌∙◌, ◌++◌, ◌+◌, ◌∷◌, [], ℕ, List, length, sym, subst}
use Rattle.sat_words.specs.Literal.{Literal}
use Rattle.sat_words.specs.FormulaData.{FormulaData}
use Rattle.test_formulas.specs.Problems.{IsProblem, IsFine}
use Rattle.test_formulas.proofs.Openings.{with_clause}
use Rattle.test_formulas.proofs.problem.Problem.with.Goals as goal

pub invariant_of-result : goal.invariant_of-result
invariant_of-result c =
    let f : FormulaData = c.args.self.formula in
    let fine = c.is_fine.ensures c.if-not-is_fine.false in
    let us = c.args.self.units.items in
    let ns = c.args.self.listed.items in
    let p = with_clause f c.args.self.start.items us ns c.in_ok-clause.clause c.args.self.ready (subst (λ (v : ℕ). IsFine v c.in_ok-clause.clause) c.vars.ensures fine) in
    let items : c.push.new.self.items ≡ c.args.self.start.items ++ (length f.clauses + 1, c.in_ok-clause.clause) ∷ [] =
    c.in_ok-push.ensures.items ∙ (λ i. c.args.self.start.items ++ (c.next_number-number.ensures i, (c.in_ok-copy.ensures.value ∙ sym c.in_ok-clause.ensures.value) i) ∷ []) in
    record { ready = subst (λ (y : FormulaData × List (ℕ × List Literal)). IsProblem y.0 y.1 us ns) (λ i. (sym c.in_ok-push-2.ensures.ok i, sym items i)) p }
