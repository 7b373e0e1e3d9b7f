use Rattle.std.proofs.Common.{◌≡◌, ◌∙◌, ◌++◌, ◌+◌, ◌∷◌, [], ℕ, false, List, length, ap, sym, subst, arith}
use Rattle.sat_words.specs.Literal.{Literal, IsOn}
use Rattle.sat_words.specs.Clause.{has}
use Rattle.sat_words.specs.FormulaData.{FormulaData}
use Rattle.test_formulas.specs.Problems.{IsProblem}
use Rattle.test_formulas.proofs.Openings.{with_one}
use Rattle.test_formulas.proofs.problem.Problem.with_unit.Goals as goal

pub invariant_of-result : goal.invariant_of-result
invariant_of-result c =
    let f : FormulaData = c.args.self.formula in
    let ss = c.args.self.start.items in
    let us = c.args.self.units.items in
    let ns = c.args.self.listed.items in
    let l : Literal = c.args.lit in
    let on : IsOn f.vars l = let value = c.var.ensures.value in let low = c.var.ensures.low in let vars = c.vars.ensures in let most = c.if-var-vars.false in record { low = omega arith; high = omega arith } in
    let none : has us l ≡ false = ap (λ (ls : List Literal). has ls l) (sym c.as_slice.ensures.value) ∙ sym c.is_among.ensures ∙ c.if-is_among.false in
    let p = with_one f ss us ns l c.args.self.ready on none in
    let whole : c.push.new.self ≡ record f { clauses = f.clauses ++ (l ∷ []) ∷ [] } = c.in_ok-push.ensures.ok ∙ (λ i. record f { clauses = f.clauses ++ c.in_ok-from_lits.ensures.value i ∷ [] }) in
    let listed : c.push-3.new.self.items ≡ ns ++ (l, length f.clauses + 1) ∷ [] = c.in_ok-push-3.ensures.items ∙ (λ i. ns ++ (l, c.next_number-number.ensures i) ∷ []) in
    record {
      ready = subst (λ (y : FormulaData × List Literal × List (Literal × ℕ)). IsProblem y.0 ss y.1 y.2) (λ i. (sym whole i, sym c.in_ok-push-2.ensures.items i, sym listed i)) p;
    }
