use Rattle.std.proofs.Common.{◌≡◌, ◌∙◌, ℕ, get_or, ap, subst, inl, inr, arith, rules, All}
use Rattle.std.proofs.lemmas.Bool.{cases_lt}
use Rattle.std.proofs.lemmas.List.{get_or_default}
use Rattle.sat_words.specs.Literal.{IsOn}
use Rattle.ring_walk.proofs.tests.are_on.Goals as goal

pub loop-clause-preserved : goal.loop-clause-preserved
loop-clause-preserved c = λ k d lt. elim (cases_lt k c.loop-clause.clause-index) as (λ _. All (IsOn c.args.vars) (get_or c.args.clauses.now k d)) [
  | inl before ↦ c.loop-clause.invariant k d before
  | inr here ↦ (
      let e : c.loop-clause.clause-index ≡ k = omega arith in
      let on : All (IsOn c.args.vars) c.lits.result.now = search rules in
      subst (All (IsOn c.args.vars)) (c.lits.ensures.value ∙ c.clause-item.is ∙ get_or_default c.args.clauses.now c.loop-clause.clause-index c.clause-item.result d c.loop-clause-test.true ∙ ap (λ (i : ℕ). get_or c.args.clauses.now i d) e) on)
]
