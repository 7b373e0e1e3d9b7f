use Rattle.std.proofs.Common.{◌≡◌, ◌∙◌, ℕ, get_or, ap, subst, inl, inr, arith}
use Rattle.std.proofs.lemmas.Bool.{cases_lt}
use Rattle.std.proofs.lemmas.List.{get_or_default}
use Rattle.sat_words.specs.Literal.{Literal, IsOn}
use Rattle.ring_walk.proofs.tests.lits_on.Goals as goal

pub loop-lit-preserved : goal.loop-lit-preserved
loop-lit-preserved c = λ k d lt. elim (cases_lt k c.loop-lit.lit-index) as (λ _. IsOn c.args.vars (get_or c.args.lits.now k d)) [
  | inl before ↦ c.loop-lit.invariant k d before
  | inr here ↦ (
      let e : c.loop-lit.lit-index ≡ k = omega arith in
      let low = c.var.ensures.low in
      let v = c.var.ensures.value in
      let high = c.if-var-vars.false in
      let on : IsOn c.args.vars c.lit-item.result = record { low = omega arith; high = omega arith } in
      subst (λ (l : Literal). IsOn c.args.vars l) (c.lit-item.is ∙ get_or_default c.args.lits.now c.loop-lit.lit-index c.lit-item.result d c.loop-lit-test.true ∙ ap (λ (i : ℕ). get_or c.args.lits.now i d) e) on)
]
