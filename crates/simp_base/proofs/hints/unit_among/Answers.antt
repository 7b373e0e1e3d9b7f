use Rattle.std.proofs.Common.{◌≡◌, ◌≢◌, ◌∙◌, get_or, sym, ap, subst, arith}
use mathlib.Core.Logic.{dite}
use native.Mathlib.Decide.{ℕ_discrete}
use Rattle.std.proofs.lemmas.List.{get_or_default}
use Rattle.sat_words.specs.Literal.{Literal}
use Rattle.rup_model.proofs.Lists.{has_In, In_Contains}
use Rattle.simp_base.specs.Tables.{IsUnit}
use Rattle.simp_base.proofs.hints.unit_among.Goals as goal

pub loop-lit-preserved : goal.loop-lit-preserved
loop-lit-preserved c k d lt u =
    let cells = c.args.clauses.now.clauses in let lits = c.args.lits.now in let i = c.loop-lit.lit-index in let l : Literal = c.lit-item.result in
    dite (ℕ_discrete k i)
    (λ (e : k ≡ i). (let v : IsUnit cells l = subst (IsUnit cells) (ap (λ j. get_or lits j d) e ∙ get_or_default lits i d l c.loop-lit-test.true ∙ sym c.lit-item.is) u in c.in_default.ensures v.0 v.1))
    (λ (ne : k ≢ i). c.loop-lit.invariant k d (omega (arith, lt, ne)) u)

pub returns-clause-none : goal.returns-clause-none
returns-clause-none c l h u =
    let lits = c.args.lits.now in
    let k = In_Contains lits l (has_In lits l h) in
    c.loop-lit.invariant k.0 l (omega (arith, k.1, c.loop-lit-test.false)) (subst (IsUnit c.args.clauses.now.clauses) (sym k.2) u)
