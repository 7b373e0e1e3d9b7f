use Rattle.std.proofs.Common.{◌∙◌, ◌∷◌, [], ℕ, sym, ap, subst, Contains, IfNone, Option}
use Rattle.sat_words.specs.Literal.{Literal, opposite}
use Rattle.sat_words.proofs.Members.{opposite-opposite}
use Rattle.simp_base.specs.Tables.{IsUnit}
use Rattle.simp_base.proofs.hints.opposite_units.Goals as goal

pub returns-in_err-first-clause-none : goal.returns-in_err-first-clause-none
returns-in_err-first-clause-none c =
    let cells = c.args.clauses.now.clauses in
    subst (λ (o : Option (ℕ × ℕ)). IfNone o ((l : Literal) → IsUnit cells l → IsUnit cells (opposite l) → ⊥)) (sym c.from_residual-in_err-first.ensures)
    (λ l u v. let k = c.in_ok-clash.ensures.1 in c.in_err-first.ensures k.0 (subst (λ (x : Literal). Contains cells (k.0, x ∷ [])) (sym c.not-lit.ensures) k.1))

pub returns-in_err-second-clause-none : goal.returns-in_err-second-clause-none
returns-in_err-second-clause-none c =
    let cells = c.args.clauses.now.clauses in
    let back = c.not.ensures ∙ ap opposite c.not-lit.ensures ∙ opposite-opposite c.in_ok-clash.field-0 in
    subst (λ (o : Option (ℕ × ℕ)). IfNone o ((l : Literal) → IsUnit cells l → IsUnit cells (opposite l) → ⊥)) (sym c.from_residual-in_err-second.ensures)
    (λ l u v. let k = c.in_ok-clash.ensures.0 in c.in_err-second.ensures k.0 (subst (λ (x : Literal). Contains cells (k.0, x ∷ [])) (sym back) k.1))
