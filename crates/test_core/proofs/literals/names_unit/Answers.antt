use Rattle.std.proofs.Common.{◌≡◌, ◌∙◌, ◌-◌, ℕ, suc, List, Option, Some, subst, ap, arith}
use Rattle.sat_words.specs.Literal.{Literal}
use Rattle.sat_words.specs.Clause.{InOrder}
use Rattle.share_core.specs.Guards.{is_unit}
use Rattle.share_core.proofs.Rounding.{given_at}
use Rattle.test_core.proofs.literals.names_unit.Goals as goal

pub returns : goal.returns
returns c =
    let k : ℕ = c.args.number - 1 in
    let e : c.args.number ≡ suc k = omega arith in
    c.is_only.ensures
    ∙ ap (is_unit c.args.lit) (ap (λ (ls : List Literal). Some ls) (c.lits.ensures.value ∙ c.index-clauses-index.is)
    ∙ given_at c.args.clauses.now c.args.number k c.index-clauses-index.result e (omega arith) (subst InOrder c.index-clauses-index.is c.lits.ensures.ordered))
