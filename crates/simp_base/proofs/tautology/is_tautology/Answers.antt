use Rattle.std.proofs.Common.{◌≡◌, ◌-◌, ◌∙◌, sym, ap, subst, List, arith}
use Rattle.sat_words.specs.Literal.{Literal}
use Rattle.sat_words.specs.Clause.{InOrder, has_opposites}
use Rattle.simp_base.proofs.Neighbours.{beside_or_not, last_alone}
use Rattle.simp_base.proofs.tautology.is_tautology.Goals as goal

pub returns : goal.returns
returns c =
    let lits : List Literal = c.lits-lits.result.now in
    let same : lits ≡ c.args.clause.now = c.lits-lits.ensures.value in
    sym (ap has_opposites (sym same) ∙ beside_or_not lits (subst InOrder (sym same) c.lits-lits.ensures.ordered)
    ∙ c.loop-i.invariant ∙ last_alone lits (c.loop-i.i - 1) (omega (arith, c.loop-i-test.false)))
