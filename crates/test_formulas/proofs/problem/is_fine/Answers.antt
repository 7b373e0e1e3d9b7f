use Rattle.std.proofs.Common.{◌∙◌, sym, subst}
use Rattle.sat_words.specs.Clause.{InOrder}
use Rattle.test_formulas.specs.Problems.{IsFine}
use Rattle.test_formulas.proofs.Openings.{fine_from}
use Rattle.test_formulas.proofs.problem.is_fine.Goals as goal

pub returns : goal.returns
returns c = λ t.
    let lits = c.lits-lits.result.now in
    let order = subst InOrder (sym c.lits-lits.ensures.value) c.lits-lits.ensures.ordered in
    subst (IsFine c.args.vars) c.lits-lits.ensures.value (fine_from c.args.vars lits order c.if-lits-lt2.false (sym c.has_both.ensures ∙ c.if-has_both.false) (sym c.are_on.ensures ∙ t))
