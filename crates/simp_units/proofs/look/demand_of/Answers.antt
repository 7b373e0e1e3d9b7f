use Rattle.std.proofs.Common.{sym, ◌∙◌}
use Rattle.rup_model.proofs.StatusLemmas.{falsifies_from_none, settled_from_true, settled_from_two, unit_from}
use Rattle.simp_units.proofs.look.demand_of.Goals as goal

pub returns-in-None : goal.returns-in-None
returns-in-None c = falsifies_from_none c.args.a.now c.args.clause.now (sym c.in-None.ensures)

pub returns-then-is_true : goal.returns-then-is_true
returns-then-is_true c = settled_from_true c.args.a.now c.args.clause.now c.in-Some.lit (sym c.in-Some.ensures) (sym c.is_true.ensures ∙ c.if-is_true.true)

pub returns-then-others_false : goal.returns-then-others_false
returns-then-others_false c =
    unit_from c.args.a.now c.args.clause.now c.in-Some.lit (sym c.in-Some.ensures) (sym c.is_true.ensures ∙ c.if-is_true.false)
    (sym c.others_false.ensures ∙ c.if-others_false.true)

pub returns-else-others_false : goal.returns-else-others_false
returns-else-others_false c =
    settled_from_two c.args.a.now c.args.clause.now c.in-Some.lit (sym c.in-Some.ensures)
    (sym c.others_false.ensures ∙ c.if-others_false.false)
