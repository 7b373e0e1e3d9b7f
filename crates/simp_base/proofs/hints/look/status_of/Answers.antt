use Rattle.std.proofs.Common.{sym, ◌∙◌}
use Rattle.simp_base.specs.Search.{true_set}
use Rattle.simp_base.proofs.Looking.{none_open, settled_by_true, settled_by_two, forced_by}
use Rattle.simp_base.proofs.hints.look.status_of.Goals as goal

pub returns-in-None : goal.returns-in-None
returns-in-None c = none_open (true_set c.args.clauses.now.clauses c.args.trail.now.steps) c.args.lits.now (sym c.in-None.ensures)

pub returns-then-is_true : goal.returns-then-is_true
returns-then-is_true c = settled_by_true (true_set c.args.clauses.now.clauses c.args.trail.now.steps) c.args.lits.now c.in-Some.lit (sym c.in-Some.ensures) (sym c.is_true.ensures ∙ c.if-is_true.true)

pub returns-then-others_false : goal.returns-then-others_false
returns-then-others_false c =
    forced_by (true_set c.args.clauses.now.clauses c.args.trail.now.steps) c.args.lits.now c.in-Some.lit (sym c.in-Some.ensures) (sym c.is_true.ensures ∙ c.if-is_true.false)
    (sym c.others_false.ensures ∙ c.if-others_false.true)

pub returns-else-others_false : goal.returns-else-others_false
returns-else-others_false c =
    settled_by_two (true_set c.args.clauses.now.clauses c.args.trail.now.steps) c.args.lits.now c.in-Some.lit (sym c.in-Some.ensures) (sym c.others_false.ensures ∙ c.if-others_false.false)
