use Rattle.std.proofs.Common.{◌∙◌, ◌||◌, Bool, ap, sym}
use Rattle.simp_base.specs.WorkState.{has_unit}
use Rattle.simp_equiv.proofs.graph.is_fixed.Goals as goal

pub returns-else-has_unit-clause-value : goal.returns-else-has_unit-clause-value
returns-else-has_unit-clause-value g c =
    c.has_unit-else-has_unit.ensures ∙ ap (has_unit c.args.work.now) c.var-second.ensures.value
    ∙ ap (λ (t : Bool). t || has_unit c.args.work.now c.args.b.var) (sym c.if-has_unit.false ∙ c.has_unit.ensures ∙ ap (has_unit c.args.work.now) c.var-first.ensures.value)
