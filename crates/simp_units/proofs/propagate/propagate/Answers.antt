use Rattle.std.proofs.Common.{◌∙◌, ap, subst, Ok}
use Rattle.simp_units.specs.Progress.{WasVisited}
use Rattle.simp_units.proofs.Queue.{whole, stuck_whole}
use Rattle.simp_units.proofs.propagate.propagate.Goals as goal

pub returns-in-Ok-Quiet-clause-propagated : goal.returns-in-Ok-Quiet-clause-propagated
returns-in-Ok-Quiet-clause-propagated g c =
    whole c.args.work.now c.visit.new.work c.args.values.now c.visit.new.values c.args.numbers.now c.requires.begun c.requires.each
    (subst (λ r. WasVisited c.args.work.now c.args.values.now c.visit.new.work c.visit.new.values c.args.numbers.now r) (c.in-Ok-Quiet.is ∙ ap Ok c.in-Ok-Quiet.field-0-is) c.visit.ensures.visited)
    c.spread.new.work c.spread.new.values c.spread.result c.spread.ensures.spread

pub returns-in-Ok-Conflict-clause-propagated : goal.returns-in-Ok-Conflict-clause-propagated
returns-in-Ok-Conflict-clause-propagated g c =
    stuck_whole c.args.work.now c.visit.new.work c.args.values.now c.visit.new.values c.args.numbers.now c.requires.begun c.requires.each
    (subst (λ r. WasVisited c.args.work.now c.args.values.now c.visit.new.work c.visit.new.values c.args.numbers.now r) (c.in-Ok-Conflict.is ∙ ap Ok c.in-Ok-Conflict.field-0-is) c.visit.ensures.visited)
