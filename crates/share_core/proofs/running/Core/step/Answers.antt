use Rattle.std.proofs.Common.{◌∙◌, sym, subst}
use Rattle.share_core.specs.Machine.{CoreData, data_of, state_of, Kept}
use Rattle.share_core.specs.Steps.{Steps}
use Rattle.share_core.proofs.running.Core.step.Goals as goal

pub step-requires : goal.step-requires
step-requires c = subst Kept (sym (c.in_ok-next.ensures.same c.self.inside.origin)) c.self.invariant

pub returns-clause-ok : goal.returns-clause-ok
returns-clause-ok c = subst (λ (d : CoreData). Steps (state_of d) c.args.event.now c.in_ok-step.step (state_of (data_of c.self.inside.origin c.step.new.self)))
    (c.in_ok-next.ensures.same c.self.inside.origin ∙ c.self.view_is) c.in_ok-step.ensures.steps
