use Rattle.std.proofs.Common.{◌∙◌, sym, subst}
use Rattle.share_core.specs.Machine.{CoreData, data_of, state_of, Kept}
use Rattle.share_core.specs.Steps.{Runs}
use Rattle.share_core.proofs.running.Core.run.Goals as goal

pub run-requires : goal.run-requires
run-requires c = subst Kept (sym (c.in_ok-next.ensures.same c.self.inside.origin)) c.self.invariant

pub returns-clause-ok : goal.returns-clause-ok
returns-clause-ok c = subst (λ (d : CoreData). Runs (state_of d) c.args.events.now c.in_ok-all.all (state_of (data_of c.self.inside.origin c.run.new.self)))
    (c.in_ok-next.ensures.same c.self.inside.origin ∙ c.self.view_is) c.in_ok-all.ensures.runs
