use Rattle.std.proofs.Common.{◌++◌, ◌∷◌, [], List, take, sym, subst}
use Rattle.share_core.specs.declared.event.Event.{Event}
use Rattle.share_core.specs.declared.running.Step.{Step}
use Rattle.share_core.specs.State.{State}
use Rattle.share_core.specs.Machine.{data_of, state_of}
use Rattle.share_core.specs.Steps.{Runs}
use Rattle.share_core.proofs.Scans.{next_taken}
use Rattle.share_core.proofs.Stepping.{runs_more}
use Rattle.share_core.proofs.progress.Progress.run.Goals as goal

pub loop-event-preserved : goal.loop-event-preserved
loop-event-preserved c =
    let c0 : State = state_of (data_of c.args.origin.now c.args.self.now) in
    let now : State = state_of (data_of c.args.origin.now c.step.new.self) in
    let i = c.loop-event.event-index in
    let more = runs_more c0 (take i c.args.events.now) c.loop-event.all (state_of (data_of c.args.origin.now c.loop-event.self)) c.event-item.result c.in_ok-step.step now c.loop-event.invariant.runs c.in_ok-step.ensures.steps in
    record {
      kept = c.in_ok-step.ensures.kept;
      runs = subst (λ (es : List Event). Runs c0 es c.and_then-all.result now) (sym (next_taken c.args.events.now i c.event-item.result c.loop-event-test.true c.event-item.is))
          (subst (λ (s : Step). Runs c0 (take i c.args.events.now ++ c.event-item.result ∷ []) s now) (sym c.and_then-all.ensures) more);
    }
