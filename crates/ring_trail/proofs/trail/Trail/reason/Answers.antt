use Rattle.std.proofs.Common.{ap, ◌∙◌, sym}
use Rattle.std.specs.Option.{option_and_then}
use Rattle.ring_trail.specs.declared.step.TrailStep.{TrailStep}
use Rattle.ring_trail.proofs.Shape.{step_at_place, step_read}
use Rattle.ring_trail.proofs.Values.{step_of-no_place}
use Rattle.ring_trail.proofs.trail.Trail.reason.Goals as goal

pub returns-in_err-place : goal.returns-in_err-place
returns-in_err-place c =
    c.from_residual.ensures ∙ sym (ap (option_and_then (λ (s : TrailStep). s.reason)) (step_of-no_place c.args.self.now.steps c.args.var (c.in_err-place.ensures {u = tt}).place))

pub returns : goal.returns
returns c =
    let e = c.in_ok-place.ensures {u = tt} in
    sym (ap (option_and_then (λ (s : TrailStep). s.reason))
    (step_at_place c.args.self.now c.args.var c.in_ok-place.place e.trail e.place
    ∙ step_read c.self.inside c.args.self.now c.args.var c.in_ok-place.place c.index.result.now c.self.view_is e.place c.index.ensures))
