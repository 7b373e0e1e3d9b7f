use Rattle.std.proofs.Common.{◌∙◌, ap, arith}
use Rattle.std.proofs.lemmas.List.{get_or_default}
use Rattle.sat_words.specs.Literal.{code_of}
use Rattle.simp_base.specs.Hinting.{no_step}
use Rattle.simp_base.specs.declared.hints.trail.Step.{Step}
use Rattle.simp_base.proofs.TrailTables.{all_left, one_less, none_left}
use Rattle.simp_base.proofs.hints.trail.forget.Goals as goal

pub loop-step-init : goal.loop-step-init
loop-step-init c = all_left c.args.steps.now c.args.places.now c.requires

pub loop-step-preserved : goal.loop-step-preserved
loop-step-preserved c =
    one_less c.args.steps.now c.loop-step.places c.loop-step.step-index c.code.result c.loop-step-test.true
    (c.code.ensures ∙ ap (λ (x : Step). code_of x.lit) (c.step-item.is ∙ get_or_default c.args.steps.now c.loop-step.step-index c.step-item.result no_step c.loop-step-test.true)) c.loop-step.invariant

pub returns : goal.returns
returns c = none_left c.args.steps.now c.loop-step.step-index c.loop-step.places (omega (arith, c.loop-step-test.false)) c.loop-step.invariant
