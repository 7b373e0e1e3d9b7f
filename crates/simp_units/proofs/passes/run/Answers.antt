use Rattle.std.proofs.Common.{◌∙◌, ap, subst, Ok}
use Rattle.simp_base.proofs.LiftSteps.{logs_along}
use Rattle.simp_units.specs.Progress.{WasPropagated, Propagated, Falsified}
use Rattle.simp_units.proofs.Ending.{ends_done}
use Rattle.simp_units.proofs.passes.run.Goals as goal

pub returns-in-Ok-Conflict-clause-log : goal.returns-in-Ok-Conflict-clause-log
returns-in-Ok-Conflict-clause-log g c =
    let old = c.args.work.now in let mid = c.begin.new.work in let new = c.refute.new.work in
    let f : Falsified old mid = subst (λ r. WasPropagated old mid c.begin.new.values r) (c.in-Ok-Conflict.is ∙ ap Ok c.in-Ok-Conflict.field-0-is) c.begin.ensures.begun in
    logs_along old mid new f.log c.refute.ensures.log

pub returns-in_err-clean-in-Ok-Quiet-clause-log : goal.returns-in_err-clean-in-Ok-Quiet-clause-log
returns-in_err-clean-in-Ok-Quiet-clause-log g c =
    let old = c.args.work.now in let mid = c.begin.new.work in let new = c.clean.new.work in
    let p : Propagated old mid c.begin.new.values = subst (λ r. WasPropagated old mid c.begin.new.values r) (c.in-Ok-Quiet.is ∙ ap Ok c.in-Ok-Quiet.field-0-is) c.begin.ensures.begun in
    logs_along old mid new p.log c.in_err-clean-in-Ok-Quiet.ensures.cleaned.1

pub returns-in-Ok-Quiet-clause-ends : goal.returns-in-Ok-Quiet-clause-ends
returns-in-Ok-Quiet-clause-ends g c =
    let old = c.args.work.now in let mid = c.begin.new.work in let new = c.clean.new.work in
    let p : Propagated old mid c.begin.new.values = subst (λ r. WasPropagated old mid c.begin.new.values r) (c.in-Ok-Quiet.is ∙ ap Ok c.in-Ok-Quiet.field-0-is) c.begin.ensures.begun in
    (ends_done old mid new c.begin.new.values p c.in_ok-clean-in-Ok-Quiet.ensures.cleaned).0

pub returns-in-Ok-Quiet-clause-log : goal.returns-in-Ok-Quiet-clause-log
returns-in-Ok-Quiet-clause-log g c =
    let old = c.args.work.now in let mid = c.begin.new.work in let new = c.clean.new.work in
    let p : Propagated old mid c.begin.new.values = subst (λ r. WasPropagated old mid c.begin.new.values r) (c.in-Ok-Quiet.is ∙ ap Ok c.in-Ok-Quiet.field-0-is) c.begin.ensures.begun in
    (ends_done old mid new c.begin.new.values p c.in_ok-clean-in-Ok-Quiet.ensures.cleaned).1
