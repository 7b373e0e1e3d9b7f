use Rattle.std.proofs.Common.{refl, arith}
use Rattle.portfolio_run.proofs.Cutting.{cut_next, cut_all}
use Rattle.portfolio_run.proofs.decision.cut.Goals as goal

pub loop-taken-init : goal.loop-taken-init
loop-taken-init c = (c.requires.long, refl)

pub loop-taken-preserved : goal.loop-taken-preserved
loop-taken-preserved c =
    let at = c.loop-taken.invariant in
    cut_next c.loop-taken.values c.args.model.now c.set.new.self c.loop-taken.taken c.args.vars c.value.result c.loop-taken-test.true c.requires.in_range at.0 at.1 c.value.ensures c.set.ensures

pub returns : goal.returns
returns c =
    let at = c.loop-taken.invariant in
    let le = c.loop-taken.auto.taken-end in
    let ge = c.loop-taken-test.false in
    cut_all c.loop-taken.values c.args.model.now c.loop-taken.taken c.args.vars (omega arith) at.0 at.1
