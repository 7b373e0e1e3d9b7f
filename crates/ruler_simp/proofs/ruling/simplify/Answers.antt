use Rattle.std.proofs.Common.{ap, subst}
use Rattle.simp_base.specs.WorkState.{WorkState}
use Rattle.ruler_simp.specs.Rounds.{WasSimplified}
use Rattle.ruler_simp.proofs.Telling.{ruled, none_made}
use Rattle.ruler_simp.proofs.ruling.simplify.Goals as goal

pub returns-in-Err : goal.returns-in-Err
returns-in-Err g c =
    none_made c.args.formula.now c.args.schedule (g.L.LineOut.told c.args.output) c.requires.unspent c.requires.blank c.requires.last c.requires.on
    (g.L.LineOut.told c.in-Err.refused.value) (ap g.L.LineOut.told c.in-Err.ensures.back)

pub returns : goal.returns
returns g c =
    ruled c.args.formula.now c.args.schedule (g.L.LineOut.told c.args.output) c.requires.unspent c.requires.blank c.requires.last c.requires.on
    c.run-answer.new.work c.run-answer.ensures.work (g.L.LineOut.told c.take.result.1) c.take.ensures.output c.run-answer.result
    (subst (λ (w : WorkState). WasSimplified c.args.schedule w c.run-answer.new.work c.run-answer.result) c.in-Ok.ensures.made c.run-answer.ensures.ran)
    c.take.result.0 c.take.ensures.taken
