use Rattle.std.proofs.Common.{arith}
use Rattle.analyze.proofs.Causes.{told_at}
use Rattle.analyze.proofs.tracer.told_number.Goals as goal

pub returns : goal.returns
returns g c = record {
  told = told_at (g.P.Port.state c.args.port.now) c.args.trail.now.steps c.args.place c.unit_number.result (omega (arith, c.level_at.ensures, c.if-level_at-ne0.false)) (rw c.lit_at.ensures at c.unit_number.ensures.told);
}
