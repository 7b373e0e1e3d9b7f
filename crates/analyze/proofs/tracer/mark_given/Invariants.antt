use Rattle.std.proofs.Common.{take}
use Rattle.analyze.specs.Noting.{IsNoting, HasNoted}
use Rattle.analyze.specs.declared.tracer.Note.TheVariants.{Given}
use Rattle.analyze.proofs.tracer.mark_given.Given as goal

abbrev pub invariant-loop-lit : goal.invariant-loop-lit
invariant-loop-lit l = record {
  noting : IsNoting l.trail.steps l.trail.vars l.table;
  given : HasNoted l.trail.steps Given l.fn.table l.table (take l.lit-index l.line);
}
