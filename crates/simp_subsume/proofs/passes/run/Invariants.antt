use Rattle.simp_subsume.specs.Compared.{Processed}
use Rattle.simp_subsume.proofs.passes.run.Given as goal

abbrev pub invariant-loop-number : goal.invariant-loop-number
invariant-loop-number g l = Processed l.initial.work l.work l.number
