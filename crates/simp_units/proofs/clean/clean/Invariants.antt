use Rattle.std.proofs.Common.{drop}
use Rattle.simp_units.specs.Tidied.{Tidied}
use Rattle.simp_units.proofs.clean.clean.Given as goal

abbrev pub invariant-loop-number : goal.invariant-loop-number
invariant-loop-number g l = Tidied l.initial.work l.work l.values (drop l.number-index l.number-items)
