use Rattle.std.proofs.Common.{drop}
use Rattle.simp_units.specs.Progress.{Passed}
use Rattle.simp_units.proofs.propagate.visit.Given as goal

abbrev pub invariant-loop-number : goal.invariant-loop-number
invariant-loop-number g l = Passed l.initial.work l.initial.values l.work l.values l.numbers (drop l.number-index l.numbers)
