use Rattle.simp_units.specs.Progress.{Spread}
use Rattle.simp_units.proofs.propagate.spread.Given as goal

abbrev pub invariant-loop-next : goal.invariant-loop-next
invariant-loop-next g l = Spread l.initial.work l.initial.values l.work l.values l.next
