use Rattle.std.proofs.Common.{take}
use Rattle.simp_elim.specs.Occurring.{Collected}
use Rattle.simp_elim.proofs.occurrences.occurrences_of.Given as goal

abbrev pub invariant-loop-number : goal.invariant-loop-number
invariant-loop-number g l = Collected l.work l.lit l.found.items (take l.number-index l.number-items)
