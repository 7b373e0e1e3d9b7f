use Rattle.std.proofs.Common.{take}
use Rattle.simp_add.specs.Stages.{Removed}
use Rattle.simp_add.proofs.replacement.remove_all.Given as goal

abbrev pub invariant-loop-number : goal.invariant-loop-number
invariant-loop-number g l = Removed l.initial.work l.work (take l.number-index l.numbers)
