use Rattle.std.proofs.Common.{take}
use Rattle.simp_add.specs.Alike.{Listed}
use Rattle.simp_add.proofs.alike.list_alike.Given as goal

abbrev pub invariant-loop-number : goal.invariant-loop-number
invariant-loop-number g l = Listed l.work l.rest (take l.number-index l.number-items) l.found.items
