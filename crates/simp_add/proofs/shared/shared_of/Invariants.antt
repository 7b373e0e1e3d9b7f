use Rattle.std.proofs.Common.{take}
use Rattle.simp_add.specs.Shared.{Sharing}
use Rattle.simp_add.proofs.shared.shared_of.Given as goal

abbrev pub invariant-loop-number : goal.invariant-loop-number
invariant-loop-number g l = Sharing l.work l.lit l.partner (take l.number-index l.numbers) l.shared.firsts.items l.shared.gone.items
