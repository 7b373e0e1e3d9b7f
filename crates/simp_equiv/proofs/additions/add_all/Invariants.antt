use Rattle.std.proofs.Common.{drop}
use Rattle.simp_equiv.specs.Tables.{stand_in}
use Rattle.simp_equiv.specs.Rewritten.{Adding}
use Rattle.simp_equiv.proofs.additions.add_all.Given as goal

abbrev pub invariant-loop-number : goal.invariant-loop-number
invariant-loop-number g l = Adding l.initial.work l.work (stand_in l.table) (drop l.number-index l.numbers)
