use Rattle.std.proofs.Common.{drop}
use Rattle.simp_base.specs.WorkState.{WorkState}
use Rattle.simp_equiv.specs.Tables.{stand_in}
use Rattle.simp_equiv.specs.Rewritten.{GoesOn, Removing}
use Rattle.simp_equiv.proofs.deletions.remove_all.Given as goal

abbrev pub invariant-loop-number : goal.invariant-loop-number
invariant-loop-number g l = record {
  on : GoesOn l.initial.work l.work;
  kept : (start : WorkState) → Removing start l.initial.work (stand_in l.table) l.numbers → Removing start l.work (stand_in l.table) (drop l.number-index l.numbers);
}
