use Rattle.std.proofs.Common.{drop}
use Rattle.simp_subsume.specs.Compared.{Comparing}
use Rattle.simp_subsume.proofs.compare.compare_with_all.Given as goal

abbrev pub invariant-loop-other : goal.invariant-loop-other
invariant-loop-other g l = Comparing l.initial.work l.work l.number l.clause (drop l.other-index l.others)
