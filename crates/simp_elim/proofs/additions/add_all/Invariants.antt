use Rattle.std.proofs.Common.{take}
use Rattle.simp_elim.specs.Stages.{Grown}
use Rattle.simp_elim.proofs.additions.add_all.Given as goal

abbrev pub invariant-loop-clause : goal.invariant-loop-clause
invariant-loop-clause g l = Grown l.initial.work l.work (take l.clause-index l.clauses)
