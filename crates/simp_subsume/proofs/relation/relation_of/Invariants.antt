use Rattle.std.proofs.Common.{take}
use Rattle.simp_subsume.proofs.Walking.{Walked}
use Rattle.simp_subsume.proofs.relation.relation_of.Given as goal

abbrev pub invariant-loop-lit : goal.invariant-loop-lit
invariant-loop-lit l = Walked l.clause (take l.lit-index l.other) l.walk
