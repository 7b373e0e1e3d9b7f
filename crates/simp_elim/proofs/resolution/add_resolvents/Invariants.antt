use Rattle.std.proofs.Common.{true, map, take}
use Rattle.simp_elim.specs.Resolution.{resolved_with}
use Rattle.simp_elim.specs.Bounds.{Extends}
use Rattle.simp_elim.specs.Occurring.{clause_at}
use Rattle.simp_elim.proofs.resolution.add_resolvents.Given as goal

abbrev pub invariant-loop-other : goal.invariant-loop-other
invariant-loop-other g l = Extends l.most l.initial.made.items (resolved_with l.on (map (clause_at l.work.clauses) (take l.other-index l.others)) l.first) l.made.items true
