use Rattle.std.proofs.Common.{true, map, take, []}
use Rattle.simp_elim.specs.Resolution.{resolvents}
use Rattle.simp_elim.specs.Bounds.{Extends}
use Rattle.simp_elim.specs.Occurring.{clause_at}
use Rattle.simp_elim.proofs.resolution.resolvents.Given as goal

abbrev pub invariant-loop-first : goal.invariant-loop-first
invariant-loop-first g l = Extends l.most [] (resolvents l.on (map (clause_at l.work.clauses) (take l.first-index l.firsts)) (map (clause_at l.work.clauses) l.seconds)) l.made.items true
