use Rattle.std.proofs.Common.{take, map}
use Rattle.simp_elim.specs.Resolution.{fix_of}
use Rattle.simp_elim.specs.Occurring.{clause_at}
use Rattle.simp_base.specs.Stacked.{Stacked}
use Rattle.simp_elim.proofs.entries.push_each.Given as goal

abbrev pub invariant-loop-number : goal.invariant-loop-number
invariant-loop-number g l = Stacked l.initial.work l.work (map (fix_of l.lit) (map (clause_at l.initial.work.clauses) (take l.number-index l.numbers)))
