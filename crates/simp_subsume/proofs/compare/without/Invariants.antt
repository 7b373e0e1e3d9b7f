use Rattle.std.proofs.Common.{◌≡◌, take}
use Rattle.simp_subsume.specs.Compared.{without}
use Rattle.simp_subsume.proofs.compare.without.Given as goal

abbrev pub invariant-loop-k : goal.invariant-loop-k
invariant-loop-k l = l.rest.items ≡ without l.lit (take l.k-index l.lits)
