use Rattle.std.proofs.Common.{◌≡◌, ◌++◌, take}
use Rattle.simp_elim.specs.Resolution.{without}
use Rattle.simp_elim.proofs.resolution.put_others.Given as goal

abbrev pub invariant-loop-lit : goal.invariant-loop-lit
invariant-loop-lit l = l.all.items ≡ l.initial.all.items ++ without l.but (take l.lit-index l.lits)
