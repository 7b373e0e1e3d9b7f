use Rattle.std.proofs.Common.{◌≡◌, ◌++◌, take}
use Rattle.simp_add.specs.Common.{others}
use Rattle.simp_add.proofs.numbers.put_others.Given as goal

abbrev pub invariant-loop-lit : goal.invariant-loop-lit
invariant-loop-lit l = l.rest.items ≡ l.initial.rest.items ++ others l.but (take l.lit-index l.lits)
