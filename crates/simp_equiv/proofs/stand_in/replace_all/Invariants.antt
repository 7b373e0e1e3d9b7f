use Rattle.std.proofs.Common.{◌≡◌, map, take}
use Rattle.simp_equiv.specs.Tables.{stand_in}
use Rattle.simp_equiv.proofs.stand_in.replace_all.Given as goal

abbrev pub invariant-loop-lit : goal.invariant-loop-lit
invariant-loop-lit l = l.replaced.items ≡ map (stand_in l.table) (take l.lit-index l.lits)
