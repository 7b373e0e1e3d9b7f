use Rattle.std.proofs.Common.{◌≡◌, false, take}
use Rattle.std.specs.List.{list_any}
use Rattle.simp_equiv.specs.Tables.{stand_in}
use Rattle.simp_equiv.specs.Replacements.{is_moved}
use Rattle.simp_equiv.proofs.stand_in.has_moved.Given as goal

abbrev pub invariant-loop-lit : goal.invariant-loop-lit
invariant-loop-lit l = list_any (is_moved (stand_in l.table)) (take l.lit-index l.lits) ≡ false
