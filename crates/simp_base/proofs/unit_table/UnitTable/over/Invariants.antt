use Rattle.std.proofs.Common.{◌≡◌, ◌+◌, ◌*◌, take}
use Rattle.simp_base.proofs.unit_table.UnitTable.over.Given as goal

abbrev pub invariant-loop-unit : goal.invariant-loop-unit
invariant-loop-unit l = (l.table.items ≡ take l.unit-index l.units) × (l.table.codes ≡ 2 * (l.vars + 1))
