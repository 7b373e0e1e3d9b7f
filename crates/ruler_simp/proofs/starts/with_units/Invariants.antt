use Rattle.std.proofs.Common.{◌≡◌, ◌++◌, take}
use Rattle.simp_base.specs.WorkState.{unit_cells}
use Rattle.ruler_simp.proofs.starts.with_units.Given as goal

abbrev pub invariant-loop-unit : goal.invariant-loop-unit
invariant-loop-unit l = l.cells.items ≡ l.fn.clauses.items ++ unit_cells (take l.unit-index l.units)
