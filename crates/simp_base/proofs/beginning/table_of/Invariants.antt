use Rattle.std.proofs.Common.{◌≡◌, ◌+◌, ◌*◌, take}
use Rattle.simp_base.specs.WorkState.{numbered}
use Rattle.simp_base.proofs.beginning.table_of.Given as goal

abbrev pub invariant-loop-i : goal.invariant-loop-i
invariant-loop-i l = (l.table.clauses ≡ numbered 1 (take l.i l.clauses)) × (l.table.next ≡ l.i + 1) × (l.table.codes ≡ 2 * (l.formula.vars + 1))
