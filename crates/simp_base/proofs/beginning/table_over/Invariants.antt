use Rattle.std.proofs.Common.{◌≡◌, ◌+◌, ◌*◌, ◌++◌, length}
use Rattle.std.specs.Vec.Iter.{into_iter_items, into_iter_len}
use Rattle.simp_base.proofs.beginning.table_over.Given as goal

abbrev pub invariant-loop-number : goal.invariant-loop-number
invariant-loop-number l = (l.table.clauses ++ into_iter_items l.number-iterator ≡ l.fn.clauses.items)
    × (l.table.next ≡ l.last + 1)
    × (l.table.codes ≡ 2 * (l.vars + 1))
    × (into_iter_len l.number-iterator ≡ length (into_iter_items l.number-iterator))
