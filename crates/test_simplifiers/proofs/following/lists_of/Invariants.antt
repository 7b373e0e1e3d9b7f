use Rattle.std.proofs.Common.{◌≡◌, take}
use Rattle.simp_base.specs.WorkState.{lists}
use Rattle.test_simplifiers.proofs.following.lists_of.Given as goal

abbrev pub invariant-loop-cell : goal.invariant-loop-cell
invariant-loop-cell l = l.clauses.items ≡ lists (take l.cell-index l.cells)
