use Rattle.std.proofs.Common.{take}
use Rattle.simp_base.specs.WorkState.{has_unit}
use Rattle.simp_equiv.specs.Arrows.{Draws, arrows_in}
use Rattle.simp_equiv.proofs.graph.graph_of.Given as goal

abbrev pub invariant-loop-cell : goal.invariant-loop-cell
invariant-loop-cell g l = Draws l.work.vars (arrows_in (has_unit l.work) (take l.cell-index l.work.clauses)) l.graph.items
