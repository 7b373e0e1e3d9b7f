use Rattle.std.proofs.Common.{◌≡◌, ℕ, length, []}
use Rattle.simp_equiv.specs.Graphs.{targets}
use Rattle.simp_equiv.proofs.graph.empty_graph.Given as goal

abbrev pub invariant-loop-node : goal.invariant-loop-node
invariant-loop-node l = record {
  size : length l.graph.items ≡ l.node;
  none : (u : ℕ) → targets l.graph.items u ≡ [];
}
