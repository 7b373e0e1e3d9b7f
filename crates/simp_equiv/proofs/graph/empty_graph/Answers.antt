use Rattle.std.proofs.Common.{◌∙◌, ◌∷◌, [], ap, List, ℕ, ◌+◌, length, arith}
use Rattle.std.proofs.Common.{length-append}
use Rattle.simp_equiv.specs.Graphs.{targets}
use Rattle.simp_equiv.proofs.Edges.{empties_more, empty_draws}
use Rattle.simp_equiv.proofs.graph.empty_graph.Goals as goal

pub loop-node-preserved : goal.loop-node-preserved
loop-node-preserved c =
    let e = c.in_ok-push.ensures.items in
    let s = c.loop-node.invariant.size in
    record {
      size = ap length e ∙ length-append c.loop-node.graph.items (c.new.result ∷ []) ∙ ap (λ n. n + 1) s;
      none = λ u. ap (λ (G : List (List ℕ)). targets G u) e ∙ empties_more c.loop-node.graph.items c.new.result c.loop-node.invariant.none c.new.ensures u;
    }

pub returns : goal.returns
returns c =
    let s = c.loop-node.invariant.size in
    let a = c.loop-node-test.false in
    let b = c.loop-node.auto.node-end in
    empty_draws c.args.vars c.loop-node.graph.items (omega arith) c.loop-node.invariant.none
