use Rattle.std.proofs.Common.{subst}
use Rattle.sat_words.specs.Literal.{Literal, code_of}
use Rattle.simp_equiv.specs.Arrows.{MoreEdge}
use Rattle.simp_equiv.proofs.Edges.{draws_both}
use Rattle.simp_equiv.proofs.graph.add_both.Goals as goal

pub returns : goal.returns
returns c = λ given d.
    let first = subst (λ (l : Literal). MoreEdge c.args.graph.now.items c.add_edge.new.graph.items (code_of l) (code_of c.args.b)) c.not.ensures c.in_ok-add_edge.ensures in
    let second = subst (λ (l : Literal). MoreEdge c.add_edge.new.graph.items c.add_edge-2.new.graph.items (code_of l) (code_of c.args.a)) c.not-2.ensures c.in_ok-add_edge-2.ensures in
    draws_both c.args.vars given c.args.graph.now.items c.add_edge.new.graph.items c.add_edge-2.new.graph.items c.args.a c.args.b c.requires.a_on.high c.requires.b_on.high c.requires.a_few c.requires.b_few first second d
