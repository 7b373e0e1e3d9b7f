use Rattle.std.proofs.Common.{◌<◌, ◌∙◌, length, arith}
use Rattle.simp_equiv.proofs.Moves.{root_opened, mark_read}
use Rattle.simp_equiv.proofs.components.start.Goals as goal

pub explore-requires-clause-searching : goal.explore-requires-clause-searching
explore-requires-clause-searching c =
    let size = c.requires.searching.sized in
    let node = c.requires.node in
    let lt : c.args.root < length c.args.search.now.marks.items = omega arith in
    let o = c.in_ok-open-in-New.ensures in
    root_opened c.args.graph.now c.args.search.now c.open.new.search c.args.root c.requires.searching c.requires.empty lt
    (mark_read c.args.search.now.marks.items c.args.root c.index.result.now lt c.index.ensures ∙ c.in-New.is)
    o.marks o.stack o.frames o.closed
