use Rattle.std.proofs.Common.{◌∙◌, arith}
use Rattle.clause_cell.proofs.Steps.{ends_over, clear_over_here, given_both_blocks, filled_others}
use Rattle.clause_cell.proofs.holes.give_over.Goals as goal

pub overflow_add-len : goal.overflow_add-len
overflow_add-len c = let ends = ends_over c.args.first c.args.len c.args.blocks.now.items c.args.i c.index_mut.result.now c.requires.blocks c.requires.clear c.requires.home c.index_mut.ensures.value c.index.result.now c.first-next.result c.requires.range c.requires.next c.index.ensures c.first-next.ensures in omega arith

pub give-requires-clause-range : goal.give-requires-clause-range
give-requires-clause-range c = let some = c.requires.range in (omega arith, ends_over c.args.first c.args.len c.args.blocks.now.items c.args.i c.index_mut.result.now c.requires.blocks c.requires.clear c.requires.home c.index_mut.ensures.value c.index.result.now c.first-next.result c.requires.range c.requires.next c.index.ensures c.first-next.ensures)

pub give-requires-clause-clear : goal.give-requires-clause-clear
give-requires-clause-clear c = clear_over_here c.args.first c.args.len c.args.blocks.now.items c.args.i c.index_mut.result.now c.requires.blocks c.requires.clear c.requires.home c.index_mut.ensures.value c.index.result.now c.first-next.result c.requires.range c.requires.next c.index.ensures c.first-next.ensures

pub drop_empty-requires-clause-others : goal.drop_empty-requires-clause-others
drop_empty-requires-clause-others c = filled_others c.args.first c.args.len c.args.blocks.now.items c.args.i c.index_mut.result.now c.requires.blocks c.requires.clear c.requires.home c.index_mut.ensures.value c.index.result.now c.first-next.result c.requires.range c.requires.next c.index.ensures c.first-next.ensures c.give.new.self c.index_mut-2.result.now c.remove_first.new.self c.in_ok-give.ensures.given c.index_mut-2.ensures.value c.remove_first.ensures

pub returns-clause-given : goal.returns-clause-given
returns-clause-given c = c.drop_empty.ensures.same ∙ given_both_blocks c.args.first c.args.len c.args.blocks.now.items c.args.i c.index_mut.result.now c.requires.blocks c.requires.clear c.requires.home c.index_mut.ensures.value c.index.result.now c.first-next.result c.requires.range c.requires.next c.index.ensures c.first-next.ensures c.give.new.self c.index_mut-2.result.now c.remove_first.new.self c.in_ok-give.ensures.given c.index_mut-2.ensures.value c.remove_first.ensures
