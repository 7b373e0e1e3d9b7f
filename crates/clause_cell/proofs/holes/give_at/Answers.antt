use Rattle.clause_cell.proofs.Steps.{clear_here, given_here, filled_here}
use Rattle.clause_cell.proofs.holes.give_at.Goals as goal

pub give-requires-clause-clear : goal.give-requires-clause-clear
give-requires-clause-clear c = clear_here c.args.first c.args.len c.args.blocks.now.items c.args.i c.index_mut.result.now c.requires.blocks c.requires.clear c.requires.home c.index_mut.ensures.value

pub returns-clause-given : goal.returns-clause-given
returns-clause-given c = given_here c.args.first c.args.len c.args.blocks.now.items c.args.i c.index_mut.result.now c.requires.blocks c.requires.clear c.requires.home c.index_mut.ensures.value c.as_slice.result.now c.begins_at.result c.give.result c.give.new.self c.as_slice.ensures.value c.begins_at.ensures.no c.if-begins_at.false c.give.ensures.given

pub returns-clause-filled : goal.returns-clause-filled
returns-clause-filled c = filled_here c.args.first c.args.len c.args.blocks.now.items c.args.i c.index_mut.result.now c.requires.blocks c.requires.clear c.requires.home c.index_mut.ensures.value c.give.result c.give.new.self c.give.ensures.given c.give.ensures.back
