use Rattle.std.proofs.Common.{◌∙◌}
use Rattle.clause_cell.proofs.Steps.{long_enough, found_in, left_over}
use Rattle.clause_cell.proofs.holes.take_at.Goals as goal

pub take-first-requires : goal.take-first-requires
take-first-requires c = (c.requires.need, long_enough c.args.need c.args.blocks.now.items c.args.i c.index_mut.result.now c.requires.need c.requires.place c.index_mut.ensures.value)

pub returns-clause-found : goal.returns-clause-found
returns-clause-found c = found_in c.args.need c.args.blocks.now.items c.args.i c.index_mut.result.now c.requires.need c.requires.place c.index_mut.ensures.value c.take-first.result c.take-first.ensures.found

pub returns-clause-left : goal.returns-clause-left
returns-clause-left c = c.drop_empty.ensures.same ∙ left_over c.args.need c.args.blocks.now.items c.args.i c.index_mut.result.now c.requires.need c.requires.place c.index_mut.ensures.value c.take-first.new.self c.take-first.ensures.left
