use Rattle.clause_cell.proofs.Steps.{removed_same}
use Rattle.clause_cell.proofs.holes.drop_empty.Goals as goal

pub returns-then-is_empty-clause-same : goal.returns-then-is_empty-clause-same
returns-then-is_empty-clause-same c = removed_same c.args.blocks.now.items c.remove.new.self.items c.args.i c.index.result.now c.is_empty.result c.requires.inside c.index.ensures c.is_empty.ensures c.if-is_empty.true c.remove.ensures.items
