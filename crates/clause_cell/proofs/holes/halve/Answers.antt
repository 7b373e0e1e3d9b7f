use Rattle.std.proofs.Common.{◌≡◌, ◌+◌, arith}
use Rattle.std.specs.List.{insert}
use Rattle.clause_cell.proofs.Steps.{halved_by}
use Rattle.clause_cell.proofs.holes.halve.Goals as goal

pub returns-clause-halved : goal.returns-clause-halved
returns-clause-halved c =
    let put : c.insert.new.self.items ≡ insert c.args.blocks.now.items (c.args.i + 1) c.in_ok-upper.upper = grind (arith, c.insert.ensures, c.is_err.ensures, c.if-is_err.false) in
    halved_by c.args.blocks.now.items c.insert.new.self.items c.args.i c.index.result.now c.in_ok-upper.upper c.index_mut.result.now c.keep_lower_half.new.self c.requires c.index.ensures c.in_ok-upper.ensures.half put c.index_mut.ensures.value c.keep_lower_half.ensures
