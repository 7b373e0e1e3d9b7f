use Rattle.std.proofs.Common.{◌/◌, ◌∙◌, ap}
use Rattle.clause_cell.specs.Free.{largest}
use Rattle.clause_cell.proofs.OneBlock.{lower_block}
use Rattle.clause_cell.proofs.block.Block.keep_lower_half.Goals as goal

pub invariant_of-self : goal.invariant_of-self
invariant_of-self c = lower_block (c.len.result / 2) c.self.inside.longest c.longest-self-inside.result c.self.inside.holes.items c.truncate.new.self.items c.self.invariant c.truncate.ensures.items (c.longest-self-inside.ensures ∙ ap largest c.as_slice.ensures.value)
