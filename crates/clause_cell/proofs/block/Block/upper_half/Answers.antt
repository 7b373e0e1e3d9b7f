use Rattle.std.proofs.Common.{◌/◌, ◌∙◌, ap, drop}
use Rattle.std.proofs.lemmas.List.{take_rest}
use Rattle.clause_cell.specs.Free.{largest}
use Rattle.clause_cell.proofs.OneBlock.{upper_block}
use Rattle.clause_cell.proofs.block.Block.upper_half.Goals as goal

pub invariant_of-result : goal.invariant_of-result
invariant_of-result c = upper_block (c.len.result / 2) c.self.inside.longest c.longest.result c.self.inside.holes.items c.in-Ok.holes.items c.self.invariant
    (c.in-Ok.ensures.items ∙ take_rest c.as_slice.result.now (c.len.result / 2) ∙ ap (drop (c.len.result / 2)) c.as_slice.ensures.value)
    (c.longest.ensures ∙ ap largest c.as_slice-in-Ok.ensures.value)
