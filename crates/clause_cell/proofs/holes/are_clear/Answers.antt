use Rattle.std.proofs.Common.{◌∙◌, sym}
use Rattle.clause_cell.proofs.Steps.{clear_no, clear_tells}
use Rattle.clause_cell.proofs.holes.are_clear.Goals as goal

pub returns-then-is_clear : goal.returns-then-is_clear
returns-then-is_clear c = clear_tells c.args.first c.args.len c.args.blocks.now c.home-i.result c.index-blocks-i.result c.requires.blocks c.home-i.ensures c.index-blocks-i.is c.begins_before.result (sym c.is_clear.ensures ∙ c.if-is_clear.true) c.begins_before.ensures.yes c.begins_before.ensures.no

pub returns-else-is_clear : goal.returns-else-is_clear
returns-else-is_clear c = c.if-is_clear.false ∙ sym (clear_no c.args.first c.args.len c.args.blocks.now c.home-i.result c.index-blocks-i.result c.requires.blocks c.home-i.ensures c.index-blocks-i.is (sym c.is_clear.ensures ∙ c.if-is_clear.false))
