use Rattle.std.proofs.Common.{◌≡◌, ◌<◌, ◌∙◌, true, List, length, sym, ap, subst}
use Rattle.clause_cell.specs.declared.holes.Hole.{Hole}
use Rattle.clause_cell.specs.Free.{largest, is_clear}
use Rattle.clause_cell.proofs.OneBlock.{given_block}
use Rattle.clause_cell.proofs.block.Block.give.Goals as goal

pub invariant_of-self-2 : goal.invariant_of-self-2
invariant_of-self-2 c = given_block c.args.first c.args.len c.self.inside.longest c.longest-self-inside.result c.self.inside.holes.items c.put_back.new.items.items c.self.invariant c.requires.range.0 c.requires.range.1
    (subst (λ (hs : List Hole). is_clear c.args.first c.args.len hs ≡ true) (sym c.self.view_is) c.requires.clear)
    (subst (λ (hs : List Hole). length hs < 256) (sym c.self.view_is) c.requires.room)
    c.in_ok-put_back.ensures.given (c.longest-self-inside.ensures ∙ ap largest c.as_slice.ensures.value)
