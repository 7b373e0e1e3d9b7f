use Rattle.std.proofs.Common.{◌≡◌, true, List, sym, subst}
use Rattle.clause_cell.specs.declared.holes.Hole.{Hole}
use Rattle.clause_cell.specs.Free.{is_clear}
use Rattle.clause_cell.proofs.Steps.{apart_either}
use Rattle.clause_cell.proofs.holes.Holes.give.Goals as goal

pub invariant_of-self : goal.invariant_of-self
invariant_of-self c = record {
  apart = apart_either c.args.first c.args.len c.self.inside.blocks.items c.give_to.new.blocks.items c.give_to.result c.requires.range.0 c.requires.range.1 c.self.invariant.apart
      (subst (λ (hs : List Hole). is_clear c.args.first c.args.len hs ≡ true) (sym c.self.view_is) c.requires.clear) c.give_to.ensures.given c.give_to.ensures.back;
  filled = c.give_to.ensures.filled;
}
