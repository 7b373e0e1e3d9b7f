use Rattle.std.proofs.Common.{◌∙◌, sym, ap, subst}
use Rattle.std.specs.Prelude.{IsSome, Option, ℕ}
use Rattle.clause_cell.specs.Free.{largest, first_fit}
use Rattle.clause_cell.proofs.OneBlock.{taken_block, fits}
use Rattle.clause_cell.proofs.block.Block.take.Goals as goal

pub unwrap-first-requires : goal.unwrap-first-requires
unwrap-first-requires c = subst (λ (o : Option ℕ). IsSome o) (ap (first_fit c.args.need) (sym c.self.view_is) ∙ sym c.cut.ensures.found) (fits c.args.need c.args.self.now c.requires.0 c.requires.1)

pub invariant_of-self : goal.invariant_of-self
invariant_of-self c = taken_block c.args.need c.self.inside.longest c.longest-self-inside.result c.self.inside.holes.items c.cut.new.items.items c.self.invariant c.cut.ensures.left (c.longest-self-inside.ensures ∙ ap largest c.as_slice.ensures.value)
