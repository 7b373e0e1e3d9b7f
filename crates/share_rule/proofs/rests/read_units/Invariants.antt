use Rattle.std.proofs.Common.{◌≡◌, ℕ, take}
use Rattle.std.specs.Mem.Slots.{slots_items}
use Rattle.share_core.specs.State.{State, unit_lits, unit_numbers}
use Rattle.share_rule.specs.Rests.{IsAtEnd}
use Rattle.share_rule.proofs.rests.read_units.Given as goal

abbrev pub invariant-loop-place : goal.invariant-loop-place
invariant-loop-place g l = (c : State) (glue : ℕ → ℕ) → IsAtEnd l.layout c glue (slots_items l.table.words) → (unit_lits l.units.items ≡ take l.place c.units) × (unit_numbers l.units.items ≡ take l.place c.numbers)
