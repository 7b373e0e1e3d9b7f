use Rattle.std.proofs.Common.{ℕ, ◌-◌}
use Rattle.std.specs.Mem.Slots.{slots_items}
use Rattle.share_core.specs.State.{State}
use Rattle.share_rule.specs.Rests.{IsAtEnd, HasHoles}
use Rattle.share_rule.proofs.Reading.{ReadTo}
use Rattle.share_rule.proofs.rests.read_cells.Given as goal

abbrev pub invariant-loop-at : goal.invariant-loop-at
invariant-loop-at g l = (c : State) (glue : ℕ → ℕ) → IsAtEnd l.layout c glue (slots_items l.table.words) → HasHoles l.layout c (g.B.Ledger.account l.book).holes → ReadTo l.layout c glue (g.B.Ledger.account l.book).holes l.at l.rests.items

abbrev pub decreases-loop-at : goal.decreases-loop-at
decreases-loop-at g l = l.end - l.at
