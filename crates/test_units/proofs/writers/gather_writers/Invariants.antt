use Rattle.std.proofs.Common.{◌≡◌, ◌<◌, ℕ, All, length, slice_index_or}
use Rattle.test_tables.specs.Samples.{IsGathered}
use Rattle.test_units.specs.Samples.{IsWriter, plus}
use Rattle.test_units.specs.declared.writers.Writer.{Writer}
use Rattle.test_units.proofs.writers.gather_writers.Given as goal

abbrev pub invariant-loop-writer : goal.invariant-loop-writer
invariant-loop-writer g l = IsGathered l.table l.first (length l.writers.items)
    × All (λ (w : Writer g.row.S.Denot g.S.Sink). IsWriter l.table w.ring.pass w.ring.ring (plus 2)) l.writers.items
    × ((i : ℕ) (d : Writer g.row.S.Denot g.S.Sink) → i < length l.writers.items → (slice_index_or l.writers.items i d).ring.ring ≡ i)

abbrev pub decreases-loop-writer : goal.decreases-loop-writer
decreases-loop-writer g l = goal.left-loop-writer g l
