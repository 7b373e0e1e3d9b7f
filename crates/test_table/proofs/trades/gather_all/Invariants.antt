use Rattle.std.proofs.Common.{◌≡◌, ◌<◌, ℕ, All, length, slice_index_or}
use Rattle.test_tables.specs.Samples.{IsRing, IsGathered}
use Rattle.test_tables.specs.declared.rings.Ring.{Ring}
use Rattle.test_table.proofs.trades.gather_all.Given as goal

abbrev pub invariant-loop-ring : goal.invariant-loop-ring
invariant-loop-ring g l = IsGathered l.table l.first (length l.rings.items)
    × All (λ (r : Ring g.row.B.Denot). IsRing l.table r.pass r.ring) l.rings.items
    × ((i : ℕ) (d : Ring g.row.B.Denot) → i < length l.rings.items → (slice_index_or l.rings.items i d).ring ≡ i)

abbrev pub decreases-loop-ring : goal.decreases-loop-ring
decreases-loop-ring g l = goal.left-loop-ring g l
