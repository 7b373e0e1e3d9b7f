use Rattle.std.proofs.Common.{◌≡◌, ◌<◌, ℕ, All, length, slice_index_or}
use Rattle.test_tables.specs.Samples.{IsFirst, IsHolder}
use Rattle.test_tables.specs.declared.rings.Ring.{Ring}
use Rattle.test_table.proofs.trades.begin_all.Given as goal

abbrev pub invariant-loop-ring : goal.invariant-loop-ring
invariant-loop-ring g l = IsFirst l.table l.first l.ring × (l.first.me.0.opening ≡ l.fn.first.me.0.opening) × (l.first.me.0.parts ≡ l.fn.first.me.0.parts) × (length l.all.items ≡ l.ring)
    × All (λ (r : Ring g.row.B.Denot). IsHolder l.table r.pass r.ring r.cell.address 0) l.all.items
    × ((i : ℕ) (d : Ring g.row.B.Denot) → i < l.ring → (slice_index_or l.all.items i d).ring ≡ i)
    × All (λ (r : Ring g.row.B.Denot). r.cell ≡ l.cell) l.all.items
