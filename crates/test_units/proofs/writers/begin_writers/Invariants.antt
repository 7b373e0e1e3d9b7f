use Rattle.std.proofs.Common.{◌≡◌, ◌<◌, ℕ, All, length, slice_index_or}
use Rattle.test_tables.specs.Samples.{IsFirst}
use Rattle.test_units.specs.Samples.{IsWriter, plus}
use Rattle.test_units.specs.declared.writers.Writer.{Writer}
use Rattle.test_units.proofs.writers.begin_writers.Given as goal

abbrev pub invariant-loop-ring : goal.invariant-loop-ring
invariant-loop-ring g l = IsFirst l.table l.first l.ring × (l.first.me.0.opening ≡ l.fn.first.me.0.opening) × (l.first.me.0.parts ≡ l.fn.first.me.0.parts) × (length l.all.items ≡ l.ring)
    × All (λ (w : Writer g.row.S.Denot g.S.Sink). IsWriter l.table w.ring.pass w.ring.ring (plus 2)) l.all.items
    × ((i : ℕ) (d : Writer g.row.S.Denot g.S.Sink) → i < l.ring → (slice_index_or l.all.items i d).ring.ring ≡ i)
