use Rattle.std.proofs.Common.{◌≡◌, ◌≤◌, ◌<◌, ℕ, length, get_or}
use Rattle.ring_run.specs.declared.job.Counts.{Counts}
use Rattle.portfolio_run.specs.Held.{no_counts, add_counts}
use Rattle.portfolio_run.proofs.counts.add_counts.Given as goal

abbrev pub invariant-loop-ring : goal.invariant-loop-ring
invariant-loop-ring l = (length l.counts.items ≡ length l.fn.counts.items)
    × (length l.tally.items ≡ length l.fn.tally.items)
    × ((i : ℕ) (d : Counts) → i < l.ring → get_or l.tally.items i d ≡ add_counts (get_or l.fn.counts.items i d) (get_or l.fn.tally.items i d))
    × ((i : ℕ) (d : Counts) → l.ring ≤ i → get_or l.tally.items i d ≡ get_or l.fn.tally.items i d)
    × ((i : ℕ) (d : Counts) → i < l.ring → get_or l.counts.items i d ≡ no_counts)
    × ((i : ℕ) (d : Counts) → l.ring ≤ i → get_or l.counts.items i d ≡ get_or l.fn.counts.items i d)
