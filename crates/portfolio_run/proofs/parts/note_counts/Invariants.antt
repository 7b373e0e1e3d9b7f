use Rattle.std.proofs.Common.{◌≡◌, ◌<◌, ℕ, length, get_or}
use Rattle.ring_run.specs.declared.job.Counts.{Counts}
use Rattle.ring_run.specs.declared.job.End.{End}
use Rattle.portfolio_run.proofs.parts.note_counts.Given as goal

abbrev pub invariant-loop-ring : goal.invariant-loop-ring
invariant-loop-ring l = (length l.tally.items ≡ length l.ends)
    × ((i : ℕ) (d : Counts) (e : End × Counts) → i < l.ring → get_or l.tally.items i d ≡ (get_or l.ends i e).1)
