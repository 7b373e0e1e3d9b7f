use Rattle.std.proofs.Common.{◌≡◌, ◌+◌, ◌≤◌, ℕ, length, vec_capacity}
use Rattle.std.specs.Vec.Iter.{into_iter_items, into_iter_len}
use Rattle.ring_pass.specs.RingState.{home_of}
use Rattle.ring_port.specs.PortState.{PortState}
use Rattle.portfolio_run.specs.declared.jobs.RingJob.{RingJob}
use Rattle.portfolio_run.specs.Jobs.{HasRun}
use Rattle.portfolio_run.specs.Ports.{begun_at, job_at}
use Rattle.portfolio_run.specs.Runs.{IsRun}
use Rattle.portfolio_run.proofs.Each.{EachFrom, BothFrom}
use Rattle.portfolio_run.proofs.parts.split_rings.Given as goal

abbrev pub invariant-loop-ring : goal.invariant-loop-ring
invariant-loop-ring g l = BothFrom (IsRun l.fn.table l.fn.first.me.0 (home_of l.fn.first) l.fn._plan) 0 l.passes.items l.ends.items
    × EachFrom (λ (ring : ℕ) (one : RingJob PortState). HasRun (begun_at l.fn.first.me.0 (home_of l.fn.first) ring) (job_at l.fn.first.me.0 l.fn._plan ring) one.port one.end) (length l.passes.items) (into_iter_items l.ring-iterator)
    × (length l.passes.items + length (into_iter_items l.ring-iterator) ≡ length l.fn.rings.items)
    × (length l.fn.rings.items ≤ vec_capacity l.passes)
    × (length l.fn.rings.items ≤ vec_capacity l.ends)
    × (into_iter_len l.ring-iterator ≡ length (into_iter_items l.ring-iterator))
