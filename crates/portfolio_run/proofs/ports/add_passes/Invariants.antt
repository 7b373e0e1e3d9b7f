use Rattle.std.proofs.Common.{◌≡◌, ◌+◌, ℕ, length, vec_capacity}
use Rattle.std.specs.Vec.Iter.{into_iter_items, into_iter_len}
use Rattle.ring_pass.specs.RingState.{home_of}
use Rattle.ring_port.specs.PortState.{PortState}
use Rattle.portfolio_run.specs.declared.jobs.RingJob.{RingJob}
use Rattle.portfolio_run.specs.Ports.{IsAt}
use Rattle.portfolio_run.specs.Seats.{HasIdle}
use Rattle.portfolio_run.proofs.Each.{EachFrom}
use Rattle.portfolio_run.proofs.ports.add_passes.Given as goal

abbrev pub invariant-loop-one : goal.invariant-loop-one
invariant-loop-one g l = EachFrom (HasIdle l.table) 0 l.into.items
    × EachFrom (λ (ring : ℕ) (one : RingJob PortState). IsAt (home_of l.fn.first) ring one.port) (length l.into.items) (into_iter_items l.one-iterator)
    × (length l.into.items + length (into_iter_items l.one-iterator) ≡ length l.fn.made.items)
    × (vec_capacity l.into ≡ vec_capacity l.fn.into)
    × (into_iter_len l.one-iterator ≡ length (into_iter_items l.one-iterator))
