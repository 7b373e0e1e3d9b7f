use Rattle.std.proofs.Common.{◌≡◌, ◌+◌, ◌≤◌, length, vec_capacity}
use Rattle.std.specs.Vec.Iter.{into_iter_items, into_iter_len}
use Rattle.ring_pass.specs.RingState.{home_of}
use Rattle.portfolio_run.proofs.Making.{Placed}
use Rattle.portfolio_run.proofs.ports.make_ports.Given as goal

abbrev pub invariant-loop-pass : goal.invariant-loop-pass
invariant-loop-pass g l = Placed l.fn.table l.fn.first.me.0 (home_of l.fn.first) l.fn.plan l.made.items l.rest.items (into_iter_items l.pass-iterator)
    × (length l.made.items + length l.rest.items + length (into_iter_items l.pass-iterator) ≡ length l.fn.passes.items)
    × (length l.fn.passes.items ≤ vec_capacity l.made)
    × (length l.fn.passes.items ≤ vec_capacity l.rest)
    × (into_iter_len l.pass-iterator ≡ length (into_iter_items l.pass-iterator))
    × (l.ring ≡ length l.made.items)
