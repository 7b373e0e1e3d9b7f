use Rattle.std.proofs.Common.{◌≡◌, ◌++◌, All, length}
use Rattle.std.specs.Vec.Iter.{into_iter_items, into_iter_len}
use Rattle.portfolio_run.specs.Seats.{IsSameTable, IsAtRest, all_parts, stop_among}
use Rattle.portfolio_run.proofs.seats.gather.Given as goal

abbrev pub invariant-loop-pass : goal.invariant-loop-pass
invariant-loop-pass g l = IsAtRest l.table l.first
    × IsSameTable l.fn.first.me.0 l.first.me.0
    × All (IsAtRest l.table) (into_iter_items l.pass-iterator)
    × (l.first.me.0.parts ++ all_parts (into_iter_items l.pass-iterator) ≡ l.fn.first.me.0.parts ++ all_parts l.fn.passes.items)
    × (stop_among l.first.me.0.stop (into_iter_items l.pass-iterator) ≡ stop_among l.fn.first.me.0.stop l.fn.passes.items)
    × (into_iter_len l.pass-iterator ≡ length (into_iter_items l.pass-iterator))
