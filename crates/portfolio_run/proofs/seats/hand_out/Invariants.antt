use Rattle.std.proofs.Common.{◌≡◌, ◌≤◌, length}
use Rattle.std.specs.Vec.{vec_capacity}
use Rattle.portfolio_run.specs.Seats.{HasRightsFrom, IsSameTable, AreBegun}
use Rattle.portfolio_run.proofs.seats.hand_out.Given as goal

abbrev pub invariant-loop-ring : goal.invariant-loop-ring
invariant-loop-ring g l = HasRightsFrom l.table l.first l.ring
    × IsSameTable l.fn.first.me.0 l.first.me.0
    × (length l.passes.items ≡ l.ring)
    × (l.fn.rings ≤ vec_capacity l.passes)
    × AreBegun l.table l.fn.first.me.0 l.passes.items
