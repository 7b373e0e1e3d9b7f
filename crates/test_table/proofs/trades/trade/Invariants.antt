use Rattle.std.proofs.Common.{◌≡◌, ◌≤◌, ◌+◌}
use Rattle.test_tables.specs.Samples.{IsHolder}
use Rattle.test_table.proofs.trades.trade.Given as goal

abbrev pub invariant-loop-done : goal.invariant-loop-done
invariant-loop-done g l = IsHolder l.table l.ring.pass l.ring.ring l.ring.cell.address l.done × (l.ring.ring ≡ l.fn.ring.ring) × (l.ring.cell ≡ l.fn.ring.cell) × (l.fn.ring.lasts ≤ l.ring.lasts) × (l.ring.lasts ≤ l.fn.ring.lasts + l.done)
