use Rattle.std.proofs.Common.{◌≡◌, ◌*◌, ◌%◌, ◌^◌}
use Rattle.share_rule.specs.Passes.{IsPassOf}
use Rattle.share_rule.specs.Views.{clause_of}
use Rattle.test_table.specs.Reads.{code_sum}
use Rattle.test_table.proofs.trades.sum_of_reads.Given as goal

abbrev pub invariant-loop-done : goal.invariant-loop-done
invariant-loop-done g l = IsPassOf l.table l.ring.pass × (l.ring.pass.me.0.parts ≡ l.fn.ring.pass.me.0.parts) × (l.ring.cell ≡ l.fn.ring.cell)
    × (l.sum ≡ (l._done * code_sum (clause_of l.fn.ring.cell.address l.fn.ring.pass.me.0).lits) % 2 ^ 64)
