use Rattle.std.proofs.Common.{◌≡◌, ◌+◌, ◌%◌, ◌^◌, take}
use Rattle.share_rule.specs.Passes.{IsPassOf}
use Rattle.share_rule.specs.Views.{clause_of}
use Rattle.test_table.specs.Reads.{code_sum}
use Rattle.test_table.proofs.trades.sum_of_cell.Given as goal

abbrev pub invariant-loop-place : goal.invariant-loop-place
invariant-loop-place g l = IsPassOf l.table l.ring.pass × (l.ring.pass.me.0.parts ≡ l.fn.ring.pass.me.0.parts) × (l.ring.cell ≡ l.fn.ring.cell)
    × (l.sum ≡ (l.fn.start + code_sum (take l.place (clause_of l.fn.ring.cell.address l.fn.ring.pass.me.0).lits)) % 2 ^ 64)
