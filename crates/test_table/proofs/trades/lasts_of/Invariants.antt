use Rattle.std.proofs.Common.{◌≡◌, ◌-◌, ◌^◌, min, sum_by, take}
use Rattle.test_tables.specs.declared.rings.Ring.{Ring}
use Rattle.test_table.proofs.trades.lasts_of.Given as goal

abbrev pub invariant-loop-ring : goal.invariant-loop-ring
invariant-loop-ring g l = l.lasts ≡ min (sum_by (λ (r : Ring g.row.B.Denot). r.lasts) (take l.ring-index l.rings)) (2 ^ 64 - 1)
