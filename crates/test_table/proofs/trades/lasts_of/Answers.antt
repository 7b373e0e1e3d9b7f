use Rattle.std.proofs.Common.{◌∙◌, ◌-◌, ◌^◌}
use Rattle.test_tables.specs.declared.rings.Ring.{Ring}
use Rattle.test_table.proofs.Summing.{capped_more}
use Rattle.test_table.proofs.trades.lasts_of.Goals as goal

pub loop-ring-preserved : goal.loop-ring-preserved
loop-ring-preserved g c =
    c.saturating_add-lasts.ensures ∙ capped_more (λ (r : Ring g.row.B.Denot). r.lasts) c.args.rings.now c.loop-ring.ring-index c.loop-ring.lasts (2 ^ 64 - 1) c.ring-item.result c.ring-item.result c.loop-ring-test.true c.ring-item.is c.loop-ring.invariant
