use Rattle.std.proofs.Common.{◌≢◌, ◌≡◌, refl, subst}
use Rattle.ref_count.specs.Drops.{IsDropped}
use Rattle.test_table.proofs.Trading.{lasts_left, lasts_last}
use Rattle.test_table.proofs.trades.give_one_up.Goals as goal

pub returns-in-Left-clause-gave : goal.returns-in-Left-clause-gave
returns-in-Left-clause-gave g c =
    let p = c.drop_count.ensures.part in
    let left : p.0 ≢ 1 = subst (IsDropped p.0) c.in-Left.is p.2 in
    record { found = p.0; part = p.1; ring = refl; cell = refl; lasts = lasts_left p.0 c.args.ring.now.lasts left }

pub returns-in-Last-clause-gave : goal.returns-in-Last-clause-gave
returns-in-Last-clause-gave g c =
    let p = c.drop_count.ensures.part in
    let last : p.0 ≡ 1 = subst (IsDropped p.0) c.in-Last.is p.2 in
    record { found = p.0; part = p.1; ring = refl; cell = refl; lasts = lasts_last p.0 c.args.ring.now.lasts _ last c.saturating_add-ring.ensures }
