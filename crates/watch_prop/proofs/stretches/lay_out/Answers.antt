use Rattle.std.proofs.Common.{refl, ◌∙◌, arith}
use Rattle.std.proofs.lemmas.List.{length-set}
use Rattle.watch_prop.proofs.LayoutLemmas.{laid-out-more, laid-out-none}
use Rattle.watch_prop.proofs.stretches.lay_out.Goals as goal

pub loop-i-init : goal.loop-i-init
loop-i-init c = record { len = refl; laid = laid-out-none c.args.stretches.now.items; inside = omega arith }

pub loop-i-preserved : goal.loop-i-preserved
loop-i-preserved c =
    let i = c.loop-i.invariant in
    let ss = c.loop-i.stretches.items in
    record {
      len = length-set ss c.loop-i.i _ ∙ i.len;
      laid = laid-out-more ss c.loop-i.i c.loop-i.end c.min-room.result (let t = c.loop-i-test.true in omega (arith, t, i.len, c.len-i-end.ensures)) i.laid;
      inside = omega (arith, i.inside, c.min-room.ensures);
    }
