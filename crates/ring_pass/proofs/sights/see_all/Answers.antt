use Rattle.std.proofs.Common.{◌∙◌, refl, vec_capacity}
use Rattle.ring_pass.proofs.NewsHere.{news_none, news_one, news_more, news_fewer}
use Rattle.ring_pass.proofs.SeenHere.{units_sees}
use Rattle.ring_pass.proofs.sights.see_all.Goals as goal

pub loop-init : goal.loop-init
loop-init g c = record {
  pass = c.requires.pass.0;
  same = (refl, refl);
  saw = news_none c.args.pass.now.me.0 c.args.seen.now.items c.args.arrived.now.items (vec_capacity c.args.seen.now) (vec_capacity c.args.arrived.now) c.requires.pass.1 c.requires.units c.requires.arrived.0 c.requires.arrived.1;
  numbers = λ h. h;
  units = c.requires.units;
}

pub loop-smaller : goal.loop-smaller
loop-smaller g c = news_fewer c.loop.pass.me.0 c.see_next.new.pass.me.0 c.loop.seen.items c.see_next.new.seen.items c.loop.arrived.items c.see_next.new.arrived.items c.in-Some.field-0 (vec_capacity c.loop.seen) (vec_capacity c.loop.arrived) (news_one c.loop.invariant.saw) c.loop.invariant.units c.see_next.ensures.pass.0.3 c.in-Some.ensures.saw

pub loop-preserved : goal.loop-preserved
loop-preserved g c =
    let e = c.see_next.ensures in
    let inv = c.loop.invariant in
    let saw = c.in-Some.ensures.saw in
    record {
      pass = e.pass.0;
      same = (e.pass.1.0 ∙ inv.same.0, e.pass.1.1 ∙ inv.same.1);
      saw = news_more c.args.pass.now.me.0 c.loop.pass.me.0 c.see_next.new.pass.me.0 c.loop.seen.items c.see_next.new.seen.items c.args.arrived.now.items c.loop.arrived.items c.see_next.new.arrived.items c.in-Some.field-0 inv.saw e.pass.0.3 saw;
      numbers = λ h. e.numbers (inv.numbers h);
      units = units_sees c.loop.pass.me.0 c.see_next.new.pass.me.0 c.in-Some.field-0 c.loop.seen.items c.see_next.new.seen.items c.loop.arrived.items c.see_next.new.arrived.items (vec_capacity c.loop.seen) (vec_capacity c.loop.arrived) (vec_capacity c.see_next.new.seen) (vec_capacity c.see_next.new.arrived) (news_one inv.saw) saw e.room.0 e.room.1 inv.units;
    }
