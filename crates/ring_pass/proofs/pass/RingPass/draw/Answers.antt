use Rattle.std.proofs.Common.{vec_capacity}
use Rattle.share_rule.specs.declared.view.View.{View}
use Rattle.ring_pass.proofs.DrawsHere.{may_draw, ring_draws, ring_drew, room_drew, units_drew, offer_drew}
use Rattle.ring_pass.proofs.Stays.{own_in, ring_port}
use Rattle.ring_pass.proofs.pass.RingPass.draw.Goals as goal

pub draw-requires-clause-may : goal.draw-requires-clause-may
draw-requires-clause-may g c = may_draw c.self.inside.pass.me.0 (own_in c.self.invariant.0) c.args.self.now c.self.invariant.0.one c.self.view_is c.requires.none c.requires.left

pub invariant_of-self : goal.invariant_of-self
invariant_of-self g c =
    let e = c.draw.ensures in
    let v : View = c.self.inside.pass.me.0 in
    let w : View = c.draw.new.pass.me.0 in
    let i = c.self.inside in (
      ring_drew c.draw.new.pass e.part.0 c.self.invariant.0 e.pass.0 e.pass.1 e.part.1,
      room_drew v w e.part.0 i.last i.waiting.items (vec_capacity i.waiting) c.self.invariant.0.one e.part.1 c.self.invariant.1,
      units_drew v w e.part.0 i.seen.items (vec_capacity i.seen) (vec_capacity i.arrived) c.self.invariant.0.one e.part.1 c.self.invariant.2,
      offer_drew v w e.part.0 i.last i.spares c.self.invariant.0.one e.part.1 c.self.invariant.3,
    )

pub returns-clause-drawn : goal.returns-clause-drawn
returns-clause-drawn g c =
    let e = c.draw.ensures in
    ring_draws c.draw.new.pass c.args.self.now e.part.0 c.draw.result c.self.invariant.0 e.pass.0 c.self.view_is e.part.1 e.part.2 e.part.3

pub returns-clause-port : goal.returns-clause-port
returns-clause-port g c = ring_port (invariant_of-self g c).0
