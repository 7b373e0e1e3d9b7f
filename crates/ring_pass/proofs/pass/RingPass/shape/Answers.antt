use Rattle.std.proofs.Common.{◌∙◌, ◌+◌, ap, sym, length, vec_capacity}
use Rattle.ring_pass.proofs.CanOffers.{offer_stays}
use Rattle.ring_pass.proofs.Scans.{glue_found}
use Rattle.ring_pass.proofs.Stays.{own_in, loaded, ring_stays, port_stays, room_stays, units_stay, ring_port, ring_holds, lits_found}
use Rattle.ring_pass.proofs.pass.RingPass.shape.Goals as goal

pub read_shape-shape-requires-clause-held : goal.read_shape-shape-requires-clause-held
read_shape-shape-requires-clause-held g c = ring_holds c.args.self.now c.args.c.address c.self.invariant.0 c.self.view_is c.requires

pub returns-clause-size : goal.returns-clause-size
returns-clause-size g c = c.read_shape-shape.ensures.size ∙ sym (ap length (lits_found c.self.inside.pass.me.0 (own_in c.self.invariant.0) c.args.self.now c.args.c.address c.self.view_is c.requires))

pub returns-clause-glue : goal.returns-clause-glue
returns-clause-glue g c = glue_found c.self.inside.pass.me.0 (own_in c.self.invariant.0) c.args.self.now c.args.c.address c.read_shape-shape.result.1 c.self.view_is c.requires c.read_shape-shape.ensures.glue

pub invariant_of-self : goal.invariant_of-self
invariant_of-self g c =
    let e = c.read_shape-shape.ensures in
    let looked = loaded c.self.inside.pass.me.0 c.read_shape-shape.new.pass.me.0 (c.args.c.address + 2) e.part.0 e.part.1 in (
      ring_stays c.read_shape-shape.new.pass c.self.invariant.0 e.pass.0 e.pass.1 looked,
      room_stays c.self.inside.pass.me.0 c.read_shape-shape.new.pass.me.0 c.self.inside.last c.self.inside.waiting.items (vec_capacity c.self.inside.waiting) looked c.self.invariant.1,
      units_stay c.self.inside.pass.me.0 c.read_shape-shape.new.pass.me.0 c.self.inside.seen.items (vec_capacity c.self.inside.seen) (vec_capacity c.self.inside.arrived) looked c.self.invariant.2,
      offer_stays c.self.inside.pass.me.0 c.read_shape-shape.new.pass.me.0 c.self.inside.last c.self.inside.spares looked c.self.invariant.3,
    )

pub returns-clause-same : goal.returns-clause-same
returns-clause-same g c =
    let e = c.read_shape-shape.ensures in
    port_stays c.read_shape-shape.new.pass c.self.invariant.0 e.pass.0 (loaded c.self.inside.pass.me.0 c.read_shape-shape.new.pass.me.0 (c.args.c.address + 2) e.part.0 e.part.1) ∙ c.self.view_is

pub returns-clause-port : goal.returns-clause-port
returns-clause-port g c =
    let e = c.read_shape-shape.ensures in
    ring_port (ring_stays c.read_shape-shape.new.pass c.self.invariant.0 e.pass.0 e.pass.1 (loaded c.self.inside.pass.me.0 c.read_shape-shape.new.pass.me.0 (c.args.c.address + 2) e.part.0 e.part.1))
