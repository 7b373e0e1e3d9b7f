use Rattle.std.proofs.Common.{◌∙◌, ◌+◌, ap, sym, length, vec_capacity}
use Rattle.ring_pass.proofs.CanOffers.{offer_stays}
use Rattle.ring_pass.proofs.Stays.{own_in, loaded_twice, ring_stays, port_stays, room_stays, units_stay, ring_port, ring_holds, head_found, lits_found}
use Rattle.ring_pass.proofs.pass.RingPass.head.Goals as goal

pub read_head-requires-clause-held : goal.read_head-requires-clause-held
read_head-requires-clause-held g c = ring_holds c.args.self.now c.args.c.address c.self.invariant.0 c.self.view_is c.requires

pub invariant_of-self : goal.invariant_of-self
invariant_of-self g c =
    let e = c.read_head.ensures in
    let looked = loaded_twice (c.args.c.address + 1) (c.args.c.address + 2) c.self.inside.pass.me.0 c.read_head.new.pass.me.0 e.part in (
      ring_stays c.read_head.new.pass c.self.invariant.0 e.pass.0 e.pass.1 looked,
      room_stays c.self.inside.pass.me.0 c.read_head.new.pass.me.0 c.self.inside.last c.self.inside.waiting.items (vec_capacity c.self.inside.waiting) looked c.self.invariant.1,
      units_stay c.self.inside.pass.me.0 c.read_head.new.pass.me.0 c.self.inside.seen.items (vec_capacity c.self.inside.seen) (vec_capacity c.self.inside.arrived) looked c.self.invariant.2,
      offer_stays c.self.inside.pass.me.0 c.read_head.new.pass.me.0 c.self.inside.last c.self.inside.spares looked c.self.invariant.3,
    )

pub returns-clause-value : goal.returns-clause-value
returns-clause-value g c =
    let e = c.read_head.ensures in
    head_found c.self.inside.pass.me.0 (own_in c.self.invariant.0) c.args.self.now c.args.c.address c.read_head.result c.self.view_is c.requires e.size e.number e.glue

pub returns-clause-size : goal.returns-clause-size
returns-clause-size g c = c.read_head.ensures.size ∙ sym (ap length (lits_found c.self.inside.pass.me.0 (own_in c.self.invariant.0) c.args.self.now c.args.c.address c.self.view_is c.requires))

pub returns-clause-same : goal.returns-clause-same
returns-clause-same g c =
    let e = c.read_head.ensures in
    port_stays c.read_head.new.pass c.self.invariant.0 e.pass.0 (loaded_twice (c.args.c.address + 1) (c.args.c.address + 2) c.self.inside.pass.me.0 c.read_head.new.pass.me.0 e.part) ∙ c.self.view_is

pub returns-clause-port : goal.returns-clause-port
returns-clause-port g c =
    let e = c.read_head.ensures in
    ring_port (ring_stays c.read_head.new.pass c.self.invariant.0 e.pass.0 e.pass.1 (loaded_twice (c.args.c.address + 1) (c.args.c.address + 2) c.self.inside.pass.me.0 c.read_head.new.pass.me.0 e.part))
