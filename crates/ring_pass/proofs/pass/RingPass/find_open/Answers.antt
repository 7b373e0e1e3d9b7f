use Rattle.std.proofs.Common.{◌∙◌, List, ap, sym, vec_capacity}
use Rattle.sat_words.specs.Literal.{Literal}
use Rattle.sat_words.specs.Values.{first_open}
use Rattle.ring_pass.proofs.CanOffers.{offer_stays}
use Rattle.ring_pass.proofs.Scans.{as_looked}
use Rattle.ring_pass.proofs.Stays.{own_in, ring_stays, port_stays, room_stays, units_stay, ring_port, ring_holds, lits_found}
use Rattle.ring_pass.proofs.pass.RingPass.find_open.Goals as goal

pub find_open-requires-clause-held : goal.find_open-requires-clause-held
find_open-requires-clause-held g c = ring_holds c.args.self.now c.args.c.address c.self.invariant.0 c.self.view_is c.requires

pub returns-clause-first : goal.returns-clause-first
returns-clause-first g c = c.find_open.ensures.first ∙ ap (λ (ls : List Literal). first_open c.args.values.now c.args.other ls) (sym (lits_found c.self.inside.pass.me.0 (own_in c.self.invariant.0) c.args.self.now c.args.c.address c.self.view_is c.requires))

pub invariant_of-self : goal.invariant_of-self
invariant_of-self g c =
    let e = c.find_open.ensures in
    let looked = as_looked c.self.inside.pass.me.0 c.find_open.new.pass.me.0 e.loaded in (
      ring_stays c.find_open.new.pass c.self.invariant.0 e.pass.0 e.pass.1 looked,
      room_stays c.self.inside.pass.me.0 c.find_open.new.pass.me.0 c.self.inside.last c.self.inside.waiting.items (vec_capacity c.self.inside.waiting) looked c.self.invariant.1,
      units_stay c.self.inside.pass.me.0 c.find_open.new.pass.me.0 c.self.inside.seen.items (vec_capacity c.self.inside.seen) (vec_capacity c.self.inside.arrived) looked c.self.invariant.2,
      offer_stays c.self.inside.pass.me.0 c.find_open.new.pass.me.0 c.self.inside.last c.self.inside.spares looked c.self.invariant.3,
    )

pub returns-clause-same : goal.returns-clause-same
returns-clause-same g c =
    let e = c.find_open.ensures in
    port_stays c.find_open.new.pass c.self.invariant.0 e.pass.0 (as_looked c.self.inside.pass.me.0 c.find_open.new.pass.me.0 e.loaded) ∙ c.self.view_is

pub returns-clause-port : goal.returns-clause-port
returns-clause-port g c =
    let e = c.find_open.ensures in
    ring_port (ring_stays c.find_open.new.pass c.self.invariant.0 e.pass.0 e.pass.1 (as_looked c.self.inside.pass.me.0 c.find_open.new.pass.me.0 e.loaded))
