use Rattle.std.proofs.Common.{◌≡◌, ◌∙◌, ◌+◌, ◌*◌, ◌%◌, ◌<◌, ◌≤◌, ℕ, List, ap, sym, subst, refl, length, slice_index, slice_set, vec_capacity, None}
use Rattle.share_core.specs.declared.event.TheConstants.{MAX_SHARES}
use Rattle.share_rule.specs.declared.view.RingPart.{RingPart}
use Rattle.share_rule.specs.declared.view.View.{View}
use Rattle.share_rule.specs.Views.{only}
use Rattle.ring_port.specs.Exchange.{class_at, other_rings}
use Rattle.ring_port.specs.PortState.{PortState}
use Rattle.ring_pass.specs.Offering.{others, CanTakeBack}
use Rattle.ring_pass.proofs.CanOffers.{offer_stays}
use Rattle.ring_pass.specs.RingState.{CanOffer}
use Rattle.ring_pass.proofs.OfferedHere.{has_offer, class_here, class_small, ring_offers, room_offers, offer_offers, port_offers, rings_same, depth_same, some_not_none}
use Rattle.ring_pass.proofs.Stays.{own_in, loaded_twice, ring_stays, port_stays, room_stays, units_stay, units_keep, ring_port}
use Rattle.ring_pass.proofs.pass.RingPass.offer.Goals as goal

pub unreachable-requires : goal.unreachable-requires
unreachable-requires g c =
    let e = c.read_head-head.ensures in
    let is = class_here c.self.inside.pass.me.0 (own_in c.self.invariant.0) c.args.self.now c.args.c.address c.read_head-head.result c.self.view_is c.requires.held e.size e.glue ∙ sym c.class_of.ensures ∙ c.in_default.is in
    some_not_none _ is c.requires.class

pub put_for_all-puts-requires-clause-shares : goal.put_for_all-puts-requires-clause-shares
put_for_all-puts-requires-clause-shares g c =
    let v : View = c.self.inside.pass.me.0 in
    let u : View = c.read_head-head.new.pass.me.0 in
    let a : ℕ = c.args.c.address in
    let e = c.read_head-head.ensures in
    let looked = loaded_twice (a + 1) (a + 2) v u e.part in
    let r = ring_stays c.read_head-head.new.pass c.self.invariant.0 e.pass.0 e.pass.1 looked in
    let has = has_offer u e.pass.0.3 c.self.inside.waiting.items (vec_capacity c.self.inside.waiting) c.self.inside.spares c.self.inside.last a r.one (ap (λ (y : PortState). y.last) c.self.view_is ∙ c.requires.last)
    (room_stays v u c.self.inside.last c.self.inside.waiting.items (vec_capacity c.self.inside.waiting) looked c.self.invariant.1) (offer_stays v u c.self.inside.last c.self.inside.spares looked c.self.invariant.3) in
    let all : others c.self.inside.ring c.self.inside.table.now.layout.rings ≡ others (only u).core.ring u.opening.rings = rings_same u e.pass.0.3 c.self.inside.ring c.self.inside.table.now.layout r.one r.ring e.pass.0.2 in
    subst (λ (tos : List ℕ). (only u).core.shared + length tos ≤ MAX_SHARES) (sym all) has.many

pub put_for_all-puts-requires-clause-room : goal.put_for_all-puts-requires-clause-room
put_for_all-puts-requires-clause-room g c =
    let v : View = c.self.inside.pass.me.0 in
    let u : View = c.read_head-head.new.pass.me.0 in
    let a : ℕ = c.args.c.address in
    let e = c.read_head-head.ensures in
    let looked = loaded_twice (a + 1) (a + 2) v u e.part in
    let r = ring_stays c.read_head-head.new.pass c.self.invariant.0 e.pass.0 e.pass.1 looked in
    let has = has_offer u e.pass.0.3 c.self.inside.waiting.items (vec_capacity c.self.inside.waiting) c.self.inside.spares c.self.inside.last a r.one (ap (λ (y : PortState). y.last) c.self.view_is ∙ c.requires.last)
    (room_stays v u c.self.inside.last c.self.inside.waiting.items (vec_capacity c.self.inside.waiting) looked c.self.invariant.1) (offer_stays v u c.self.inside.last c.self.inside.spares looked c.self.invariant.3) in
    let all : others c.self.inside.ring c.self.inside.table.now.layout.rings ≡ others (only u).core.ring u.opening.rings = rings_same u e.pass.0.3 c.self.inside.ring c.self.inside.table.now.layout r.one r.ring e.pass.0.2 in
    subst (λ (tos : List ℕ). CanTakeBack (only u) c.self.inside.waiting.items (vec_capacity c.self.inside.waiting) c.self.inside.spares (length tos)) (sym all) has.back

pub invariant_of-self : goal.invariant_of-self
invariant_of-self g c =
    let v : View = c.self.inside.pass.me.0 in
    let u : View = c.read_head-head.new.pass.me.0 in
    let a : ℕ = c.args.c.address in
    let e = c.read_head-head.ensures in
    let looked = loaded_twice (a + 1) (a + 2) v u e.part in
    let r = ring_stays c.read_head-head.new.pass c.self.invariant.0 e.pass.0 e.pass.1 looked in
    let has = has_offer u e.pass.0.3 c.self.inside.waiting.items (vec_capacity c.self.inside.waiting) c.self.inside.spares c.self.inside.last a r.one (ap (λ (y : PortState). y.last) c.self.view_is ∙ c.requires.last)
    (room_stays v u c.self.inside.last c.self.inside.waiting.items (vec_capacity c.self.inside.waiting) looked c.self.invariant.1) (offer_stays v u c.self.inside.last c.self.inside.spares looked c.self.invariant.3) in
    let all : others c.self.inside.ring c.self.inside.table.now.layout.rings ≡ others (only u).core.ring u.opening.rings = rings_same u e.pass.0.3 c.self.inside.ring c.self.inside.table.now.layout r.one r.ring e.pass.0.2 in
    let f = c.put_for_all-puts.ensures in
    let tos : List ℕ = others c.self.inside.ring c.self.inside.table.now.layout.rings in
    let w : View = c.put_for_all-puts.new.pass.me.0 in
    let small : c.in-Some.class < 4 = class_small c.read_head-head.result.size c.read_head-head.result.glue c.in-Some.class (sym c.class_of.ensures ∙ c.in-Some.is) in
    let place : ℕ = slice_index c.self.inside.spares.places c.in-Some.class in (
      ring_offers c.put_for_all-puts.new.pass c.in-Some.class place a tos r f.pass.0 f.pass.1 f.put,
      room_offers u w c.in-Some.class place a tos c.put_for_all-puts.new.waiting.items (vec_capacity c.put_for_all-puts.new.waiting) c.put_for_all-puts.new.spares f.put
          (subst (λ (rs : List ℕ). (only u).core.shared + length rs ≤ 15 * length (only u).core.wrote) (sym all) has.shares) f.room,
      units_keep u w c.self.inside.seen.items (vec_capacity c.self.inside.seen) (vec_capacity c.self.inside.arrived) (ap (λ (y : RingPart). y.core.seen) f.put.part.part) f.put.layout (units_stay v u c.self.inside.seen.items (vec_capacity c.self.inside.seen) (vec_capacity c.self.inside.arrived) looked c.self.invariant.2),
      subst (CanOffer (only w) w.opening None) (sym c.move_on.ensures)
          (offer_offers u w c.in-Some.class place a tos c.put_for_all-puts.new.waiting.items (vec_capacity c.put_for_all-puts.new.waiting) c.self.inside.spares c.put_for_all-puts.new.spares
          (slice_set c.put_for_all-puts.new.spares.places c.in-Some.class ((slice_index c.put_for_all-puts.new.spares.places c.in-Some.class + 1) % c.self.inside.table.now.layout.depth))
          small refl all has.places
          (λ i. slice_set (f.longest.1 i) c.in-Some.class ((slice_index (f.longest.1 i) c.in-Some.class + 1) % sym (depth_same u e.pass.0.3 c.self.inside.table.now.layout e.pass.0.2) i))
          f.put has.short f.longest.0 f.room),
    )

pub returns-clause-offered : goal.returns-clause-offered
returns-clause-offered g c =
    let v : View = c.self.inside.pass.me.0 in
    let u : View = c.read_head-head.new.pass.me.0 in
    let a : ℕ = c.args.c.address in
    let e = c.read_head-head.ensures in
    let looked = loaded_twice (a + 1) (a + 2) v u e.part in
    let r = ring_stays c.read_head-head.new.pass c.self.invariant.0 e.pass.0 e.pass.1 looked in
    let places = (offer_stays v u c.self.inside.last c.self.inside.spares looked c.self.invariant.3).places in
    let all : others c.self.inside.ring c.self.inside.table.now.layout.rings ≡ others (only u).core.ring u.opening.rings = rings_same u e.pass.0.3 c.self.inside.ring c.self.inside.table.now.layout r.one r.ring e.pass.0.2 in
    let f = c.put_for_all-puts.ensures in
    let small : c.in-Some.class < 4 = class_small c.read_head-head.result.size c.read_head-head.result.glue c.in-Some.class (sym c.class_of.ensures ∙ c.in-Some.is) in
    let is = class_here v (own_in c.self.invariant.0) c.args.self.now a c.read_head-head.result c.self.view_is c.requires.held e.size e.glue ∙ sym c.class_of.ensures ∙ c.in-Some.is in
    port_offers c.put_for_all-puts.new.pass c.args.self.now c.in-Some.class (slice_index c.self.inside.spares.places c.in-Some.class) a (class_at c.args.self.now a) (others c.self.inside.ring c.self.inside.table.now.layout.rings) is all
    (λ k lt other. places.next k c.in-Some.class lt other small) r f.pass.0 (port_stays c.read_head-head.new.pass c.self.invariant.0 e.pass.0 looked ∙ c.self.view_is) f.put

pub returns-clause-many : goal.returns-clause-many
returns-clause-many g c =
    let v : View = c.self.inside.pass.me.0 in
    let u : View = c.read_head-head.new.pass.me.0 in
    let a : ℕ = c.args.c.address in
    let e = c.read_head-head.ensures in
    let looked = loaded_twice (a + 1) (a + 2) v u e.part in
    let r = ring_stays c.read_head-head.new.pass c.self.invariant.0 e.pass.0 e.pass.1 looked in
    let all : others c.self.inside.ring c.self.inside.table.now.layout.rings ≡ others (only u).core.ring u.opening.rings = rings_same u e.pass.0.3 c.self.inside.ring c.self.inside.table.now.layout r.one r.ring e.pass.0.2 in
    c.put_for_all-puts.ensures.many ∙ ap length all ∙ ap (λ (y : PortState). length (other_rings y)) (port_stays c.read_head-head.new.pass c.self.invariant.0 e.pass.0 looked ∙ c.self.view_is)

pub returns-clause-port : goal.returns-clause-port
returns-clause-port g c = ring_port (invariant_of-self g c).0
