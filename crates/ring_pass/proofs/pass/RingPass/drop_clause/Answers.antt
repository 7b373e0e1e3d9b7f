use Rattle.std.proofs.Common.{◌≡◌, ◌∙◌, ◌+◌, ℕ, ap, sym, subst, arith, length, vec_capacity}
use Rattle.share_rule.specs.declared.Layout.{Layout}
use Rattle.share_rule.specs.declared.view.View.{View}
use Rattle.share_core.specs.State.{times_at}
use Rattle.share_rule.specs.Views.{only, clause_of}
use Rattle.share_rule.proofs.Lists.{first_at}
use Rattle.ref_count.specs.Drops.{IsDropped}
use Rattle.ring_pass.proofs.CanOffers.{room_ends, offer_stays, offer_drops}
use Rattle.ring_pass.proofs.DropsHere.{ring_not_taken, on_ok, ring_drops, port_drops, room_left, room_last, room_grows, units_drops}
use Rattle.ring_pass.proofs.RingPorts.{rings_here}
use Rattle.ring_pass.proofs.Stays.{clause_same, holding_same, loaded_twice, looked_both, same_both, ring_stays, port_stays, room_stays, units_stay, ring_port, ring_holds}
use Rattle.ring_pass.proofs.pass.RingPass.drop_clause.Goals as goal

pub read_head-head-requires-clause-held : goal.read_head-head-requires-clause-held
read_head-head-requires-clause-held g c = ring_holds c.args.self.now c.args.c.address c.self.invariant.0 c.self.view_is c.requires.held

pub returns-then-is_err-clause-port : goal.returns-then-is_err-clause-port
returns-then-is_err-clause-port g c =
    let e = c.read_head-head.ensures in
    ring_port (ring_stays c.read_head-head.new.pass c.self.invariant.0 e.pass.0 e.pass.1 (loaded_twice (c.args.c.address + 1) (c.args.c.address + 2) c.self.inside.pass.me.0 c.read_head-head.new.pass.me.0 e.part))

pub returns-in_default-clause-port : goal.returns-in_default-clause-port
returns-in_default-clause-port g c =
    let e = c.read_head-head.ensures in
    ring_port (ring_stays c.read_head-head.new.pass c.self.invariant.0 e.pass.0 e.pass.1 (loaded_twice (c.args.c.address + 1) (c.args.c.address + 2) c.self.inside.pass.me.0 c.read_head-head.new.pass.me.0 e.part))

pub invariant_of-self-in_default : goal.invariant_of-self-in_default
invariant_of-self-in_default g c =
    let v : View = c.self.inside.pass.me.0 in
    let u : View = c.read_head-head.new.pass.me.0 in
    let e = c.read_head-head.ensures in
    let looked = loaded_twice (c.args.c.address + 1) (c.args.c.address + 2) c.self.inside.pass.me.0 c.read_head-head.new.pass.me.0 e.part in (
      ring_stays c.read_head-head.new.pass c.self.invariant.0 e.pass.0 e.pass.1 looked,
      room_stays v u c.self.inside.last c.reserve.new.self.items (vec_capacity c.reserve.new.self) looked
          (room_grows _ v.opening.rings c.self.inside.last c.self.inside.waiting.items c.reserve.new.self.items (vec_capacity c.self.inside.waiting) (vec_capacity c.reserve.new.self) c.self.invariant.1 c.reserve.ensures.items c.reserve.ensures.capacity),
      units_stay v u c.self.inside.seen.items (vec_capacity c.self.inside.seen) (vec_capacity c.self.inside.arrived) looked c.self.invariant.2,
      offer_stays v u c.self.inside.last c.self.inside.spares looked c.self.invariant.3,
    )

pub read_clause-requires-clause-held : goal.read_clause-requires-clause-held
read_clause-requires-clause-held g c =
    holding_same c.self.inside.pass.me.0 c.read_head-head.new.pass.me.0 c.args.c.address (loaded_twice (c.args.c.address + 1) (c.args.c.address + 2) c.self.inside.pass.me.0 c.read_head-head.new.pass.me.0 c.read_head-head.ensures.part)
    (ring_holds c.args.self.now c.args.c.address c.self.invariant.0 c.self.view_is c.requires.held)

pub drop_count-requires-clause-held : goal.drop_count-requires-clause-held
drop_count-requires-clause-held g c =
    holding_same c.read_head-head.new.pass.me.0 c.read_clause.new.pass.me.0 c.args.c.address c.read_clause.ensures.looked
    (holding_same c.self.inside.pass.me.0 c.read_head-head.new.pass.me.0 c.args.c.address (loaded_twice (c.args.c.address + 1) (c.args.c.address + 2) c.self.inside.pass.me.0 c.read_head-head.new.pass.me.0 c.read_head-head.ensures.part)
    (ring_holds c.args.self.now c.args.c.address c.self.invariant.0 c.self.view_is c.requires.held))

pub invariant_of-self-in-Left-1 : goal.invariant_of-self-in-Left-1
invariant_of-self-in-Left-1 g c =
    let v : View = c.self.inside.pass.me.0 in
    let u : View = c.read_clause.new.pass.me.0 in
    let e = c.read_head-head.ensures in
    let k = c.read_clause.ensures in
    let d = c.drop_count.ensures in
    let looked = looked_both v c.read_head-head.new.pass.me.0 u (loaded_twice (c.args.c.address + 1) (c.args.c.address + 2) v c.read_head-head.new.pass.me.0 e.part) k.looked in
    let r = ring_stays c.read_clause.new.pass c.self.invariant.0 k.pass.0 (same_both c.self.inside.pass c.read_head-head.new.pass c.read_clause.new.pass e.pass.1 k.pass.1) looked in
    let held = holding_same v u c.args.c.address looked (ring_holds c.args.self.now c.args.c.address c.self.invariant.0 c.self.view_is c.requires.held) in
    let found = subst (λ x. IsDropped d.part.0 x) c.in-Left.is d.part.2 in (
      ring_drops c.drop_count.new.pass c.args.c.address d.part.0 c.unless_at-self-inside.result r d.pass.0 d.pass.1 d.part.1 held.1 (ring_not_taken c.args.self.now c.args.c.address c.self.invariant.0 c.self.view_is c.requires.apart),
      room_left u c.drop_count.new.pass.me.0 c.args.c.address d.part.0 c.unless_at-self-inside.result c.reserve.new.self.items (vec_capacity c.reserve.new.self) r.one d.part.1 found
          (room_stays v u c.unless_at-self-inside.result c.reserve.new.self.items (vec_capacity c.reserve.new.self) looked
          (room_ends _ v.opening.rings c.args.c.address (vec_capacity c.reserve.new.self) c.self.inside.last c.unless_at-self-inside.result c.reserve.new.self.items c.unless_at-self-inside.ensures
          (room_grows _ v.opening.rings c.self.inside.last c.self.inside.waiting.items c.reserve.new.self.items (vec_capacity c.self.inside.waiting) (vec_capacity c.reserve.new.self) c.self.invariant.1 c.reserve.ensures.items c.reserve.ensures.capacity))),
      units_drops u c.drop_count.new.pass.me.0 c.args.c.address d.part.0 c.self.inside.seen.items (vec_capacity c.self.inside.seen) (vec_capacity c.self.inside.arrived) r.one d.part.1 (units_stay v u c.self.inside.seen.items (vec_capacity c.self.inside.seen) (vec_capacity c.self.inside.arrived) looked c.self.invariant.2),
      offer_drops u c.drop_count.new.pass.me.0 c.args.c.address d.part.0 c.self.inside.last c.unless_at-self-inside.result c.self.inside.spares c.unless_at-self-inside.ensures r.one d.part.1 held.1 (offer_stays v u c.self.inside.last c.self.inside.spares looked c.self.invariant.3),
    )

pub invariant_of-self-in-Last : goal.invariant_of-self-in-Last
invariant_of-self-in-Last g c =
    let v : View = c.self.inside.pass.me.0 in
    let u : View = c.read_clause.new.pass.me.0 in
    let a : ℕ = c.args.c.address in
    let e = c.read_head-head.ensures in
    let k = c.read_clause.ensures in
    let d = c.drop_count.ensures in
    let first = loaded_twice (a + 1) (a + 2) v c.read_head-head.new.pass.me.0 e.part in
    let looked = looked_both v c.read_head-head.new.pass.me.0 u first k.looked in
    let r = ring_stays c.read_clause.new.pass c.self.invariant.0 k.pass.0 (same_both c.self.inside.pass c.read_head-head.new.pass c.read_clause.new.pass e.pass.1 k.pass.1) looked in
    let held = holding_same v u a looked (ring_holds c.args.self.now a c.self.invariant.0 c.self.view_is c.requires.held) in
    let found = subst (λ x. IsDropped d.part.0 x) c.in-Last.is d.part.2 in
    let rings = rings_here c.read_clause.new.pass.me.0 k.pass.0.3 r.one in
    let table = ap (λ (l : Layout). l.rings) k.pass.0.2 in
    let same : clause_of a u ≡ clause_of a v = clause_same v u a looked in
    let room = on_ok c.reserve.result _ c.is_err.result c.is_err.ensures.value c.if-is_err.false c.reserve.ensures.ok in
    let same_room = c.push_reserved.ensures.capacity in
    let len = c.reserve.ensures.len in
    let items = ap length c.reserve.ensures.items in (
      ring_drops c.drop_count.new.pass a d.part.0 c.unless_at-self-inside.result r d.pass.0 d.pass.1 d.part.1 held.1 (ring_not_taken c.args.self.now a c.self.invariant.0 c.self.view_is c.requires.apart),
      room_last u c.drop_count.new.pass.me.0 a d.part.0 c.unless_at-self-inside.result c.reserve.new.self.items c.push_reserved.new.self.items (vec_capacity c.push_reserved.new.self) _ r.one d.part.1 found
          (record { address = sym (first_at a _ held.1).1; number = e.number ∙ sym (ap (λ h. h.number) same); lits = k.lits ∙ ap (λ h. h.lits) (sym (clause_same c.read_head-head.new.pass.me.0 u a k.looked)) })
          c.push_reserved.ensures.items rings.0 (omega arith)
          (room_stays v u c.unless_at-self-inside.result c.reserve.new.self.items (vec_capacity c.push_reserved.new.self) looked
          (room_ends _ v.opening.rings a (vec_capacity c.push_reserved.new.self) c.self.inside.last c.unless_at-self-inside.result c.reserve.new.self.items c.unless_at-self-inside.ensures
          (room_grows _ v.opening.rings c.self.inside.last c.self.inside.waiting.items c.reserve.new.self.items (vec_capacity c.self.inside.waiting) (vec_capacity c.push_reserved.new.self) c.self.invariant.1 c.reserve.ensures.items (let x = c.reserve.ensures.capacity in let y = c.push_reserved.ensures.capacity in omega arith)))),
      units_drops u c.drop_count.new.pass.me.0 a d.part.0 c.self.inside.seen.items (vec_capacity c.self.inside.seen) (vec_capacity c.self.inside.arrived) r.one d.part.1 (units_stay v u c.self.inside.seen.items (vec_capacity c.self.inside.seen) (vec_capacity c.self.inside.arrived) looked c.self.invariant.2),
      offer_drops u c.drop_count.new.pass.me.0 a d.part.0 c.self.inside.last c.unless_at-self-inside.result c.self.inside.spares c.unless_at-self-inside.ensures r.one d.part.1 held.1 (offer_stays v u c.self.inside.last c.self.inside.spares looked c.self.invariant.3),
    )

pub returns-in-Left-clause-dropped : goal.returns-in-Left-clause-dropped
returns-in-Left-clause-dropped g c =
    let v : View = c.self.inside.pass.me.0 in
    let u : View = c.read_clause.new.pass.me.0 in
    let e = c.read_head-head.ensures in
    let k = c.read_clause.ensures in
    let d = c.drop_count.ensures in
    let looked = looked_both v c.read_head-head.new.pass.me.0 u (loaded_twice (c.args.c.address + 1) (c.args.c.address + 2) v c.read_head-head.new.pass.me.0 e.part) k.looked in
    let r = ring_stays c.read_clause.new.pass c.self.invariant.0 k.pass.0 (same_both c.self.inside.pass c.read_head-head.new.pass c.read_clause.new.pass e.pass.1 k.pass.1) looked in
    let held = holding_same v u c.args.c.address looked (ring_holds c.args.self.now c.args.c.address c.self.invariant.0 c.self.view_is c.requires.held) in
    port_drops c.drop_count.new.pass c.args.self.now c.args.c.address d.part.0 c.unless_at-self-inside.result c.unless_at-self-inside.ensures r d.pass.0 (port_stays c.read_clause.new.pass c.self.invariant.0 k.pass.0 looked ∙ c.self.view_is) d.part.1 held.1
    (λ one _. subst (IsDropped (times_at c.args.c.address (only u).core.held)) c.in-Left.is (d.lone one))

pub returns-in-Left-clause-port : goal.returns-in-Left-clause-port
returns-in-Left-clause-port g c = ring_port (invariant_of-self-in-Left-1 g c).0

pub returns-in-Last-clause-dropped : goal.returns-in-Last-clause-dropped
returns-in-Last-clause-dropped g c =
    let v : View = c.self.inside.pass.me.0 in
    let u : View = c.read_clause.new.pass.me.0 in
    let e = c.read_head-head.ensures in
    let k = c.read_clause.ensures in
    let d = c.drop_count.ensures in
    let looked = looked_both v c.read_head-head.new.pass.me.0 u (loaded_twice (c.args.c.address + 1) (c.args.c.address + 2) v c.read_head-head.new.pass.me.0 e.part) k.looked in
    let r = ring_stays c.read_clause.new.pass c.self.invariant.0 k.pass.0 (same_both c.self.inside.pass c.read_head-head.new.pass c.read_clause.new.pass e.pass.1 k.pass.1) looked in
    let held = holding_same v u c.args.c.address looked (ring_holds c.args.self.now c.args.c.address c.self.invariant.0 c.self.view_is c.requires.held) in
    port_drops c.drop_count.new.pass c.args.self.now c.args.c.address d.part.0 c.unless_at-self-inside.result c.unless_at-self-inside.ensures r d.pass.0 (port_stays c.read_clause.new.pass c.self.invariant.0 k.pass.0 looked ∙ c.self.view_is) d.part.1 held.1
    (λ _ ne. absurd (ne (subst (IsDropped d.part.0) c.in-Last.is d.part.2)))

pub returns-in-Last-clause-port : goal.returns-in-Last-clause-port
returns-in-Last-clause-port g c = ring_port (invariant_of-self-in-Last g c).0
