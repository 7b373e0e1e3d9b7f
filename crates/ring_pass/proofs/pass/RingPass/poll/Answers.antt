use Rattle.std.proofs.Common.{◌∙◌, ◌∷◌, [], ◌++◌, Option, Some, None, List, length, ap, subst, arith, vec_capacity}
use Rattle.sat_words.specs.declared.shared.Cref.{Cref}
use Rattle.pool_exchange.specs.Found.{IsFound}
use Rattle.ring_port.specs.PortState.{PortState, held_at}
use Rattle.ring_pass.specs.RingState.{port_of}
use Rattle.ring_pass.proofs.CanOffers.{offer_polls}
use Rattle.ring_pass.proofs.DropsHere.{on_ok}
use Rattle.ring_pass.proofs.Stays.{own_in, ring_port, port_retaken}
use Rattle.ring_pass.proofs.PollsHere.{ring_polls, room_polls, units_polls, port_polls, polled_keeps}
use Rattle.ring_pass.proofs.pass.RingPass.poll.Goals as goal

pub returns-then-is_err-clause-port : goal.returns-then-is_err-clause-port
returns-then-is_err-clause-port g c = port_retaken c.reserve.new.self.items c.self.invariant.0 c.reserve.ensures.items

pub returns-then-is_err-clause-kept : goal.returns-then-is_err-clause-kept
returns-then-is_err-clause-kept g c = λ a _.
    ap (λ (ts : List Cref). held_at (port_of c.self.inside.pass.me.0 (record (own_in c.self.invariant.0) { taken = ts })) a) c.reserve.ensures.items
    ∙ ap (λ (s : PortState). held_at s a) c.self.view_is

pub push_reserved-requires : goal.push_reserved-requires
push_reserved-requires g c =
    let room = on_ok c.reserve.result _ c.is_err.result c.is_err.ensures.value c.if-is_err.false c.reserve.ensures.ok in
    let len = c.reserve.ensures.len in
    let items = ap length c.reserve.ensures.items in
    omega arith

pub invariant_of-self-in-None : goal.invariant_of-self-in-None
invariant_of-self-in-None g c =
    let e = c.get-found.ensures in
    let p = e.part in
    let f = subst (λ (r : Option Cref). IsFound p.0.address r) c.in-None.is p.3 in (
      ring_polls c.get-found.new.pass c.args.from c.args.class c.args.place p.0 p.1 None c.saturating_add-self-inside.result c.reserve.new.self.items c.self.invariant.0 e.pass.0 e.pass.1 p.2 f c.reserve.ensures.items,
      room_polls c.self.inside.pass.me.0 c.get-found.new.pass.me.0 c.args.from c.args.class c.args.place p.0 p.1 None c.self.inside.last c.self.inside.waiting.items (vec_capacity c.self.inside.waiting) c.self.invariant.0.one p.2 f c.self.invariant.1,
      units_polls c.self.inside.pass.me.0 c.get-found.new.pass.me.0 c.args.from c.args.class c.args.place p.0 p.1 None c.self.inside.seen.items (vec_capacity c.self.inside.seen) (vec_capacity c.self.inside.arrived) c.self.invariant.0.one p.2 f c.self.invariant.2,
      offer_polls c.self.inside.pass.me.0 c.get-found.new.pass.me.0 c.args.from c.args.class c.args.place p.0 p.1 None c.self.inside.last c.self.inside.spares c.self.invariant.0.one p.2 f c.self.invariant.3,
    )

pub returns-in-None-clause-polled : goal.returns-in-None-clause-polled
returns-in-None-clause-polled g c =
    let e = c.get-found.ensures in
    let p = e.part in
    port_polls c.get-found.new.pass c.args.self.now c.args.from c.args.class c.args.place p.0 p.1 None c.saturating_add-self-inside.result c.reserve.new.self.items c.self.invariant.0 e.pass.0 c.self.view_is p.2 (subst (λ (r : Option Cref). IsFound p.0.address r) c.in-None.is p.3) p.4 c.saturating_add-self-inside.ensures c.reserve.ensures.items

pub returns-in-None-clause-kept : goal.returns-in-None-clause-kept
returns-in-None-clause-kept g c = polled_keeps c.args.self.now _ c.args.from c.args.class c.args.place None (returns-in-None-clause-polled g c)

pub returns-in-None-clause-port : goal.returns-in-None-clause-port
returns-in-None-clause-port g c = ring_port (invariant_of-self-in-None g c).0

pub invariant_of-self-in-Some : goal.invariant_of-self-in-Some
invariant_of-self-in-Some g c =
    let e = c.get-found.ensures in
    let p = e.part in
    let f = subst (λ (r : Option Cref). IsFound p.0.address r) c.in-Some.is p.3 in (
      ring_polls c.get-found.new.pass c.args.from c.args.class c.args.place p.0 p.1 (Some c.in-Some.c) c.saturating_add-self-inside.result c.push_reserved.new.self.items c.self.invariant.0 e.pass.0 e.pass.1 p.2 f (c.push_reserved.ensures.items ∙ ap (λ (cs : List Cref). cs ++ c.in-Some.c ∷ []) c.reserve.ensures.items),
      room_polls c.self.inside.pass.me.0 c.get-found.new.pass.me.0 c.args.from c.args.class c.args.place p.0 p.1 (Some c.in-Some.c) c.self.inside.last c.self.inside.waiting.items (vec_capacity c.self.inside.waiting) c.self.invariant.0.one p.2 f c.self.invariant.1,
      units_polls c.self.inside.pass.me.0 c.get-found.new.pass.me.0 c.args.from c.args.class c.args.place p.0 p.1 (Some c.in-Some.c) c.self.inside.seen.items (vec_capacity c.self.inside.seen) (vec_capacity c.self.inside.arrived) c.self.invariant.0.one p.2 f c.self.invariant.2,
      offer_polls c.self.inside.pass.me.0 c.get-found.new.pass.me.0 c.args.from c.args.class c.args.place p.0 p.1 (Some c.in-Some.c) c.self.inside.last c.self.inside.spares c.self.invariant.0.one p.2 f c.self.invariant.3,
    )

pub returns-in-Some-clause-polled : goal.returns-in-Some-clause-polled
returns-in-Some-clause-polled g c =
    let e = c.get-found.ensures in
    let p = e.part in
    port_polls c.get-found.new.pass c.args.self.now c.args.from c.args.class c.args.place p.0 p.1 (Some c.in-Some.c) c.saturating_add-self-inside.result c.push_reserved.new.self.items c.self.invariant.0 e.pass.0 c.self.view_is p.2 (subst (λ (r : Option Cref). IsFound p.0.address r) c.in-Some.is p.3) p.4 c.saturating_add-self-inside.ensures
    (c.push_reserved.ensures.items ∙ ap (λ (cs : List Cref). cs ++ c.in-Some.c ∷ []) c.reserve.ensures.items)

pub returns-in-Some-clause-kept : goal.returns-in-Some-clause-kept
returns-in-Some-clause-kept g c = polled_keeps c.args.self.now _ c.args.from c.args.class c.args.place (Some c.in-Some.c) (returns-in-Some-clause-polled g c)

pub returns-in-Some-clause-port : goal.returns-in-Some-clause-port
returns-in-Some-clause-port g c = ring_port (invariant_of-self-in-Some g c).0
