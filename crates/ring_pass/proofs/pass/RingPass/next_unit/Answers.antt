use Rattle.std.proofs.Common.{◌+◌, length, arith, vec_capacity}
use Rattle.ring_pass.proofs.OfferTurns.{offer_sees}
use Rattle.ring_pass.proofs.Stays.{ring_port}
use Rattle.ring_pass.proofs.SeenHere.{ring_given, port_given, ring_sees, port_sees, room_sees, units_sees, ring_sees_all, port_sees_all, told_none}
use Rattle.ring_pass.proofs.pass.RingPass.next_unit.Goals as goal

pub returns-then-self-len-clause-took : goal.returns-then-self-len-clause-took
returns-then-self-len-clause-took g c =
    let lt = c.if-self-len.true in
    let len = c.len.ensures in
    port_given c.args.self.now c.index-lit.result.now c.self.invariant.0 c.self.view_is (omega arith) c.index-lit.ensures

pub returns-then-self-len-clause-port : goal.returns-then-self-len-clause-port
returns-then-self-len-clause-port g c =
    let lt = c.if-self-len.true in
    let len = c.len.ensures in
    ring_port (ring_given c.self.invariant.0 (omega arith))

pub returns-in_err-lit-clause-took : goal.returns-in_err-lit-clause-took
returns-in_err-lit-clause-took g c =
    let e = c.see_next.ensures in
    let ge = c.if-self-len.false in
    let len = c.len.ensures in
    let le = c.self.invariant.0.own.passed in
    told_none c.from_residual.result c.from_residual.ensures (port_sees_all c.see_next.new.pass c.args.self.now (length c.self.inside.seen.items) c.self.inside.seen.items c.see_next.new.seen.items c.see_next.new.arrived.items c.self.invariant.0 e.pass.0 c.self.view_is c.in_err-lit.ensures.saw (omega arith))

pub returns-in_err-lit-clause-port : goal.returns-in_err-lit-clause-port
returns-in_err-lit-clause-port g c =
    let e = c.see_next.ensures in
    ring_port (ring_sees_all c.see_next.new.pass (length c.self.inside.seen.items) c.self.inside.seen.items c.see_next.new.seen.items c.see_next.new.arrived.items c.see_next.new.numbers.items c.self.invariant.0 e.pass.0 e.pass.1 c.in_err-lit.ensures.saw e.numbers)

pub invariant_of-self-2 : goal.invariant_of-self-2
invariant_of-self-2 g c =
    let e = c.see_next.ensures in
    let ge = c.if-self-len.false in
    let len = c.len.ensures in
    let le = c.self.invariant.0.own.passed in
    let saw = c.in_ok-lit.ensures.saw in (
      ring_sees c.see_next.new.pass c.in_ok-lit.lit c.self.inside.seen.items c.see_next.new.seen.items c.see_next.new.arrived.items (c.self.inside.passed + 1) c.see_next.new.numbers.items c.self.invariant.0 e.pass.0 e.pass.1 saw (omega arith) e.numbers,
      room_sees c.self.inside.pass.me.0 c.see_next.new.pass.me.0 c.in_ok-lit.lit c.self.inside.seen.items c.see_next.new.seen.items c.self.inside.arrived.items c.see_next.new.arrived.items c.self.inside.last c.self.inside.waiting.items (vec_capacity c.self.inside.waiting) c.self.invariant.0.one saw c.self.invariant.1,
      units_sees c.self.inside.pass.me.0 c.see_next.new.pass.me.0 c.in_ok-lit.lit c.self.inside.seen.items c.see_next.new.seen.items c.self.inside.arrived.items c.see_next.new.arrived.items (vec_capacity c.self.inside.seen) (vec_capacity c.self.inside.arrived) (vec_capacity c.see_next.new.seen) (vec_capacity c.see_next.new.arrived)
          c.self.invariant.0.one saw e.room.0 e.room.1 c.self.invariant.2,
      offer_sees c.self.inside.pass.me.0 c.see_next.new.pass.me.0 c.in_ok-lit.lit c.self.inside.seen.items c.see_next.new.seen.items c.self.inside.arrived.items c.see_next.new.arrived.items c.self.inside.last c.self.inside.spares c.self.invariant.0.one saw c.self.invariant.3,
    )

pub returns-clause-took : goal.returns-clause-took
returns-clause-took g c =
    let e = c.see_next.ensures in
    let ge = c.if-self-len.false in
    let len = c.len.ensures in
    let le = c.self.invariant.0.own.passed in
    port_sees c.see_next.new.pass c.args.self.now c.in_ok-lit.lit c.self.inside.seen.items c.see_next.new.seen.items c.see_next.new.arrived.items c.self.invariant.0 e.pass.0 c.self.view_is c.in_ok-lit.ensures.saw (omega arith)

pub returns-clause-port : goal.returns-clause-port
returns-clause-port g c = ring_port (invariant_of-self-2 g c).0
