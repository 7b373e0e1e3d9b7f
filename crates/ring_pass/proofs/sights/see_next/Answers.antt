use Rattle.std.proofs.Common.{length, ap, arith}
use Rattle.ring_pass.proofs.NumbersSeen.{sees_number, sees_no_number}
use Rattle.ring_pass.proofs.SeenHere.{saw_one, saw_all, sight_is, saw_place, arrived_place}
use Rattle.ring_pass.proofs.sights.see_next.Goals as goal

pub push_reserved-requires : goal.push_reserved-requires
push_reserved-requires g c =
    let n = c.in_ok-unit.ensures.unit in
    let room = c.requires.units.seen_room_is in
    let all = ap length c.requires.units.all in
    let place = saw_place c.args.pass.now.me.0 c.next_unit.new.pass.me.0 c.in_ok-unit.unit.0 c.in_ok-unit.unit.1 n.0 c.requires.pass.1 (sight_is c.args.pass.now.me.0 c.next_unit.new.pass.me.0 c.args.seen.now.items c.in_ok-unit.unit.0 c.in_ok-unit.unit.1 n.0 c.len.result (let len = c.len.ensures in omega arith) c.requires.units.all n.2) c.next_unit.ensures.pass.0.3 in
    omega arith

pub push_reserved-requires-2 : goal.push_reserved-requires-2
push_reserved-requires-2 g c =
    let n = c.in_ok-unit.ensures.unit in
    let room = c.requires.units.arrived_room_is in
    let place = arrived_place c.args.pass.now.me.0 c.next_unit.new.pass.me.0 c.in_ok-unit.unit.0 c.in_ok-unit.unit.1 n.0 c.args.arrived.now.items c.requires.pass.1 (sight_is c.args.pass.now.me.0 c.next_unit.new.pass.me.0 c.args.seen.now.items c.in_ok-unit.unit.0 c.in_ok-unit.unit.1 n.0 c.len.result (let len = c.len.ensures in omega arith) c.requires.units.all n.2) c.next_unit.ensures.pass.0.3 c.requires.arrived.0 c.requires.arrived.1 in
    omega arith

pub returns-in_err-unit-clause-saw : goal.returns-in_err-unit-clause-saw
returns-in_err-unit-clause-saw g c =
    let len = c.len.ensures in
    saw_all c.args.pass.now.me.0 c.next_unit.new.pass.me.0 c.args.seen.now.items c.args.arrived.now.items c.len.result c.from_residual.result c.from_residual.ensures c.requires.pass.1 c.requires.units.all (omega arith) c.in_err-unit.ensures.unit

pub returns-clause-saw : goal.returns-clause-saw
returns-clause-saw g c =
    let len = c.len.ensures in
    saw_one c.len.result c.requires.pass.1 c.requires.units.all (omega arith) c.in_ok-unit.ensures.unit c.push_reserved.ensures.items c.push_reserved-2.ensures.items

pub returns-in_err-unit-clause-numbers : goal.returns-in_err-unit-clause-numbers
returns-in_err-unit-clause-numbers g c = sees_no_number c.args.pass.now.me.0 c.next_unit.new.pass.me.0 _ c.args.numbers.now.items c.requires.pass.1 c.in_err-unit.ensures.unit.0

pub returns-clause-numbers : goal.returns-clause-numbers
returns-clause-numbers g c =
    let n = c.in_ok-unit.ensures.unit in
    let is = sight_is c.args.pass.now.me.0 c.next_unit.new.pass.me.0 c.args.seen.now.items c.in_ok-unit.unit.0 c.in_ok-unit.unit.1 n.0 c.len.result (let len = c.len.ensures in omega arith) c.requires.units.all n.2 in
    sees_number c.args.pass.now.me.0 c.next_unit.new.pass.me.0 c.in_ok-unit.unit.0 c.in_ok-unit.unit.1 n.0 c.args.numbers.now.items c.note_number.new.numbers.items c.requires.pass.0.3 c.next_unit.ensures.pass.0.3 c.requires.pass.1 is c.note_number.ensures
