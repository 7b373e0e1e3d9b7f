use Rattle.std.proofs.Common.{◌∙◌, ap, [], ◌∷◌, subst, vec_capacity, arith}
use Rattle.std.specs.Prelude.{IfOk, IfErr}
use Rattle.rup_model.specs.declared.journal.Kind.TheVariants.{UnitLine}
use Rattle.ring_port.specs.Port.{is_usable}
use Rattle.ring_port.specs.PortState.{PortState}
use Rattle.ring_pass.specs.Cells.{WroteUnitLine}
use Rattle.ring_pass.specs.Writes.{WroteNone}
use Rattle.ring_pass.specs.RingState.{home_of}
use Rattle.ring_pass.proofs.EndsHere.{follows_here}
use Rattle.ring_pass.proofs.OfferTurns.{offer_refused}
use Rattle.ring_pass.proofs.Stays.{own_in, ring_port, name_stays}
use Rattle.ring_pass.proofs.TurnsHere.{refused_as, ring_refused, room_refused, units_refused}
use Rattle.ring_pass.proofs.UnitsHere.{unit_on, line_free, line_numbered, line_units, line_numbers, line_told, line_on, unit_as, ring_unit, room_unit, offer_unit, arrived_passed, unit_ends}
use Rattle.ring_pass.proofs.pass.RingPass.unit.Goals as goal

pub write_unit-written-requires-clause-follows : goal.write_unit-written-requires-clause-follows
write_unit-written-requires-clause-follows g c = follows_here c.self.inside.pass.me.0 (own_in c.self.invariant.0) c.args.self.now (c.args.lit ∷ []) c.args.hints.now c.self.view_is c.requires.hints c.requires.rup

pub write_unit-written-requires-clause-on : goal.write_unit-written-requires-clause-on
write_unit-written-requires-clause-on g c = unit_on c.self.inside.pass.me.0 (own_in c.self.invariant.0) c.args.self.now c.args.lit c.self.view_is c.requires.on

pub list_unit-requires-clause-ring : goal.list_unit-requires-clause-ring
list_unit-requires-clause-ring g c =
    let w = (subst (λ r. IfOk r (WroteUnitLine c.self.inside.pass.me.0 c.write_unit-written.new.pass.me.0 UnitLine c.args.lit c.args.hints.now)) c.in-Ok.is c.write_unit-written.ensures.wrote).wrote in
    line_free c.self.inside.ring w c.self.invariant.0.ring

pub list_unit-requires-clause-units : goal.list_unit-requires-clause-units
list_unit-requires-clause-units g c =
    let w = (subst (λ r. IfOk r (WroteUnitLine c.self.inside.pass.me.0 c.write_unit-written.new.pass.me.0 UnitLine c.args.lit c.args.hints.now)) c.in-Ok.is c.write_unit-written.ensures.wrote).wrote in
    line_units c.self.inside.seen.items (vec_capacity c.self.inside.seen) (vec_capacity c.self.inside.arrived) w c.self.invariant.2

pub list_unit-requires-clause-arrived : goal.list_unit-requires-clause-arrived
list_unit-requires-clause-arrived g c =
    let w = (subst (λ r. IfOk r (WroteUnitLine c.self.inside.pass.me.0 c.write_unit-written.new.pass.me.0 UnitLine c.args.lit c.args.hints.now)) c.in-Ok.is c.write_unit-written.ensures.wrote).wrote in
    (c.self.invariant.0.own.distinct, line_told c.self.inside.arrived.items w c.self.invariant.0.own.told)

pub list_unit-requires-clause-written : goal.list_unit-requires-clause-written
list_unit-requires-clause-written g c = line_numbered (subst (λ r. IfOk r (WroteUnitLine c.self.inside.pass.me.0 c.write_unit-written.new.pass.me.0 UnitLine c.args.lit c.args.hints.now)) c.in-Ok.is c.write_unit-written.ensures.wrote)

pub list_unit-requires-clause-on : goal.list_unit-requires-clause-on
list_unit-requires-clause-on g c =
    let w = (subst (λ r. IfOk r (WroteUnitLine c.self.inside.pass.me.0 c.write_unit-written.new.pass.me.0 UnitLine c.args.lit c.args.hints.now)) c.in-Ok.is c.write_unit-written.ensures.wrote).wrote in
    line_on w (unit_on c.self.inside.pass.me.0 (own_in c.self.invariant.0) c.args.self.now c.args.lit c.self.view_is c.requires.on)

pub list_unit-requires-clause-numbers : goal.list_unit-requires-clause-numbers
list_unit-requires-clause-numbers g c =
    let w = (subst (λ r. IfOk r (WroteUnitLine c.self.inside.pass.me.0 c.write_unit-written.new.pass.me.0 UnitLine c.args.lit c.args.hints.now)) c.in-Ok.is c.write_unit-written.ensures.wrote).wrote in
    line_numbers c.self.inside.numbers.items w c.self.invariant.0.numbers

pub leave_out-requires-clause-passed : goal.leave_out-requires-clause-passed
leave_out-requires-clause-passed g c =
    let long = arrived_passed c.list_unit.ensures.listed in
    let le = c.self.invariant.0.own.passed in
    omega arith

pub leave_out-requires-clause-distinct : goal.leave_out-requires-clause-distinct
leave_out-requires-clause-distinct g c = c.list_unit.ensures.listed.distinct

pub invariant_of-self : goal.invariant_of-self
invariant_of-self g c =
    let w = (subst (λ r. IfOk r (WroteUnitLine c.self.inside.pass.me.0 c.write_unit-written.new.pass.me.0 UnitLine c.args.lit c.args.hints.now)) c.in-Ok.is c.write_unit-written.ensures.wrote).wrote in
    let l = c.list_unit.ensures in
    let u = l.units in (
      ring_unit c.list_unit.new.pass c.self.inside.last c.list_unit.new.numbers.items c.self.invariant.0 l.pass.0 (l.pass.1 ∙ c.write_unit-written.ensures.pass.1) l.pass.2 w l.listed c.leave_out.ensures.left l.numbers,
      room_unit c.self.inside.last c.self.inside.waiting.items (vec_capacity c.self.inside.waiting) w l.listed c.self.invariant.1,
      record { all = u.all; seen_room_is = u.seen_room_is; arrived_room_is = (let r = u.arrived_room_is in let e = c.leave_out.ensures.room in omega arith) },
      offer_unit c.self.inside.last c.self.inside.spares w l.listed c.self.invariant.3,
    )

pub returns-in-Ok-clause-written : goal.returns-in-Ok-clause-written
returns-in-Ok-clause-written g c =
    let w = (subst (λ r. IfOk r (WroteUnitLine c.self.inside.pass.me.0 c.write_unit-written.new.pass.me.0 UnitLine c.args.lit c.args.hints.now)) c.in-Ok.is c.write_unit-written.ensures.wrote).wrote in
    let l = c.list_unit.ensures in
    unit_as (own_in c.self.invariant.0) c.args.self.now (home_of c.list_unit.new.pass) c.self.view_is c.self.invariant.0.own w l.listed c.leave_out.ensures.left (name_stays c.list_unit.new.pass c.self.invariant.0 l.pass.0)

pub returns-in-Ok-clause-port : goal.returns-in-Ok-clause-port
returns-in-Ok-clause-port g c = ring_port (invariant_of-self g c).0

pub returns-in-Ok-clause-hints : goal.returns-in-Ok-clause-hints
returns-in-Ok-clause-hints g c =
    let w = (subst (λ r. IfOk r (WroteUnitLine c.self.inside.pass.me.0 c.write_unit-written.new.pass.me.0 UnitLine c.args.lit c.args.hints.now)) c.in-Ok.is c.write_unit-written.ensures.wrote).wrote in
    unit_ends w c.list_unit.ensures.listed (own_in c.self.invariant.0)

pub invariant_of-self-in-Err : goal.invariant_of-self-in-Err
invariant_of-self-in-Err g c =
    let e = c.write_unit-written.ensures in
    let w = subst (λ r. IfErr r (WroteNone c.self.inside.pass.me.0 c.write_unit-written.new.pass.me.0)) c.in-Err.is e.refused in (
      ring_refused c.write_unit-written.new.pass c.in-Err.stop _ c.refuse.new.ended c.self.invariant.0 (ap (λ (s : PortState). is_usable s.refused) c.self.view_is ∙ c.requires.usable) e.pass.0 e.pass.1 e.pass.2 w c.refuse.ensures.kept c.refuse.ensures.ended,
      room_refused c.self.inside.pass.me.0 c.write_unit-written.new.pass.me.0 c.in-Err.stop c.self.inside.last c.self.inside.waiting.items (vec_capacity c.self.inside.waiting) w c.self.invariant.1,
      units_refused c.self.inside.pass.me.0 c.write_unit-written.new.pass.me.0 c.in-Err.stop c.self.inside.seen.items (vec_capacity c.self.inside.seen) (vec_capacity c.self.inside.arrived) w c.self.invariant.2,
      offer_refused c.self.inside.pass.me.0 c.write_unit-written.new.pass.me.0 c.in-Err.stop c.self.inside.last c.self.inside.spares w c.self.invariant.3,
    )

pub returns-in-Err-clause-written : goal.returns-in-Err-clause-written
returns-in-Err-clause-written g c =
    let e = c.write_unit-written.ensures in
    let w = subst (λ r. IfErr r (WroteNone c.self.inside.pass.me.0 c.write_unit-written.new.pass.me.0)) c.in-Err.is e.refused in
    refused_as (own_in c.self.invariant.0) c.args.self.now c.refuse.new.refused c.refuse.new.ended c.refuse.result (home_of c.write_unit-written.new.pass) c.self.view_is c.self.invariant.0 c.requires.usable w c.refuse.ensures.kept c.refuse.ensures.ended c.refuse.ensures.stop (name_stays c.write_unit-written.new.pass c.self.invariant.0 e.pass.0)

pub returns-in-Err-clause-port : goal.returns-in-Err-clause-port
returns-in-Err-clause-port g c = ring_port (invariant_of-self-in-Err g c).0
