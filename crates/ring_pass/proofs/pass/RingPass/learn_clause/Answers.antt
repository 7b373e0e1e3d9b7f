use Rattle.std.proofs.Common.{◌∙◌, refl, ap, arith, length, Some, vec_capacity}
use Rattle.rup_model.specs.declared.journal.Kind.TheVariants.{Learn}
use Rattle.share_rule.specs.declared.Layout.{Layout}
use Rattle.share_rule.specs.declared.view.View.{View}
use Rattle.ring_port.specs.Port.{is_usable}
use Rattle.ring_port.specs.PortState.{PortState, held_at}
use Rattle.ring_pass.specs.RingState.{home_of}
use Rattle.ring_pass.proofs.DerivesHere.{long_here, on_here, added_as, added_ends, added_keeps, refused_keeps, ring_adds, units_adds}
use Rattle.ring_pass.proofs.DropsHere.{on_ok, room_grows}
use Rattle.ring_pass.proofs.EndsHere.{follows_here}
use Rattle.ring_pass.proofs.LearnsHere.{may_learn_here, room_learns, offer_learns, offer_larger}
use Rattle.ring_pass.proofs.OfferTurns.{offer_refused}
use Rattle.ring_pass.proofs.RingPorts.{rings_here}
use Rattle.ring_pass.proofs.Stays.{own_in, ring_port, name_stays}
use Rattle.ring_pass.proofs.TurnsHere.{refused_as, ring_refused, room_refused, units_refused}
use Rattle.ring_pass.proofs.pass.RingPass.learn_clause.Goals as goal

pub add_clause-added-requires-clause-may : goal.add_clause-added-requires-clause-may
add_clause-added-requires-clause-may g c = may_learn_here c.self.inside.pass.me.0 (own_in c.self.invariant.0) c.args.self.now c.args.lits.now c.self.view_is c.requires.ticket c.requires.fresh

pub add_clause-added-requires-clause-long : goal.add_clause-added-requires-clause-long
add_clause-added-requires-clause-long g c = long_here c.requires.long c.requires.clause

pub add_clause-added-requires-clause-follows : goal.add_clause-added-requires-clause-follows
add_clause-added-requires-clause-follows g c = follows_here c.self.inside.pass.me.0 (own_in c.self.invariant.0) c.args.self.now c.args.lits.now c.args.hints.now c.self.view_is c.requires.hints c.requires.rup

pub add_clause-added-requires-clause-on : goal.add_clause-added-requires-clause-on
add_clause-added-requires-clause-on g c = on_here c.self.inside.pass.me.0 (own_in c.self.invariant.0) c.args.self.now c.args.lits.now c.self.view_is c.requires.clause

pub returns-then-is_err-clause-port : goal.returns-then-is_err-clause-port
returns-then-is_err-clause-port g c = ring_port c.self.invariant.0

pub returns-then-is_err-clause-kept : goal.returns-then-is_err-clause-kept
returns-then-is_err-clause-kept g c = λ a _. ap (λ (s : PortState). held_at s a) c.self.view_is

pub returns-then-is_err-2-clause-kept : goal.returns-then-is_err-2-clause-kept
returns-then-is_err-2-clause-kept g c = λ a _. ap (λ (s : PortState). held_at s a) c.self.view_is

pub returns-then-is_err-2-clause-port : goal.returns-then-is_err-2-clause-port
returns-then-is_err-2-clause-port g c = ring_port c.self.invariant.0

pub invariant_of-self-in-Ok : goal.invariant_of-self-in-Ok
invariant_of-self-in-Ok g c =
    let v : View = c.self.inside.pass.me.0 in
    let w : View = c.add_clause-added.new.pass.me.0 in
    let e = c.add_clause-added.ensures in
    let rings = rings_here v c.self.invariant.0.pass.3 c.self.invariant.0.one in
    let table = ap (λ (l : Layout). l.rings) c.self.invariant.0.pass.2 in
    let made = on_ok c.make_spares.result _ c.is_err-2.result c.is_err-2.ensures.value c.if-is_err-2.false c.make_spares.ensures.made in
    let enough = made.1 in
    let f = c.in-Ok.ensures.added in
    let room = on_ok c.reserve.result _ c.is_err.result c.is_err.ensures.value c.if-is_err.false c.reserve.ensures.ok in
    let len = c.reserve.ensures.len in
    let items = ap length c.reserve.ensures.items in (
      ring_adds c.add_clause-added.new.pass Learn c.args.lits.now c.args.glue c.in-Ok.cell.address (Some c.in-Ok.cell) c.self.invariant.0 e.pass.0 e.pass.1 e.pass.2 f (long_here c.requires.long c.requires.clause),
      room_learns v w c.self.invariant.0.pass.3 c.args.lits.now c.args.glue c.in-Ok.cell c.self.inside.last c.self.inside.waiting.items c.reserve.new.self.items (vec_capacity c.self.inside.waiting) (vec_capacity c.reserve.new.self) f c.reserve.ensures.items (omega arith) c.self.invariant.1,
      units_adds v w Learn c.args.lits.now c.args.glue c.in-Ok.cell.address c.self.inside.seen.items (vec_capacity c.self.inside.seen) (vec_capacity c.self.inside.arrived) f c.self.invariant.2,
      offer_learns v w c.args.lits.now c.args.glue c.in-Ok.cell c.self.inside.last c.self.inside.spares c.make_spares.new.spares f made.0 (omega arith) (made.2) made.3 c.make_spares.ensures.places c.self.invariant.3,
    )

pub returns-in-Ok-clause-learned : goal.returns-in-Ok-clause-learned
returns-in-Ok-clause-learned g c =
    let e = c.add_clause-added.ensures in
    added_as (own_in c.self.invariant.0) c.args.self.now (home_of c.add_clause-added.new.pass) c.args.lits.now c.args.glue c.in-Ok.cell Learn (Some c.in-Ok.cell) c.self.view_is c.self.invariant.0.own c.requires.long c.in-Ok.ensures.added (name_stays c.add_clause-added.new.pass c.self.invariant.0 e.pass.0) refl

pub returns-in-Ok-clause-kept : goal.returns-in-Ok-clause-kept
returns-in-Ok-clause-kept g c = added_keeps (returns-in-Ok-clause-learned g c)

pub returns-in-Ok-clause-port : goal.returns-in-Ok-clause-port
returns-in-Ok-clause-port g c = ring_port (invariant_of-self-in-Ok g c).0

pub returns-in-Ok-clause-hints : goal.returns-in-Ok-clause-hints
returns-in-Ok-clause-hints g c = added_ends c.in-Ok.ensures.added (own_in c.self.invariant.0)

pub invariant_of-self-in-Err : goal.invariant_of-self-in-Err
invariant_of-self-in-Err g c =
    let v : View = c.self.inside.pass.me.0 in
    let w : View = c.add_clause-added.new.pass.me.0 in
    let e = c.add_clause-added.ensures in
    let rings = rings_here v c.self.invariant.0.pass.3 c.self.invariant.0.one in
    let table = ap (λ (l : Layout). l.rings) c.self.invariant.0.pass.2 in
    let made = on_ok c.make_spares.result _ c.is_err-2.result c.is_err-2.ensures.value c.if-is_err-2.false c.make_spares.ensures.made in
    let enough = made.1 in
    let f = c.in-Err.ensures.refused in (
      ring_refused c.add_clause-added.new.pass c.in-Err.stop _ c.refuse.new.ended c.self.invariant.0 (ap (λ (s : PortState). is_usable s.refused) c.self.view_is ∙ c.requires.usable) e.pass.0 e.pass.1 e.pass.2 f c.refuse.ensures.kept c.refuse.ensures.ended,
      room_refused v w c.in-Err.stop c.self.inside.last c.reserve.new.self.items (vec_capacity c.reserve.new.self) f
          (room_grows _ v.opening.rings c.self.inside.last c.self.inside.waiting.items c.reserve.new.self.items (vec_capacity c.self.inside.waiting) (vec_capacity c.reserve.new.self) c.self.invariant.1 c.reserve.ensures.items c.reserve.ensures.capacity),
      units_refused v w c.in-Err.stop c.self.inside.seen.items (vec_capacity c.self.inside.seen) (vec_capacity c.self.inside.arrived) f c.self.invariant.2,
      offer_refused v w c.in-Err.stop c.self.inside.last c.make_spares.new.spares f (offer_larger _ v.opening c.self.inside.last c.self.inside.spares c.make_spares.new.spares made.0 (omega arith) made.3 c.make_spares.ensures.places c.self.invariant.3),
    )

pub returns-in-Err-clause-learned : goal.returns-in-Err-clause-learned
returns-in-Err-clause-learned g c =
    let e = c.add_clause-added.ensures in
    refused_as (own_in c.self.invariant.0) c.args.self.now c.refuse.new.refused c.refuse.new.ended c.refuse.result (home_of c.add_clause-added.new.pass) c.self.view_is c.self.invariant.0 c.requires.usable c.in-Err.ensures.refused c.refuse.ensures.kept c.refuse.ensures.ended c.refuse.ensures.stop (name_stays c.add_clause-added.new.pass c.self.invariant.0 e.pass.0)

pub returns-in-Err-clause-kept : goal.returns-in-Err-clause-kept
returns-in-Err-clause-kept g c = refused_keeps (returns-in-Err-clause-learned g c)

pub returns-in-Err-clause-port : goal.returns-in-Err-clause-port
returns-in-Err-clause-port g c = ring_port (invariant_of-self-in-Err g c).0
