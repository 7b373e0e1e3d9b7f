use Rattle.std.proofs.Common.{◌∙◌, ap, refl, vec_capacity}
use Rattle.rup_model.specs.declared.journal.Kind.TheVariants.{Derive}
use Rattle.ring_port.specs.Port.{is_usable}
use Rattle.ring_port.specs.PortState.{PortState}
use Rattle.ring_pass.specs.RingState.{home_of}
use Rattle.ring_pass.proofs.DerivesHere.{may_derive_here, long_here, on_here, added_as, added_ends, added_keeps, refused_keeps, ring_adds, room_adds, units_adds, offer_adds}
use Rattle.ring_pass.proofs.EndsHere.{follows_here}
use Rattle.ring_pass.proofs.OfferTurns.{offer_refused}
use Rattle.ring_pass.proofs.Stays.{own_in, ring_port, name_stays}
use Rattle.ring_pass.proofs.TurnsHere.{refused_as, ring_refused, room_refused, units_refused}
use Rattle.ring_pass.proofs.pass.RingPass.derive.Goals as goal

pub add_clause-added-requires-clause-may : goal.add_clause-added-requires-clause-may
add_clause-added-requires-clause-may g c = may_derive_here c.self.inside.pass.me.0 (own_in c.self.invariant.0) c.args.self.now c.args.lits.now c.self.view_is c.requires.part

pub add_clause-added-requires-clause-long : goal.add_clause-added-requires-clause-long
add_clause-added-requires-clause-long g c = long_here c.requires.long c.requires.clause

pub add_clause-added-requires-clause-follows : goal.add_clause-added-requires-clause-follows
add_clause-added-requires-clause-follows g c = follows_here c.self.inside.pass.me.0 (own_in c.self.invariant.0) c.args.self.now c.args.lits.now c.args.hints.now c.self.view_is c.requires.hints c.requires.rup

pub add_clause-added-requires-clause-on : goal.add_clause-added-requires-clause-on
add_clause-added-requires-clause-on g c = on_here c.self.inside.pass.me.0 (own_in c.self.invariant.0) c.args.self.now c.args.lits.now c.self.view_is c.requires.clause

pub invariant_of-self : goal.invariant_of-self
invariant_of-self g c =
    let e = c.add_clause-added.ensures in
    let f = c.in-Ok.ensures.added in (
      ring_adds c.add_clause-added.new.pass Derive c.args.lits.now c.args.glue c.in-Ok.cell.address c.self.inside.last c.self.invariant.0 e.pass.0 e.pass.1 e.pass.2 f (long_here c.requires.long c.requires.clause),
      room_adds c.self.inside.pass.me.0 c.add_clause-added.new.pass.me.0 Derive c.args.lits.now c.args.glue c.in-Ok.cell.address c.self.inside.last c.self.inside.waiting.items (vec_capacity c.self.inside.waiting) f c.self.invariant.1,
      units_adds c.self.inside.pass.me.0 c.add_clause-added.new.pass.me.0 Derive c.args.lits.now c.args.glue c.in-Ok.cell.address c.self.inside.seen.items (vec_capacity c.self.inside.seen) (vec_capacity c.self.inside.arrived) f c.self.invariant.2,
      offer_adds c.self.inside.pass.me.0 c.add_clause-added.new.pass.me.0 Derive c.args.lits.now c.args.glue c.in-Ok.cell.address c.self.inside.last c.self.inside.spares f c.self.invariant.3,
    )

pub returns-in-Ok-clause-derived : goal.returns-in-Ok-clause-derived
returns-in-Ok-clause-derived g c =
    let e = c.add_clause-added.ensures in
    added_as (own_in c.self.invariant.0) c.args.self.now (home_of c.add_clause-added.new.pass) c.args.lits.now c.args.glue c.in-Ok.cell Derive c.self.inside.last c.self.view_is c.self.invariant.0.own c.requires.long c.in-Ok.ensures.added (name_stays c.add_clause-added.new.pass c.self.invariant.0 e.pass.0) refl

pub returns-in-Ok-clause-kept : goal.returns-in-Ok-clause-kept
returns-in-Ok-clause-kept g c = added_keeps (returns-in-Ok-clause-derived g c)

pub returns-in-Ok-clause-port : goal.returns-in-Ok-clause-port
returns-in-Ok-clause-port g c = ring_port (invariant_of-self g c).0

pub returns-in-Ok-clause-hints : goal.returns-in-Ok-clause-hints
returns-in-Ok-clause-hints g c = added_ends c.in-Ok.ensures.added (own_in c.self.invariant.0)

pub invariant_of-self-in-Err : goal.invariant_of-self-in-Err
invariant_of-self-in-Err g c =
    let e = c.add_clause-added.ensures in
    let w = c.in-Err.ensures.refused in (
      ring_refused c.add_clause-added.new.pass c.in-Err.stop _ c.refuse.new.ended c.self.invariant.0 (ap (λ (s : PortState). is_usable s.refused) c.self.view_is ∙ c.requires.usable) e.pass.0 e.pass.1 e.pass.2 w c.refuse.ensures.kept c.refuse.ensures.ended,
      room_refused c.self.inside.pass.me.0 c.add_clause-added.new.pass.me.0 c.in-Err.stop c.self.inside.last c.self.inside.waiting.items (vec_capacity c.self.inside.waiting) w c.self.invariant.1,
      units_refused c.self.inside.pass.me.0 c.add_clause-added.new.pass.me.0 c.in-Err.stop c.self.inside.seen.items (vec_capacity c.self.inside.seen) (vec_capacity c.self.inside.arrived) w c.self.invariant.2,
      offer_refused c.self.inside.pass.me.0 c.add_clause-added.new.pass.me.0 c.in-Err.stop c.self.inside.last c.self.inside.spares w c.self.invariant.3,
    )

pub returns-in-Err-clause-derived : goal.returns-in-Err-clause-derived
returns-in-Err-clause-derived g c =
    let e = c.add_clause-added.ensures in
    refused_as (own_in c.self.invariant.0) c.args.self.now c.refuse.new.refused c.refuse.new.ended c.refuse.result (home_of c.add_clause-added.new.pass) c.self.view_is c.self.invariant.0 c.requires.usable c.in-Err.ensures.refused c.refuse.ensures.kept c.refuse.ensures.ended c.refuse.ensures.stop (name_stays c.add_clause-added.new.pass c.self.invariant.0 e.pass.0)

pub returns-in-Err-clause-kept : goal.returns-in-Err-clause-kept
returns-in-Err-clause-kept g c = refused_keeps (returns-in-Err-clause-derived g c)

pub returns-in-Err-clause-port : goal.returns-in-Err-clause-port
returns-in-Err-clause-port g c = ring_port (invariant_of-self-in-Err g c).0
