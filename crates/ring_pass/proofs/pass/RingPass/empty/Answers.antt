use Rattle.std.proofs.Common.{◌∙◌, ap, [], subst, vec_capacity}
use Rattle.std.specs.Prelude.{OnOk, IfErr}
use Rattle.share_rule.specs.declared.note.Note.TheVariants.{Empty}
use Rattle.ring_port.specs.Port.{is_usable}
use Rattle.ring_port.specs.PortState.{PortState}
use Rattle.ring_pass.specs.Writes.{Wrote, WroteNone}
use Rattle.ring_pass.specs.RingState.{home_of}
use Rattle.ring_pass.proofs.OfferTurns.{offer_ended, offer_refused}
use Rattle.ring_pass.proofs.Stays.{own_in, ring_port, name_stays}
use Rattle.ring_pass.proofs.EndsHere.{follows_here, ended_as, ended_ends, ring_ended, room_ended, units_ended}
use Rattle.ring_pass.proofs.TurnsHere.{refused_as, ring_refused, room_refused, units_refused}
use Rattle.ring_pass.proofs.pass.RingPass.empty.Goals as goal

pub write_empty-written-requires-clause-follows : goal.write_empty-written-requires-clause-follows
write_empty-written-requires-clause-follows g c = follows_here c.self.inside.pass.me.0 (own_in c.self.invariant.0) c.args.self.now [] c.args.hints.now c.self.view_is c.requires.hints c.requires.rup

pub invariant_of-self : goal.invariant_of-self
invariant_of-self g c =
    let e = c.write_empty-written.ensures in
    let w = subst (λ r. OnOk r (Wrote c.self.inside.pass.me.0 c.write_empty-written.new.pass.me.0 (Empty c.args.hints.now))) c.in-Ok.is e.wrote in (
      ring_ended c.write_empty-written.new.pass c.self.invariant.0 e.pass.0 e.pass.1 e.pass.2 w,
      room_ended c.self.inside.pass.me.0 c.write_empty-written.new.pass.me.0 c.self.inside.last c.self.inside.waiting.items (vec_capacity c.self.inside.waiting) w c.self.invariant.1,
      units_ended c.self.inside.pass.me.0 c.write_empty-written.new.pass.me.0 c.self.inside.seen.items (vec_capacity c.self.inside.seen) (vec_capacity c.self.inside.arrived) w c.self.invariant.2,
      offer_ended c.self.inside.pass.me.0 c.write_empty-written.new.pass.me.0 c.self.inside.last c.self.inside.spares w c.self.invariant.3,
    )

pub returns-in-Ok-clause-written : goal.returns-in-Ok-clause-written
returns-in-Ok-clause-written g c =
    let e = c.write_empty-written.ensures in
    let w = subst (λ r. OnOk r (Wrote c.self.inside.pass.me.0 c.write_empty-written.new.pass.me.0 (Empty c.args.hints.now))) c.in-Ok.is e.wrote in
    ended_as (own_in c.self.invariant.0) c.args.self.now (home_of c.write_empty-written.new.pass) c.self.view_is c.self.invariant.0.own w (name_stays c.write_empty-written.new.pass c.self.invariant.0 e.pass.0)

pub returns-in-Ok-clause-port : goal.returns-in-Ok-clause-port
returns-in-Ok-clause-port g c = ring_port (invariant_of-self g c).0

pub returns-in-Ok-clause-hints : goal.returns-in-Ok-clause-hints
returns-in-Ok-clause-hints g c =
    let w = subst (λ r. OnOk r (Wrote c.self.inside.pass.me.0 c.write_empty-written.new.pass.me.0 (Empty c.args.hints.now))) c.in-Ok.is c.write_empty-written.ensures.wrote in
    ended_ends w (own_in c.self.invariant.0)

pub invariant_of-self-in-Err : goal.invariant_of-self-in-Err
invariant_of-self-in-Err g c =
    let e = c.write_empty-written.ensures in
    let w = subst (λ r. IfErr r (WroteNone c.self.inside.pass.me.0 c.write_empty-written.new.pass.me.0)) c.in-Err.is e.refused in (
      ring_refused c.write_empty-written.new.pass c.in-Err.stop _ c.refuse.new.ended c.self.invariant.0 (ap (λ (s : PortState). is_usable s.refused) c.self.view_is ∙ c.requires.usable) e.pass.0 e.pass.1 e.pass.2 w c.refuse.ensures.kept c.refuse.ensures.ended,
      room_refused c.self.inside.pass.me.0 c.write_empty-written.new.pass.me.0 c.in-Err.stop c.self.inside.last c.self.inside.waiting.items (vec_capacity c.self.inside.waiting) w c.self.invariant.1,
      units_refused c.self.inside.pass.me.0 c.write_empty-written.new.pass.me.0 c.in-Err.stop c.self.inside.seen.items (vec_capacity c.self.inside.seen) (vec_capacity c.self.inside.arrived) w c.self.invariant.2,
      offer_refused c.self.inside.pass.me.0 c.write_empty-written.new.pass.me.0 c.in-Err.stop c.self.inside.last c.self.inside.spares w c.self.invariant.3,
    )

pub returns-in-Err-clause-written : goal.returns-in-Err-clause-written
returns-in-Err-clause-written g c =
    let e = c.write_empty-written.ensures in
    let w = subst (λ r. IfErr r (WroteNone c.self.inside.pass.me.0 c.write_empty-written.new.pass.me.0)) c.in-Err.is e.refused in
    refused_as (own_in c.self.invariant.0) c.args.self.now c.refuse.new.refused c.refuse.new.ended c.refuse.result (home_of c.write_empty-written.new.pass) c.self.view_is c.self.invariant.0 c.requires.usable w c.refuse.ensures.kept c.refuse.ensures.ended c.refuse.ensures.stop (name_stays c.write_empty-written.new.pass c.self.invariant.0 e.pass.0)

pub returns-in-Err-clause-port : goal.returns-in-Err-clause-port
returns-in-Err-clause-port g c = ring_port (invariant_of-self-in-Err g c).0
