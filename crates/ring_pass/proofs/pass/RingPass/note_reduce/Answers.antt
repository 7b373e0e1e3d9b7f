use Rattle.std.proofs.Common.{◌∙◌, ap, subst, sym, vec_capacity}
use Rattle.std.specs.Prelude.{OnOk, IfErr}
use Rattle.ring_port.specs.PortState.{PortState}
use Rattle.ring_port.specs.Reducing.{MayReduce}
use Rattle.share_rule.specs.declared.note.Note.TheVariants.{Reduce}
use Rattle.ring_port.specs.Port.{is_usable}
use Rattle.ring_pass.specs.Writes.{Wrote, WroteNone}
use Rattle.ring_pass.specs.RingState.{home_of}
use Rattle.ring_pass.proofs.OfferTurns.{offer_reduced, offer_refused}
use Rattle.ring_pass.proofs.Stays.{own_in, ring_port, name_stays}
use Rattle.ring_pass.proofs.TurnsHere.{reduced_as, ring_reduced, room_reduced, units_reduced, refused_as, ring_refused, room_refused, units_refused}
use Rattle.ring_pass.proofs.pass.RingPass.note_reduce.Goals as goal

pub write_reduction-noted-requires-clause-spaced : goal.write_reduction-noted-requires-clause-spaced
write_reduction-noted-requires-clause-spaced g c = subst (λ (s : PortState). MayReduce s) (sym c.self.view_is) c.requires.spaced

pub invariant_of-self : goal.invariant_of-self
invariant_of-self g c =
    let e = c.write_reduction-noted.ensures in
    let w = subst (λ r. OnOk r (Wrote c.self.inside.pass.me.0 c.write_reduction-noted.new.pass.me.0 Reduce)) c.in-Ok.is e.wrote in (
      ring_reduced c.write_reduction-noted.new.pass c.clear.new.self.items c.self.invariant.0 e.pass.0 e.pass.1 e.pass.2 w c.clear.ensures.items,
      room_reduced c.self.inside.pass.me.0 c.write_reduction-noted.new.pass.me.0 c.self.inside.last c.self.inside.waiting.items (vec_capacity c.self.inside.waiting) w c.self.invariant.1,
      units_reduced c.self.inside.pass.me.0 c.write_reduction-noted.new.pass.me.0 c.self.inside.seen.items (vec_capacity c.self.inside.seen) (vec_capacity c.self.inside.arrived) w c.self.invariant.2,
      offer_reduced c.self.inside.pass.me.0 c.write_reduction-noted.new.pass.me.0 c.self.inside.last c.self.inside.spares w c.self.invariant.3,
    )

pub returns-in-Ok-clause-noted : goal.returns-in-Ok-clause-noted
returns-in-Ok-clause-noted g c =
    let e = c.write_reduction-noted.ensures in
    let w = subst (λ r. OnOk r (Wrote c.self.inside.pass.me.0 c.write_reduction-noted.new.pass.me.0 Reduce)) c.in-Ok.is e.wrote in
    reduced_as (own_in c.self.invariant.0) c.args.self.now c.clear.new.self.items (home_of c.write_reduction-noted.new.pass) c.self.view_is c.self.invariant.0.own w c.clear.ensures.items (name_stays c.write_reduction-noted.new.pass c.self.invariant.0 e.pass.0)

pub returns-in-Ok-clause-port : goal.returns-in-Ok-clause-port
returns-in-Ok-clause-port g c = ring_port (invariant_of-self g c).0

pub invariant_of-self-in-Err : goal.invariant_of-self-in-Err
invariant_of-self-in-Err g c =
    let e = c.write_reduction-noted.ensures in
    let w = subst (λ r. IfErr r (WroteNone c.self.inside.pass.me.0 c.write_reduction-noted.new.pass.me.0)) c.in-Err.is e.refused in (
      ring_refused c.write_reduction-noted.new.pass c.in-Err.stop _ c.refuse.new.ended c.self.invariant.0 (ap (λ (s : PortState). is_usable s.refused) c.self.view_is ∙ c.requires.usable) e.pass.0 e.pass.1 e.pass.2 w c.refuse.ensures.kept c.refuse.ensures.ended,
      room_refused c.self.inside.pass.me.0 c.write_reduction-noted.new.pass.me.0 c.in-Err.stop c.self.inside.last c.self.inside.waiting.items (vec_capacity c.self.inside.waiting) w c.self.invariant.1,
      units_refused c.self.inside.pass.me.0 c.write_reduction-noted.new.pass.me.0 c.in-Err.stop c.self.inside.seen.items (vec_capacity c.self.inside.seen) (vec_capacity c.self.inside.arrived) w c.self.invariant.2,
      offer_refused c.self.inside.pass.me.0 c.write_reduction-noted.new.pass.me.0 c.in-Err.stop c.self.inside.last c.self.inside.spares w c.self.invariant.3,
    )

pub returns-in-Err-clause-noted : goal.returns-in-Err-clause-noted
returns-in-Err-clause-noted g c =
    let e = c.write_reduction-noted.ensures in
    let w = subst (λ r. IfErr r (WroteNone c.self.inside.pass.me.0 c.write_reduction-noted.new.pass.me.0)) c.in-Err.is e.refused in
    refused_as (own_in c.self.invariant.0) c.args.self.now c.refuse.new.refused c.refuse.new.ended c.refuse.result (home_of c.write_reduction-noted.new.pass) c.self.view_is c.self.invariant.0 c.requires.usable w c.refuse.ensures.kept c.refuse.ensures.ended c.refuse.ensures.stop (name_stays c.write_reduction-noted.new.pass c.self.invariant.0 e.pass.0)

pub returns-in-Err-clause-port : goal.returns-in-Err-clause-port
returns-in-Err-clause-port g c = ring_port (invariant_of-self-in-Err g c).0
