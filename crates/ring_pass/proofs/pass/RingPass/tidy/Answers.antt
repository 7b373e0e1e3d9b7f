use Rattle.std.proofs.Common.{◌∙◌, ap, length, refl, sym, vec_capacity}
use Rattle.ring_port.specs.Port.{is_usable}
use Rattle.ring_port.specs.PortState.{PortState}
use Rattle.ring_pass.specs.RingState.{home_of}
use Rattle.ring_pass.proofs.OfferTurns.{offer_deleted, offer_some}
use Rattle.ring_pass.proofs.Stays.{own_in, ring_port, name_stays}
use Rattle.ring_pass.proofs.DeletesHere.{are_length, none_left, ring_deleted, room_deleted, units_deleted, tidied_all, tidied_some, ring_some, room_some, units_some}
use Rattle.ring_pass.proofs.pass.RingPass.tidy.Goals as goal

pub invariant_of-self : goal.invariant_of-self
invariant_of-self g c =
    let e = c.delete_all-deleted.ensures in
    let d = c.in-Ok.ensures.deleted in (
      ring_deleted c.delete_all-deleted.new.pass (length c.self.inside.waiting.items) c.self.invariant.0 e.pass.0 e.pass.1 e.pass.2 d,
      room_deleted c.self.inside.pass.me.0 c.delete_all-deleted.new.pass.me.0 (length c.self.inside.waiting.items) c.self.inside.last c.self.inside.waiting.items c.clear.new.self.items (vec_capacity c.self.inside.waiting) (vec_capacity c.clear.new.self) d
          (c.clear.ensures.items ∙ sym (none_left c.self.inside.waiting.items (length c.self.inside.waiting.items) refl)) c.clear.ensures.capacity c.self.invariant.1,
      units_deleted c.self.inside.pass.me.0 c.delete_all-deleted.new.pass.me.0 (length c.self.inside.waiting.items) c.self.inside.seen.items (vec_capacity c.self.inside.seen) (vec_capacity c.self.inside.arrived) d c.self.invariant.2,
      offer_deleted c.self.inside.pass.me.0 c.delete_all-deleted.new.pass.me.0 (length c.self.inside.waiting.items) c.self.inside.last c.self.inside.spares d c.self.invariant.3,
    )

pub returns-in-Ok-clause-tidied : goal.returns-in-Ok-clause-tidied
returns-in-Ok-clause-tidied g c =
    let e = c.delete_all-deleted.ensures in
    tidied_all (own_in c.self.invariant.0) c.args.self.now (home_of c.delete_all-deleted.new.pass) c.self.view_is c.self.invariant.0.own c.in-Ok.ensures.deleted (are_length c.self.inside.waiting.items _ c.self.invariant.1.waits) (name_stays c.delete_all-deleted.new.pass c.self.invariant.0 e.pass.0)

pub returns-in-Ok-clause-port : goal.returns-in-Ok-clause-port
returns-in-Ok-clause-port g c = ring_port (invariant_of-self g c).0

pub invariant_of-self-in-Err : goal.invariant_of-self-in-Err
invariant_of-self-in-Err g c =
    let e = c.delete_all-deleted.ensures in
    let d = c.in-Err.ensures.refused in (
      ring_some c.delete_all-deleted.new.pass (length c.self.inside.waiting.items) c.in-Err.count c.in-Err.stop c.refuse.new.refused c.refuse.new.ended c.self.invariant.0 (ap (λ (s : PortState). is_usable s.refused) c.self.view_is ∙ c.requires.usable) e.pass.0 e.pass.1 e.pass.2 d c.refuse.ensures.kept c.refuse.ensures.ended,
      room_some c.self.inside.pass.me.0 c.delete_all-deleted.new.pass.me.0 (length c.self.inside.waiting.items) c.in-Err.count c.in-Err.stop c.self.inside.last c.self.inside.waiting.items c.drop.new.self.0.items (vec_capacity c.self.inside.waiting) (vec_capacity c.drop.new.self.0) d
          (c.drop.ensures.items ∙ c.drain.ensures.kept) (c.drop.ensures.capacity ∙ c.drain.ensures.capacity) c.self.invariant.1,
      units_some c.self.inside.pass.me.0 c.delete_all-deleted.new.pass.me.0 (length c.self.inside.waiting.items) c.in-Err.count c.in-Err.stop c.self.inside.seen.items (vec_capacity c.self.inside.seen) (vec_capacity c.self.inside.arrived) d c.self.invariant.2,
      offer_some c.self.inside.pass.me.0 c.delete_all-deleted.new.pass.me.0 (length c.self.inside.waiting.items) c.in-Err.count c.in-Err.stop c.self.inside.last c.self.inside.spares d c.self.invariant.3,
    )

pub returns-in-Err-clause-tidied : goal.returns-in-Err-clause-tidied
returns-in-Err-clause-tidied g c =
    let e = c.delete_all-deleted.ensures in
    tidied_some (own_in c.self.invariant.0) c.args.self.now c.refuse.new.refused c.refuse.new.ended c.refuse.result (home_of c.delete_all-deleted.new.pass) c.self.view_is c.self.invariant.0 c.requires.usable c.in-Err.ensures.refused (are_length c.self.inside.waiting.items _ c.self.invariant.1.waits) c.refuse.ensures.kept c.refuse.ensures.ended c.refuse.ensures.stop
    (name_stays c.delete_all-deleted.new.pass c.self.invariant.0 e.pass.0)

pub returns-in-Err-clause-port : goal.returns-in-Err-clause-port
returns-in-Err-clause-port g c = ring_port (invariant_of-self-in-Err g c).0
