use Rattle.std.proofs.Common.{◌∙◌, ◌+◌, ◌≤◌, ℕ, List, [], ◌∷◌, sym, ap, subst, refl, arith, length, length-append, vec_capacity}
use Rattle.share_core.specs.declared.stored.ClauseAt.{ClauseAt}
use Rattle.share_rule.specs.declared.view.View.{View}
use Rattle.share_rule.specs.Views.{only, clause_of}
use Rattle.ring_pass.specs.RingState.{AreShort}
use Rattle.ring_pass.specs.Offering.{others, PutFor}
use Rattle.ring_pass.proofs.OffersSeen.{for_none, for_both, for_shared, for_gave, for_clause, back_fewer}
use Rattle.ring_pass.proofs.OtherRings.{next_own, next_other, others_few, others_grow, others_next}
use Rattle.ring_pass.proofs.offers.put_for_all.Goals as goal

pub loop-to-init : goal.loop-to-init
loop-to-init g c = record {
  pass = c.requires.pass;
  same = (refl, refl);
  put = for_none c.args.pass.now.me.0 c.args.offering.now.class c.args.offering.now.place c.args.offering.now.cell.address c.requires.ring.0;
  many = refl;
  room = λ n can. back_fewer (only c.args.pass.now.me.0) c.args.waiting.now.items (vec_capacity c.args.waiting.now) (n + 0) n c.args.spares.now (omega arith) can;
  longest = (refl, refl);
}

pub loop-to-preserved-then-to-offering : goal.loop-to-preserved-then-to-offering
loop-to-preserved-then-to-offering g c =
    let inv = c.loop-to.invariant in
    let same = sym (next_own c.args.offering.now.ring c.loop-to.to c.if-to-offering.true) in
    record {
      pass = inv.pass;
      same = inv.same;
      put = subst (PutFor c.args.pass.now.me.0 c.loop-to.pass.me.0 c.args.offering.now.class c.args.offering.now.place c.args.offering.now.cell.address) same inv.put;
      many = inv.many ∙ ap length same;
      room = λ n can. inv.room n (back_fewer (only c.args.pass.now.me.0) c.args.waiting.now.items (vec_capacity c.args.waiting.now) _ (n + length (others c.args.offering.now.ring c.loop-to.to)) c.args.spares.now (let e = ap length same in omega arith) can);
      longest = inv.longest;
    }

pub overflow_add-puts : goal.overflow_add-puts
overflow_add-puts g c = let m = c.loop-to.invariant.many in let f = others_few c.args.offering.now.ring c.loop-to.to in let lt = c.loop-to-test.true in omega arith

pub loop-to-preserved : goal.loop-to-preserved
loop-to-preserved g c =
    let inv = c.loop-to.invariant in
    let e = c.put_for.ensures in
    let to : ℕ = c.loop-to.to in
    let more = sym (next_other c.args.offering.now.ring to c.if-to-offering.false) in
    let long = ap length more in
    let many = inv.many in
    record {
      pass = e.pass.0;
      same = (e.pass.1.0 ∙ inv.same.0, e.pass.1.1 ∙ inv.same.1);
      put = subst (PutFor c.args.pass.now.me.0 c.put_for.new.pass.me.0 c.args.offering.now.class c.args.offering.now.place c.args.offering.now.cell.address) more
          (for_both c.args.pass.now.me.0 c.loop-to.pass.me.0 c.put_for.new.pass.me.0 c.args.offering.now.class c.args.offering.now.place c.args.offering.now.cell.address (others c.args.offering.now.ring to) (to ∷ []) c.requires.held.1 inv.put e.put);
      many = (let sum = length-append (others c.args.offering.now.ring to) (to ∷ []) in omega arith);
      room = λ n can. e.room n (inv.room (n + 1) (back_fewer (only c.args.pass.now.me.0) c.args.waiting.now.items (vec_capacity c.args.waiting.now) _ ((n + 1) + length (others c.args.offering.now.ring to)) c.args.spares.now (let sum = length-append (others c.args.offering.now.ring to) (to ∷ []) in omega arith) can));
      longest = (e.longest.0 ∙ inv.longest.0, e.longest.1 ∙ inv.longest.1);
    }

pub returns-clause-room : goal.returns-clause-room
returns-clause-room g c =
    let grow = others_grow c.args.offering.now.ring c.loop-to.to c.args.table.now.layout.rings c.loop-to.auto.to-end in
    c.loop-to.invariant.room 0 (back_fewer (only c.args.pass.now.me.0) c.args.waiting.now.items (vec_capacity c.args.waiting.now) (length (others c.args.offering.now.ring c.args.table.now.layout.rings)) (0 + length (others c.args.offering.now.ring c.loop-to.to)) c.args.spares.now (omega arith) c.requires.room)

pub put_for-requires-clause-shares : goal.put_for-requires-clause-shares
put_for-requires-clause-shares g c =
    let v : View = c.args.pass.now.me.0 in
    let u : View = c.loop-to.pass.me.0 in
    let to : ℕ = c.loop-to.to in
    let ring : ℕ = c.args.offering.now.ring in
    let now = for_shared v u c.args.offering.now.class c.args.offering.now.place c.args.offering.now.cell.address (others ring to) c.loop-to.invariant.put in
    let less = others_next ring to c.args.table.now.layout.rings c.if-to-offering.false c.loop-to-test.true in
    let few = c.requires.shares in
    omega arith

pub put_for-requires-clause-short : goal.put_for-requires-clause-short
put_for-requires-clause-short g c =
    let v : View = c.args.pass.now.me.0 in
    let u : View = c.loop-to.pass.me.0 in
    let class : ℕ = c.args.offering.now.class in
    let place : ℕ = c.args.offering.now.place in
    let a : ℕ = c.args.offering.now.cell.address in
    let tos : List ℕ = others c.args.offering.now.ring c.loop-to.to in
    let put = c.loop-to.invariant.put in
    subst (λ (n : ℕ). AreShort n (only u).gave × (length (clause_of a u).lits ≤ n)) (sym c.loop-to.invariant.longest.0) (
      for_gave v u class place a c.args.spares.now.longest tos put c.requires.short.1 c.requires.short.0,
      subst (λ (h : ClauseAt). length h.lits ≤ c.args.spares.now.longest) (sym (for_clause v u class place a tos put c.requires.held)) c.requires.short.1,
    )

pub put_for-requires-clause-room : goal.put_for-requires-clause-room
put_for-requires-clause-room g c =
    let less = others_next c.args.offering.now.ring c.loop-to.to c.args.table.now.layout.rings c.if-to-offering.false c.loop-to-test.true in
    c.loop-to.invariant.room 1 (back_fewer (only c.args.pass.now.me.0) c.args.waiting.now.items (vec_capacity c.args.waiting.now) (length (others c.args.offering.now.ring c.args.table.now.layout.rings)) (1 + length (others c.args.offering.now.ring c.loop-to.to)) c.args.spares.now (omega arith) c.requires.room)
