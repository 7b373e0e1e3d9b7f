use Rattle.std.proofs.Common.{◌+◌, ◌≤◌, ℕ, Option, sym, subst, length, vec_capacity}
use Rattle.sat_words.specs.declared.shared.Cref.{Cref}
use Rattle.pool_exchange.specs.Found.{IsFound}
use Rattle.share_rule.specs.Views.{only, clause_of}
use Rattle.ring_pass.specs.Offering.{GaveBack}
use Rattle.ring_pass.proofs.OffersSeen.{share_holds, put_waiting, nothing_back, given_back, short_back, back_same}
use Rattle.ring_pass.proofs.offers.put_for.Goals as goal

pub returns-in-None-clause-put : goal.returns-in-None-clause-put
returns-in-None-clause-put g c =
    let s = c.share.ensures in
    let p = c.put-back.ensures in
    nothing_back c.args.pass.now.me.0 c.share.new.pass.me.0 c.put-back.new.pass.me.0 c.requires.pass.3 p.pass.0.3 c.args.to c.args.offering.now.class c.args.offering.now.place c.args.offering.now.cell.address s.part.0 p.part.0 p.part.1 c.requires.held.0 c.requires.held.1 s.part.1 p.part.2 p.part.4
    (subst (λ (r : Option Cref). IsFound p.part.0.address r) c.in-None.is p.part.3)

pub put-back-requires-clause-held : goal.put-back-requires-clause-held
put-back-requires-clause-held g c = let s = c.share.ensures in share_holds c.args.pass.now.me.0 c.share.new.pass.me.0 c.args.offering.now.cell.address s.part.0 s.part.1 c.requires.held

pub give_back-requires-clause-short : goal.give_back-requires-clause-short
give_back-requires-clause-short g c =
    let s = c.share.ensures in
    let p = c.put-back.ensures in
    let f = subst (λ (r : Option Cref). IsFound p.part.0.address r) c.in-Some.is p.part.3 in
    subst (λ (b : ℕ). length (clause_of b c.put-back.new.pass.me.0).lits ≤ c.args.spares.now.longest) (sym f.1)
    (short_back c.args.pass.now.me.0 c.share.new.pass.me.0 c.put-back.new.pass.me.0 c.requires.pass.3 p.pass.0.3 c.args.to c.args.offering.now.class c.args.offering.now.place c.args.offering.now.cell.address s.part.0 p.part.0 p.part.1 c.requires.held.0 c.requires.held.1 s.part.1 p.part.2 p.part.4
    c.args.spares.now.longest f.0 c.requires.short.0 (p.part.5 f.0))

pub returns-in-Some-clause-put : goal.returns-in-Some-clause-put
returns-in-Some-clause-put g c =
    let s = c.share.ensures in
    let p = c.put-back.ensures in
    let f = subst (λ (r : Option Cref). IsFound p.part.0.address r) c.in-Some.is p.part.3 in
    let b = c.give_back.ensures.given in
    given_back c.args.pass.now.me.0 c.share.new.pass.me.0 c.put-back.new.pass.me.0 c.requires.pass.3 p.pass.0.3 c.args.to c.args.offering.now.class c.args.offering.now.place c.args.offering.now.cell.address s.part.0 p.part.0 p.part.1 c.requires.held.0 c.requires.held.1 s.part.1 p.part.2 p.part.4
    c.give_back.new.pass.me.0 b.0 f.0 (subst (λ (a : ℕ). GaveBack c.put-back.new.pass.me.0 c.give_back.new.pass.me.0 a b.0) f.1 b.1)

pub returns-in-Some-clause-room : goal.returns-in-Some-clause-room
returns-in-Some-clause-room g c n can =
    let s = c.share.ensures in
    let p = c.put-back.ensures in
    let same = put_waiting c.args.pass.now.me.0 c.share.new.pass.me.0 c.put-back.new.pass.me.0 c.requires.pass.3 p.pass.0.3 c.args.to c.args.offering.now.class c.args.offering.now.place c.args.offering.now.cell.address s.part.0 p.part.0 p.part.1 c.requires.held.0 c.requires.held.1 s.part.1 p.part.2 p.part.4 in
    c.give_back.ensures.room n (back_same (only c.args.pass.now.me.0) (only c.put-back.new.pass.me.0) c.args.waiting.now.items (vec_capacity c.args.waiting.now) (n + 1) c.args.spares.now same can)
