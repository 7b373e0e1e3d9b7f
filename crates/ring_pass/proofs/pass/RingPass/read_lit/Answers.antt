use Rattle.std.proofs.Common.{◌∙◌, ◌+◌, ◌/◌, ◌<◌, ℕ, List, ap, sym, subst, length, Some, vec_capacity}
use Rattle.std.specs.Prelude.{slice_get}
use Rattle.sat_words.specs.Literal.{Literal}
use Rattle.share_rule.specs.Views.{clause_of}
use Rattle.ring_pass.proofs.CanOffers.{offer_stays}
use Rattle.ring_pass.proofs.RingPorts.{lit_here}
use Rattle.ring_pass.proofs.Stays.{own_in, loaded, ring_stays, port_stays, room_stays, units_stay, ring_port, ring_holds, lits_found}
use Rattle.ring_pass.proofs.pass.RingPass.read_lit.Goals as goal

pub read_lit-requires-clause-held : goal.read_lit-requires-clause-held
read_lit-requires-clause-held g c = ring_holds c.args.self.now c.args.c.address c.self.invariant.0 c.self.view_is c.requires.held

pub read_lit-requires-clause-place : goal.read_lit-requires-clause-place
read_lit-requires-clause-place g c = subst (λ (n : ℕ). c.args.i < n) (ap length (lits_found c.self.inside.pass.me.0 (own_in c.self.invariant.0) c.args.self.now c.args.c.address c.self.view_is c.requires.held)) c.requires.inside

pub invariant_of-self : goal.invariant_of-self
invariant_of-self g c =
    let e = c.read_lit.ensures in
    let looked = loaded c.self.inside.pass.me.0 c.read_lit.new.pass.me.0 (c.args.c.address + 3 + c.args.i / 2) e.part.0 e.part.1 in (
      ring_stays c.read_lit.new.pass c.self.invariant.0 e.pass.0 e.pass.1 looked,
      room_stays c.self.inside.pass.me.0 c.read_lit.new.pass.me.0 c.self.inside.last c.self.inside.waiting.items (vec_capacity c.self.inside.waiting) looked c.self.invariant.1,
      units_stay c.self.inside.pass.me.0 c.read_lit.new.pass.me.0 c.self.inside.seen.items (vec_capacity c.self.inside.seen) (vec_capacity c.self.inside.arrived) looked c.self.invariant.2,
      offer_stays c.self.inside.pass.me.0 c.read_lit.new.pass.me.0 c.self.inside.last c.self.inside.spares looked c.self.invariant.3,
    )

pub returns-clause-value : goal.returns-clause-value
returns-clause-value g c =
    let same = lits_found c.self.inside.pass.me.0 (own_in c.self.invariant.0) c.args.self.now c.args.c.address c.self.view_is c.requires.held in
    ap (λ (ls : List Literal). slice_get ls c.args.i) same
    ∙ lit_here (clause_of c.args.c.address c.self.inside.pass.me.0).lits c.args.i (subst (λ (ls : List Literal). c.args.i < length ls) same c.requires.inside) ∙ ap (λ (l : Literal). Some l) (sym c.read_lit.ensures.literal)

pub returns-clause-same : goal.returns-clause-same
returns-clause-same g c =
    let e = c.read_lit.ensures in
    port_stays c.read_lit.new.pass c.self.invariant.0 e.pass.0 (loaded c.self.inside.pass.me.0 c.read_lit.new.pass.me.0 (c.args.c.address + 3 + c.args.i / 2) e.part.0 e.part.1) ∙ c.self.view_is

pub returns-clause-port : goal.returns-clause-port
returns-clause-port g c =
    let e = c.read_lit.ensures in
    ring_port (ring_stays c.read_lit.new.pass c.self.invariant.0 e.pass.0 e.pass.1 (loaded c.self.inside.pass.me.0 c.read_lit.new.pass.me.0 (c.args.c.address + 3 + c.args.i / 2) e.part.0 e.part.1))
