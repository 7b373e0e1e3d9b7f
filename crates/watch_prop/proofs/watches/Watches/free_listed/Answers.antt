use Rattle.std.proofs.Common.{◌≡◌, ◌∙◌, ℕ, Some, sym, subst, inl, inr, arith}
use Rattle.std.specs.List.{slice_get}
use Rattle.sat_words.specs.Literal.{Literal}
use Rattle.ring_port.specs.PortState.{PortState, lits_at}
use Rattle.watch_prop.specs.Detaching.{IsGoneFrom}
use Rattle.watch_prop.proofs.ListsLemmas.{cases_eq}
use Rattle.watch_prop.proofs.Entries.{held_attachable, on_vars}
use Rattle.watch_prop.proofs.Ranks.{has_at, at_has, same_there}
use Rattle.watch_prop.proofs.Detaching.{Freed-trans, gone-later, gone-earlier}
use Rattle.watch_prop.proofs.watches.Watches.free_listed.Goals as goal

value : (s r : PortState) (a i : ℕ) (l : Literal) → s ≡ r → slice_get (lits_at s a) i ≡ Some l → slice_get (lits_at r a) i ≡ Some l
value s r a i l e q = subst (λ (f : PortState). slice_get (lits_at f a) i ≡ Some l) e q

pub free_at-requires : goal.free_at-requires
free_at-requires g c =
    let s = g.P.Port.state c.args.port.now in
    let w = c.args.self.now in
    let lits = lits_at s c.args.c.address in
    let at = value (g.P.Port.state c.loop-i.port) s c.args.c.address c.loop-i.i c.read_lit-lit.result c.loop-i.invariant.same c.read_lit-lit.ensures.value in
    record { in_range = on_vars w.vars c.loop-i.self.vars lits c.read_lit-lit.result c.loop-i.invariant.freed.thinned.vars (held_attachable s c.args.c.address w.vars c.vars-vars.ensures.port c.requires.held c.requires.vars) (has_at lits c.loop-i.i c.read_lit-lit.result at) }

pub loop-i-preserved : goal.loop-i-preserved
loop-i-preserved g c =
    let s = g.P.Port.state c.args.port.now in
    let a = c.args.c.address in
    let w = c.args.self.now in
    let u = c.loop-i.self in
    let v = c.free_at.new.self in
    let i = c.loop-i.invariant in
    let lits = lits_at s a in
    let at = value (g.P.Port.state c.loop-i.port) s a c.loop-i.i c.read_lit-lit.result i.same c.read_lit-lit.ensures.value in
    record {
      same = c.read_lit-lit.ensures.same ∙ i.same;
      size = i.size;
      freed = Freed-trans w u v a i.freed c.free_at.ensures.freed;
      gone = λ p k lt e. elim (cases_eq p c.loop-i.i) as (λ _. IsGoneFrom w v a k) [
        | inl q ↦ subst (λ (m : Literal). IsGoneFrom w v a m) (sym (same_there lits p c.loop-i.i k c.read_lit-lit.result q e at)) (gone-earlier w u v a c.read_lit-lit.result i.freed c.free_at.ensures.freed c.free_at.ensures.gone)
        | inr ne ↦ gone-later w u v a k (i.gone p k (omega arith) e) c.free_at.ensures.freed
      ];
    }

pub returns-clause-gone : goal.returns-clause-gone
returns-clause-gone g c l there =
    let lits = lits_at (g.P.Port.state c.args.port.now) c.args.c.address in
    let m = at_has lits l there in
    let q = c.loop-i-test.false in
    c.loop-i.invariant.gone m.0 l (omega (arith, m.1, q, c.loop-i.invariant.size)) m.2
