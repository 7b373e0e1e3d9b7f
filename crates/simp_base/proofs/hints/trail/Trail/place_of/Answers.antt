use Rattle.std.proofs.Common.{◌≡◌, ◌∙◌, ◌-◌, ◌<◌, ◌≤◌, ℕ, ap, subst, sym, arith, get_or, length}
use Rattle.sat_words.specs.Literal.{code_of}
use Rattle.simp_base.specs.Hinting.{TrailData, lit_at}
use Rattle.simp_base.proofs.TrailTables.{found_place, no_place, beyond_places}
use Rattle.simp_base.proofs.hints.trail.Trail.place_of.Goals as goal

pub returns-then-place-eq0-clause-none : goal.returns-then-place-eq0-clause-none
returns-then-place-eq0-clause-none c =
    let i = c.self.inside in
    let e : get_or i.places.items (code_of c.args.lit) 0 ≡ 0 = sym (c.in-Some.ensures.lookup.3.1 0 ∙ ap (λ xs. get_or xs c.code.result 0) c.deref.ensures.value ∙ ap (λ n. get_or i.places.items n 0) c.code.ensures) ∙ c.if-place-eq0.true in
    subst (λ (t : TrailData). (p : ℕ) → p < length t.steps → lit_at t.steps p ≡ c.args.lit → ⊥) c.self.view_is
    (no_place i.steps.items i.places.items c.self.invariant c.args.lit e)

pub returns-else-place-eq0-clause-some : goal.returns-else-place-eq0-clause-some
returns-else-place-eq0-clause-some c =
    let i = c.self.inside in
    let e : get_or i.places.items (code_of c.args.lit) 0 ≡ c.in-Some.place.now = sym (c.in-Some.ensures.lookup.3.1 0 ∙ ap (λ xs. get_or xs c.code.result 0) c.deref.ensures.value ∙ ap (λ n. get_or i.places.items n 0) c.code.ensures) in
    subst (λ (t : TrailData). (c.in-Some.place.now - 1 < length t.steps) × (lit_at t.steps (c.in-Some.place.now - 1) ≡ c.args.lit)) c.self.view_is
    (found_place i.steps.items i.places.items c.self.invariant c.args.lit c.in-Some.place.now e c.if-place-eq0.false)

pub returns-in-None-clause-none : goal.returns-in-None-clause-none
returns-in-None-clause-none c =
    let i = c.self.inside in
    let ge : length i.places.items ≤ code_of c.args.lit = omega (arith, c.in-None.ensures.lookup.3, ap length c.deref.ensures.value, c.code.ensures) in
    subst (λ (t : TrailData). (p : ℕ) → p < length t.steps → lit_at t.steps p ≡ c.args.lit → ⊥) c.self.view_is
    (beyond_places i.steps.items i.places.items c.self.invariant c.args.lit ge)
