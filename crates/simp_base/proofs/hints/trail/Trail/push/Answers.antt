use Rattle.std.proofs.Common.{◌≡◌, ◌<◌, [], ◌∷◌, ◌++◌, ap, subst, sym, arith, suc, ℕ, List, length, set, length-append}
use Rattle.sat_words.specs.Literal.{code_of}
use Rattle.simp_base.specs.Hinting.{ArePlaces, TrailData, lit_at}
use Rattle.simp_base.specs.declared.hints.trail.Step.{Step}
use Rattle.simp_base.proofs.TrailTables.{one_more}
use Rattle.simp_base.proofs.hints.trail.Trail.push.Goals as goal

pub invariant_of-self-2 : goal.invariant_of-self-2
invariant_of-self-2 c =
    let i = c.self.inside in
    let s = c.args.step in
    let view = c.self.view_is in
    let lt : code_of s.lit < length i.places.items = omega (arith, c.requires.code, ap (λ (t : TrailData). t.codes) view, i.places.ok) in
    let long : c.len.result ≡ suc (length i.steps.items) = omega (arith, c.len.ensures, c.push.new.self.ok, ap length c.in_ok-push.ensures.items, length-append i.steps.items (s ∷ [])) in
    subst (λ (ss : List Step). ArePlaces ss (set i.places.items c.code-code.result c.len.result)) (sym c.in_ok-push.ensures.items)
    (subst (λ (n : ℕ). ArePlaces (i.steps.items ++ s ∷ []) (set i.places.items n c.len.result)) (sym c.code-code.ensures)
    (subst (λ (n : ℕ). ArePlaces (i.steps.items ++ s ∷ []) (set i.places.items (code_of s.lit) n)) (sym long)
    (one_more i.steps.items i.places.items c.self.invariant s lt
    (subst (λ (t : TrailData). (p : ℕ) → p < length t.steps → lit_at t.steps p ≡ s.lit → ⊥) (sym view) c.requires.free))))
