use Rattle.std.proofs.Common.{◌∙◌, ◌≤◌, ◌++◌, ap, subst, sym, ◌-◌, List, ℕ, length, replicate, vec_len, arith}
use Rattle.std.proofs.lemmas.List.{take_all}
use Rattle.simp_base.specs.Hinting.{ArePlaces}
use Rattle.simp_base.proofs.TrailTables.{more_codes}
use Rattle.simp_base.proofs.hints.trail.Trail.widen_to.Goals as goal

pub invariant_of-self : goal.invariant_of-self
invariant_of-self c =
    let i = c.self.inside in
    let le : length i.places.items ≤ c.args.codes = omega (arith, c.if-len-codes.true, c.len.ensures, i.places.ok) in
    let n = c.args.codes - vec_len i.places in
    subst (ArePlaces i.steps.items) (sym (c.in_ok-resize.ensures.items ∙ ap (λ (xs : List ℕ). xs ++ replicate n 0) (take_all c.args.codes i.places.items le)))
    (more_codes i.steps.items i.places.items c.self.invariant n)
