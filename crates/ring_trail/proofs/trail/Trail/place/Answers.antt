use Rattle.std.proofs.Common.{◌<◌, ap, ◌∙◌, sym, subst, arith, length, ℕ}
use Rattle.std.proofs.lemmas.List.{get_or_default}
use Rattle.ring_trail.specs.TrailData.{TrailData, IsPlaceOf}
use Rattle.ring_trail.proofs.Shape.{trail_at, told_none, told_some}
use Rattle.ring_trail.proofs.trail.Trail.place.Goals as goal

pub returns-in-None-clause-trail : goal.returns-in-None-clause-trail
returns-in-None-clause-trail c = trail_at _ _ c.self.invariant c.self.view_is

pub returns-in-Some-clause-trail : goal.returns-in-Some-clause-trail
returns-in-Some-clause-trail c = trail_at _ _ c.self.invariant c.self.view_is

pub returns-in-None-clause-place : goal.returns-in-None-clause-place
returns-in-None-clause-place c = told_none c.self.inside c.args.self.now c.args.var c.self.invariant c.self.view_is c.requires (sym c.value.ensures ∙ c.in-None.is)

pub returns-in-Some-clause-place : goal.returns-in-Some-clause-place
returns-in-Some-clause-place c =
    let vars = ap (λ (t : TrailData). t.vars) c.self.view_is in
    let lp : c.args.var < length c.self.inside.places.items = omega (arith, c.self.invariant.sizes, c.self.invariant.range, c.requires) in
    let told = told_some c.self.inside c.args.self.now c.args.var c.in-Some.field-0 c.self.invariant c.self.view_is c.requires (sym c.value.ensures ∙ c.in-Some.is) in
    subst (λ (p : ℕ). IsPlaceOf c.args.self.now.steps c.args.var p)
    (sym (c.index.ensures ∙ get_or_default c.self.inside.places.items c.args.var c.index.result.now 0 lp)) told.place
