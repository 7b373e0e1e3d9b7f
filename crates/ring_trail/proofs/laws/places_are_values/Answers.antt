use Rattle.std.proofs.Common.{◌≡◌, arith, sym, ap, ◌∙◌, not}
use Rattle.ring_trail.specs.declared.step.TrailStep.{TrailStep}
use Rattle.ring_trail.proofs.Values.{none_at, value_none, value_some, some_at, step_of-at, step_of-no_place}
use Rattle.ring_trail.proofs.laws.places_are_values.Goals as goal

pub returns-clause-none : goal.returns-clause-none
returns-clause-none c = λ steps v e. none_at steps v (value_none steps v e)

pub returns-clause-free : goal.returns-clause-free
returns-clause-free c = λ steps v none. step_of-no_place steps v none

pub returns-clause-some : goal.returns-clause-some
returns-clause-some c = λ steps v b e.
    (let s = value_some steps v b e in
    let p = some_at steps v s.0 s.1 in
    (p.0, record { in_range = p.1; var = ap (λ (x : TrailStep). x.lit.var) p.2 ∙ p.3 }, ap (λ (x : TrailStep). not x.lit.neg) p.2 ∙ s.2))

pub returns-clause-step : goal.returns-clause-step
returns-clause-step c = λ t v p shape i.
    step_of-at t.steps v p (λ q h e. let z : q ≡ p = shape.distinct q p (let r = i.in_range in omega arith) i.in_range (e ∙ sym i.var) in omega arith) i.in_range i.var
