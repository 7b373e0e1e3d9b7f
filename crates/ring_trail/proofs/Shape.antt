-- The tables make a trail.
use Rattle.std.proofs.Common.{Bool, true, false, not, None, Some, ◌≡◌, ℕ, ◌<◌, ◌≤◌, ◌+◌, ◌-◌, List, length, get_or, sym, refl, ap, subst, ◌∙◌, inl, inr, arith}
use Rattle.std.proofs.lemmas.Bool.{cases_lt}
use Rattle.std.proofs.Math.Bool.{beq}
use Rattle.std.proofs.lemmas.List.{get_or_default}
use Rattle.std.specs.Bool.{MatchBool}
use Rattle.sat_words.specs.Literal.{Literal, opposite}
use Rattle.ring_trail.specs.declared.step.TrailStep.{TrailStep}
use Rattle.ring_trail.specs.declared.trail.Trail.TheInside.{Inside}
use Rattle.ring_trail.specs.TrailData.{TrailData, IsTrail, IsPlaceOf, HasNoPlace, IsTrueOn, IsFalseOn, no_step, step_at, lit_at, level_at, var_at, step_of}
use Rattle.ring_trail.specs.Inside.{IsInside}
use Rattle.ring_trail.proofs.Values.{none_at, value_none, value_some, some_at, step_of-at, distinct_at, Kept-room}
use Rattle.ring_trail.proofs.Levels.{few}

-- what contracts see of the tables
abbrev pub seen_as : Inside → TrailData
seen_as t = record { vars = t.vars; level = length t.starts.items; steps = t.steps.items; done = t.done }

rising_of : (t : Inside) → IsInside t → (p q : ℕ) → p ≤ q → q < length t.steps.items → level_at t.steps.items p ≤ level_at t.steps.items q
rising_of t i p q le lt =
    elim (cases_lt (level_at t.steps.items q) (level_at t.steps.items p)) as (λ _. level_at t.steps.items p ≤ level_at t.steps.items q) [
      | inr ge ↦ ge
      | inl l ↦ (
          let k : ℕ = level_at t.steps.items q in
          let inside : k < length t.starts.items = (let a = i.levels p (omega arith) in omega arith) in
          let parts = i.parts k inside in
          elim (cases_lt q (get_or t.starts.items k 0)) as (λ _. level_at t.steps.items p ≤ level_at t.steps.items q) [
            | inl before ↦ absurd (let b = parts.below p (omega arith) in omega arith)
            | inr behind ↦ absurd (let a = parts.above q behind lt in omega arith)
          ])
    ]

low_of : (t : Inside) → IsInside t → (p : ℕ) → p < length t.steps.items → 1 ≤ var_at t.steps.items p
low_of t i p lt =
    elim (cases_lt 0 (var_at t.steps.items p)) as (λ _. 1 ≤ var_at t.steps.items p) [
      | inl l ↦ omega arith
      | inr z ↦ absurd (none_at t.steps.items 0 (value_none t.steps.items 0 (sym (i.kept.told 0 i.kept.first.0) ∙ i.kept.first.1)) p lt (omega arith))
    ]

shallow_of : (t : Inside) → IsInside t → (p : ℕ) → p < length t.steps.items → level_at t.steps.items p ≤ p + 1
shallow_of t i p lt =
    elim (cases_lt 0 (level_at t.steps.items p)) as (λ _. level_at t.steps.items p ≤ p + 1) [
      | inr z ↦ omega arith
      | inl l ↦ (
          let k : ℕ = level_at t.steps.items p - 1 in
          let inside : k < length t.starts.items = (let a = i.levels p lt in omega arith) in
          let parts = i.parts k inside in
          elim (cases_lt p (get_or t.starts.items k 0)) as (λ _. level_at t.steps.items p ≤ p + 1) [
            | inl before ↦ absurd (let b = parts.below p before in omega arith)
            | inr behind ↦ (let m = parts.many in omega arith)
          ])
    ]

pub trail_of : (t : Inside) → IsInside t → IsTrail (seen_as t)
trail_of t i =
    let room = Kept-room t.steps.items t.values i.kept in
    record {
      rising = rising_of t i;
      within = i.levels;
      opened = λ k lt. (let p = i.parts k lt in (get_or t.starts.items k 0, p.low, p.at));
      shallow = shallow_of t i;
      levels = few t.steps.items t.starts.items i.parts;
      distinct = λ p q hp hq e. distinct_at t.steps.items p q i.kept.distinct hp hq e;
      low = low_of t i;
      high = λ p lt. (let r = i.kept.in_range p no_step lt in let s = i.range in omega arith);
      short = (let s = i.range in omega arith);
      small = i.small;
      done = i.done;
    }

-- the same over the value
pub trail_at : (t : Inside) (d : TrailData) → IsInside t → seen_as t ≡ d → IsTrail d
trail_at t d i e = subst IsTrail e (trail_of t i)

-- a variable without a value in the table has no place
pub told_none : (t : Inside) (d : TrailData) (v : ℕ) → IsInside t → seen_as t ≡ d → v ≤ d.vars → get_or t.values v None ≡ None → HasNoPlace d.steps v
told_none t d v i e le is =
    subst (λ (x : TrailData). HasNoPlace x.steps v) e
    (let vars = ap (λ (x : TrailData). x.vars) e in
    none_at t.steps.items v (value_none t.steps.items v (sym (i.kept.told v (omega (arith, i.range))) ∙ is)))

-- one with a value has its place in the other table
pub record ToldAt (d : TrailData) (v : ℕ) (b : Bool) (p : ℕ) : Type 0 where
  pub place : IsPlaceOf d.steps v p
  pub value : not (lit_at d.steps p).neg ≡ b
  pub step : step_of d.steps v ≡ Some (step_at d.steps p)

pub told_some : (t : Inside) (d : TrailData) (v : ℕ) (b : Bool) → IsInside t → seen_as t ≡ d → v ≤ d.vars → get_or t.values v None ≡ Some b → ToldAt d v b (get_or t.places.items v 0)
told_some t d v b i e le is =
    subst (λ (x : TrailData). ToldAt x v b (get_or t.places.items v 0)) e
    (let vars = ap (λ (x : TrailData). x.vars) e in
    let s = value_some t.steps.items v b (sym (i.kept.told v (omega (arith, i.range))) ∙ is) in
    let p = some_at t.steps.items v s.0 s.1 in
    let var : var_at t.steps.items p.0 ≡ v = ap (λ (x : TrailStep). x.lit.var) p.2 ∙ p.3 in
    let here : get_or t.places.items v 0 ≡ p.0 = ap (λ (w : ℕ). get_or t.places.items w 0) (sym var) ∙ i.placed p.0 p.1 in
    subst (λ (q : ℕ). ToldAt (seen_as t) v b q) (sym here)
    (record {
      place = record { in_range = p.1; var = var };
      value = ap (λ (x : TrailStep). not x.lit.neg) p.2 ∙ s.2;
      step = s.1 ∙ ap (λ (x : TrailStep). Some x) (sym p.2);
    }))

pub same_lit : (k l : Literal) → k.var ≡ l.var → k.neg ≡ l.neg → k ≡ l
same_lit k l e f = λ i. record { var = e i; neg = f i }

truth_by : (steps : List TrailStep) (l : Literal) (p : ℕ) → IsPlaceOf steps l.var p → (n m : Bool) → (lit_at steps p).neg ≡ n → l.neg ≡ m → MatchBool (not (beq (not n) m)) (IsTrueOn steps l) (IsFalseOn steps l)
truth_by steps l p i false false e f = record { place = p; before = i.in_range; true_there = same_lit (lit_at steps p) l i.var (e ∙ sym f) }
truth_by steps l p i true true e f = record { place = p; before = i.in_range; true_there = same_lit (lit_at steps p) l i.var (e ∙ sym f) }
truth_by steps l p i false true e f = record { place = p; before = i.in_range; false_there = same_lit (lit_at steps p) (opposite l) i.var (e ∙ sym (ap not f)) }
truth_by steps l p i true false e f = record { place = p; before = i.in_range; false_there = same_lit (lit_at steps p) (opposite l) i.var (e ∙ sym (ap not f)) }

-- a literal's truth by the value of its variable
pub truth_at : (d : TrailData) (l : Literal) (p : ℕ) (b m : Bool) → ToldAt d l.var b p → m ≡ l.neg → MatchBool (not (beq b m)) (IsTrueOn d.steps l) (IsFalseOn d.steps l)
truth_at d l p b m t e =
    subst (λ (x : Bool). MatchBool (not (beq x m)) (IsTrueOn d.steps l) (IsFalseOn d.steps l)) t.value
    (truth_by d.steps l p t.place (lit_at d.steps p).neg m refl (sym e))

-- the step at a variable's place
pub step_at_place : (d : TrailData) (v p : ℕ) → IsTrail d → IsPlaceOf d.steps v p → step_of d.steps v ≡ Some (step_at d.steps p)
step_at_place d v p shape i =
    step_of-at d.steps v p (λ q h e. let z : q ≡ p = shape.distinct q p (let r = i.in_range in omega arith) i.in_range (e ∙ sym i.var) in omega arith) i.in_range i.var

-- what was read there
pub step_read : (t : Inside) (d : TrailData) (v p : ℕ) (s : TrailStep) → seen_as t ≡ d → IsPlaceOf d.steps v p → s ≡ get_or t.steps.items p s → Some (step_at d.steps p) ≡ Some s
step_read t d v p s e i is =
    let steps : t.steps.items ≡ d.steps = ap (λ (x : TrailData). x.steps) e in
    ap (λ (x : TrailStep). Some x) (get_or_default d.steps p no_step s i.in_range ∙ ap (λ (xs : List TrailStep). get_or xs p s) (sym steps) ∙ sym is)
