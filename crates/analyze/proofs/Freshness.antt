-- What follows of a lemma from the levels at which the trail was closed, and at which its literals are.
use Rattle.std.proofs.Common.{◌≡◌, ◌∙◌, ℕ, ◌-◌, ◌<◌, ◌≤◌, true, not, None, List, length, sym, ap, inl, inr, ◌⊎◌, Contains, arith}
use Rattle.std.specs.Option.{option_map}
use Rattle.std.proofs.lemmas.Bool.{or_cases, cases_eq, cases_lt}
use Rattle.sat_words.specs.Literal.{Literal, opposite, same}
use Rattle.sat_words.specs.Clause.{has}
use Rattle.sat_words.proofs.Members.{same-true}
use Rattle.ring_port.specs.PortState.{PortState}
use Rattle.ring_trail.specs.declared.step.TrailStep.{TrailStep}
use Rattle.ring_trail.specs.TrailData.{TrailData, IsTrail, FalseBefore, IsFalseClause, lit_at, level_at, var_at, value_of, cut_back}
use Rattle.ring_trail.specs.Reasoned.{ForcesAt}
use Rattle.ring_trail.specs.Closed.{TrueWithin, IsClosedClause, IsClosed}
use Rattle.ring_trail.proofs.Values.{step_of-no_place}
use Rattle.ring_trail.proofs.Causes.{back-kept, back-only}
use Rattle.analyze.specs.Levels.{greatest, levels_of, clause_level, level_of_lit}
use Rattle.analyze.specs.Lemma.{IsLemma}
use Rattle.analyze.proofs.Chains.{has-head}
use Rattle.analyze.proofs.LevelLemmas.{level_of_lit-at, false_place, clause_level-above, levels_lower, levels_within}
use Rattle.analyze.proofs.Parts.{own_opposite}

module _ (s : PortState) (t : TrailData) (conflict lits : List Literal) (back glue : ℕ) (shape : IsTrail t) (pos : 0 < clause_level t.steps conflict) (i : IsLemma s t conflict lits back glue) where
  -- a false literal is not true
  not_true : (l : Literal) (k : ℕ) → has lits l ≡ true → TrueWithin t.steps k l → ⊥
  not_true l k h w =
      let f : FalseBefore t.steps (length t.steps) l = (i.all_false l h).false_now in
      let e : w.place ≡ f.place = shape.distinct w.place f.place w.in_range f.before (ap (λ (x : Literal). x.var) w.true_there ∙ sym (ap (λ (x : Literal). x.var) f.false_there)) in
      own_opposite l (sym w.true_there ∙ ap (lit_at t.steps) e ∙ f.false_there)

  -- the literals except for the first are false below the conflict's level
  false_below : (l : Literal) → has i.rest l ≡ true → has lits l ≡ true → TrueWithin t.steps (clause_level t.steps conflict - 1) (opposite l)
  false_below l r h =
      let f : FalseBefore t.steps (length t.steps) l = (i.all_false l h).false_now in
      let low = i.below l r in
      let e = level_of_lit-at t l f.place shape (false_place t.steps (length t.steps) l f (omega arith)) in
      record { place = f.place; in_range = f.before; true_there = f.false_there; level = omega arith }

  -- a literal that isn't false below is the first
  is_first : (l : Literal) → has lits l ≡ true → (TrueWithin t.steps (clause_level t.steps conflict - 1) (opposite l) → ⊥) → l ≡ i.first
  is_first l h no_place =
      elim (or_cases (same l i.first) (has i.rest l) (ap (λ (c : List Literal). has c l) (sym i.parts) ∙ h)) as (λ _. l ≡ i.first) [
        | inl e ↦ same-true l i.first e
        | inr r ↦ absurd (no_place (false_below l r h))
      ]

  pub contains_none : (c : List Literal) → IsClosedClause c t.steps (clause_level t.steps conflict - 1) → ((l : Literal) → has c l ≡ true → has lits l ≡ true) → ⊥
  contains_none c (inl a) sub = not_true a.lit (clause_level t.steps conflict - 1) (sub a.lit a.has_lit) a.within
  contains_none c (inr b) sub = b.differ (is_first b.one (sub b.one b.has_one) b.one_open ∙ sym (is_first b.other (sub b.other b.has_other) b.other_open))

  -- the level to go back to is lower
  pub back_lower : back < clause_level t.steps conflict
  back_lower = by i.rest (λ l h. i.below l h) i.back_is
    where
      by : (c : List Literal) → ((l : Literal) → has c l ≡ true → level_of_lit t.steps l < clause_level t.steps conflict) → back ≡ greatest (levels_of t.steps c) → back < clause_level t.steps conflict
      by c low e = (let g = levels_lower t.steps c (clause_level t.steps conflict) pos low in omega arith)

  -- going back leaves the first literal without a value
  pub first_open : value_of (cut_back t back).steps i.first.var ≡ None
  first_open = ap (option_map (λ (x : TrailStep). not x.lit.neg)) (step_of-no_place (cut_back t back).steps i.first.var (λ p lt e.
      let o = back-only t back p shape lt in
      let var : var_at t.steps p ≡ i.first.var = sym (ap (λ (x : TrailStep). x.lit.var) o.2) ∙ e in
      let level = level_of_lit-at t i.first p shape (record { in_range = o.0; var = var }) in
      let a = i.asserting in
      let b = back_lower in
      let c = o.1 in
      omega arith))

  -- and the others false
  pub first_forced : ForcesAt (cut_back t back).steps (length (cut_back t back).steps) i.first lits
  first_forced = record {
    has_lit = ap (λ (c : List Literal). has c i.first) i.parts ∙ has-head i.rest i.first;
    others = λ l h. elim (or_cases (same l i.first) (has i.rest l) (ap (λ (c : List Literal). has c l) (sym i.parts) ∙ h)) as (λ _. (l ≡ i.first) ⊎ FalseBefore (cut_back t back).steps (length (cut_back t back).steps) l) [
      | inl e ↦ inl (same-true l i.first e)
      | inr r ↦ inr (
          let f : FalseBefore t.steps (length t.steps) l = (i.all_false l h).false_now in
          let e = level_of_lit-at t l f.place shape (false_place t.steps (length t.steps) l f (omega arith)) in
          let g = clause_level-above t.steps i.rest l r in
          let b = i.back_is in
          let k = back-kept t back f.place shape f.before (omega arith) in
          record { place = f.place; before = k.0; false_there = ap (λ (x : TrailStep). x.lit) k.1 ∙ f.false_there })
    ];
  }

-- a false clause for which the trail was closed below the present level became false there
pub present_conflict : (t : TrailData) (cs : List (List Literal)) (c : List Literal) → IsTrail t → ((k : ℕ) → k < t.level → IsClosed cs t.steps k) → Contains cs c → IsFalseClause t.steps c → clause_level t.steps c ≡ t.level
present_conflict t cs c shape closed there bad =
    elim (cases_eq t.level 0) as (λ _. clause_level t.steps c ≡ t.level) [
      | inl z ↦ omega (arith, within)
      | inr ne ↦ (let g = high (closed (t.level - 1) (omega arith) c there) in omega (arith, within))
    ]
  where
    level_here : (l : Literal) (f : FalseBefore t.steps (length t.steps) l) → level_of_lit t.steps l ≡ level_at t.steps f.place
    level_here l f = level_of_lit-at t l f.place shape (false_place t.steps (length t.steps) l f (omega arith))

    within : clause_level t.steps c ≤ t.level
    within = levels_within t.steps c t.level (λ l h. let f : FalseBefore t.steps (length t.steps) l = bad l h in let e = level_here l f in let w = shape.within f.place f.before in omega arith)

    high : IsClosedClause c t.steps (t.level - 1) → t.level ≤ clause_level t.steps c
    high (inl a) = absurd (
        let f : FalseBefore t.steps (length t.steps) a.lit = bad a.lit a.has_lit in
        let w = a.within in
        let e : w.place ≡ f.place = shape.distinct w.place f.place w.in_range f.before (ap (λ (x : Literal). x.var) w.true_there ∙ sym (ap (λ (x : Literal). x.var) f.false_there)) in
        own_opposite a.lit (sym w.true_there ∙ ap (lit_at t.steps) e ∙ f.false_there))
    high (inr b) = (
        let f : FalseBefore t.steps (length t.steps) b.one = bad b.one b.has_one in
        let e = level_here b.one f in
        let g = clause_level-above t.steps c b.one b.has_one in
        elim (cases_lt (level_at t.steps f.place) t.level) as (λ _. t.level ≤ clause_level t.steps c) [
          | inl low ↦ absurd (b.one_open (record { place = f.place; in_range = f.before; true_there = f.false_there; level = omega arith }))
          | inr ge ↦ omega arith
        ])
