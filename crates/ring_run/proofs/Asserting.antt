-- A lemma, once it is learned and the trail has gone back, forces its first literal.
use Rattle.std.proofs.Common.{◌≡◌, ◌∙◌, ℕ, ◌-◌, ◌<◌, ◌≤◌, true, false, List, [], ◌∷◌, length, take, sym, subst, ap, arith, inl, inr, ◌⊎◌, refl, Contains}
use Rattle.std.specs.Option.{option_map, unwrap_or}
use Rattle.std.specs.declared.option.Option.{Option}
use Rattle.std.proofs.lemmas.Bool.{or_left, or_right, or_cases, false≢true, cases_lt}
use Rattle.std.proofs.lemmas.List.{get_or-take}
use Rattle.sat_words.specs.Literal.{Literal, same, opposite}
use Rattle.sat_words.specs.Clause.{has}
use Rattle.sat_words.specs.declared.shared.Cref.{Cref}
use Rattle.sat_words.proofs.Members.{same-true, same-refl}
use Rattle.rup_model.proofs.Lists.{Contains_In}
use Rattle.ring_port.specs.PortState.{PortState, lits_at}
use Rattle.ring_trail.specs.declared.step.TrailStep.{TrailStep}
use Rattle.ring_trail.specs.TrailData.{TrailData, IsTrail, IsPlaceOf, HasNoPlace, IsFalseOn, FalseBefore, no_step, step_at, level_at, cut_back}
use Rattle.ring_trail.specs.Reasoned.{ForcesAt}
use Rattle.ring_trail.specs.Closed.{TrueWithin, IsClosedClause}
use Rattle.ring_trail.proofs.Shape.{step_at_place}
use Rattle.ring_trail.proofs.Causes.{IsClosed-back}
use Rattle.analyze.specs.Levels.{greatest, level_of_lit, levels_of, clause_level}
use Rattle.analyze.specs.Lemma.{IsLemma}
use Rattle.analyze.proofs.Freshness.{contains_none, present_conflict}
use Rattle.watch_prop.specs.WatchData.{WatchData, attached, clauses_of}
use Rattle.watch_prop.specs.Propagation.{IsConflict}
use Rattle.ring_run.specs.Searching.{Stands, IsAsserting}
use Rattle.ring_run.specs.Course.{Searches, WentBack, CanAssert}
use Rattle.ring_run.proofs.Remembering.{stands_there}
use Rattle.ring_run.proofs.News.{new_to}

-- the greatest of the levels
level_of_member : (steps : List TrailStep) (c : List Literal) (k : Literal) → has c k ≡ true → level_of_lit steps k ≤ greatest (levels_of steps c)
level_of_member steps [] k h = absurd (false≢true h)
level_of_member steps (l ∷ c) k h =
    elim (or_cases (same k l) (has c k) h) as (λ _. level_of_lit steps k ≤ greatest (levels_of steps (l ∷ c))) [
      | inl e ↦ (let is = ap (level_of_lit steps) (same-true k l e) in omega arith)
      | inr m ↦ (let rest = level_of_member steps c k m in omega arith)
    ]

greatest_below : (steps : List TrailStep) (c : List Literal) (n : ℕ) → 0 < n → ((k : Literal) → has c k ≡ true → level_of_lit steps k < n) → greatest (levels_of steps c) < n
greatest_below steps [] n h below = h
greatest_below steps (l ∷ c) n h below =
    let first = below l (or_left (same l l) (has c l) (same-refl l)) in
    let rest = greatest_below steps c n h (λ k m. below k (or_right (same k l) (has c k) m)) in
    omega arith

-- a literal of the greatest level, if that isn't 0
attained : (steps : List TrailStep) (c : List Literal) → 0 < greatest (levels_of steps c) → (k : Literal) × (has c k ≡ true) × (level_of_lit steps k ≡ greatest (levels_of steps c))
attained steps [] h = absurd (omega arith)
attained steps (l ∷ c) h =
    elim (cases_lt (level_of_lit steps l) (greatest (levels_of steps c))) as (λ _. (k : Literal) × (has (l ∷ c) k ≡ true) × (level_of_lit steps k ≡ greatest (levels_of steps (l ∷ c)))) [
      | inl lt ↦ (
          let r : (k : Literal) × (has c k ≡ true) × (level_of_lit steps k ≡ greatest (levels_of steps c)) = attained steps c (omega arith) in
          (r.0, or_right (same r.0 l) (has c r.0) r.1, omega (arith, r.2)))
      | inr ge ↦ (l, or_left (same l l) (has c l) (same-refl l), omega arith)
    ]

-- if a literal is false, that place has its level
level_at_place : (t : TrailData) (k : Literal) (f : FalseBefore t.steps (length t.steps) k) → IsTrail t → level_of_lit t.steps k ≡ level_at t.steps f.place
level_at_place t k f shape =
    let at : IsPlaceOf t.steps k.var f.place = record { in_range = f.before; var = ap (λ (l : Literal). l.var) f.false_there } in
    ap (λ (o : Option TrailStep). unwrap_or (option_map (λ (x : TrailStep). x.level) o) 0) (step_at_place t k.var f.place shape at)

-- a literal that is false at a level of at most k has such a level
false_within : (t : TrailData) (l : Literal) (k : ℕ) → IsTrail t → TrueWithin t.steps k (opposite l) → level_of_lit t.steps l ≤ k
false_within t l k shape w =
    let at = level_at_place t l (record { place = w.place; before = w.in_range; false_there = w.true_there }) shape in
    omega (arith, w.level)

module _ (s : PortState) (t : TrailData) (w : WatchData) (c : Cref) (lits : List Literal) (back glue n : ℕ) (p : Searches s t w n) (conflict : IsConflict w (lits_at s) t c)
    (above : 0 < clause_level t.steps (lits_at s c.address)) (i : IsLemma s t (lits_at s c.address) lits back glue) where
  has_first : has lits i.first ≡ true
  has_first = subst (λ (d : List Literal). has d i.first ≡ true) (sym i.parts) (or_left (same i.first i.first) (has i.rest i.first) (same-refl i.first))

  has_rest : (k : Literal) → has i.rest k ≡ true → has lits k ≡ true
  has_rest k h = subst (λ (d : List Literal). has d k ≡ true) (sym i.parts) (or_right (same k i.first) (has i.rest k) h)

  back_lower : back < clause_level t.steps (lits_at s c.address)
  back_lower = omega (arith, i.back_is, greatest_below t.steps i.rest (clause_level t.steps (lits_at s c.address)) above i.below)

  -- it is no unit below the level to go back to: the first literal has no value there, and one other has that level
  closed_below : (k : ℕ) → k < back → IsClosedClause lits t.steps k
  closed_below k below =
      let last : (l : Literal) × (has i.rest l ≡ true) × (level_of_lit t.steps l ≡ greatest (levels_of t.steps i.rest)) = attained t.steps i.rest (omega (arith, i.back_is)) in
      inr (record {
        one = i.first;
        other = last.0;
        has_one = has_first;
        has_other = has_rest last.0 last.1;
        differ = λ e. absurd (omega (arith, ap (level_of_lit t.steps) e, i.asserting, last.2, i.back_is, back_lower));
        one_open = λ v. absurd (omega (arith, false_within t i.first k p.trail v, i.asserting, back_lower));
        other_open = λ v. absurd (omega (arith, false_within t last.0 k p.trail v, last.2, i.back_is));
      })

  -- the clauses attached were closed below the conflict's level
  at_present : clause_level t.steps (lits_at s c.address) ≡ t.level
  at_present = present_conflict t (clauses_of w (lits_at s)) (lits_at s c.address) p.trail p.closed (stands_there s (attached w) c conflict.member) conflict.false_all

  -- so it contains none of them
  none_inside : (d : List Literal) → Contains (clauses_of w (lits_at s)) d → ((l : Literal) → has d l ≡ true → has lits l ≡ true) → ⊥
  none_inside d there sub =
      contains_none s t (lits_at s c.address) lits back glue p.trail above i d
      (p.closed (clause_level t.steps (lits_at s c.address) - 1) (omega (arith, at_present)) d there) sub

  -- and none of its literals is true at level 0
  none_seen : (l : Literal) → has lits l ≡ true → has s.seen l ≡ true → ⊥
  none_seen l h seen =
      let v = p.stands.seen l seen in
      let f = (i.all_false l h).false_now in
      let e : v.place ≡ f.place = p.trail.distinct v.place f.place v.in_range f.before (ap (λ (x : Literal). x.var) v.true_there ∙ sym (ap (λ (x : Literal). x.var) f.false_there)) in
      absurd (omega (arith, level_at_place t l f p.trail, ap (level_at t.steps) e, v.level, (i.all_false l h).above))

  pub lemma_asserts : IsAsserting s t lits back
  lemma_asserts = record {
    first = i.first;
    rest = i.rest;
    parts = i.parts;
    implied = i.implied;
    clause = i.clause;
    first_false = (i.all_false i.first has_first).false_now;
    ahead = omega (arith, i.asserting, back_lower);
    behind = λ k h. ((i.all_false k (has_rest k h)).false_now, omega (arith, i.back_is, level_of_member t.steps i.rest k h));
    of_unit = λ e. i.back_is ∙ ap (λ (d : List Literal). greatest (levels_of t.steps d)) e;
    closed = closed_below;
    is_new_to = new_to s (attached w) lits p.clauses p.opening none_inside none_seen;
  }

only_one : (k l : Literal) → has (l ∷ []) k ≡ true → k ≡ l
only_one k l e =
    elim (or_cases (same k l) false e) as (λ _. k ≡ l) [
      | inl is ↦ same-true k l is
      | inr none ↦ absurd (false≢true none)
    ]

-- what is true at a level stays so where the trail goes back to it
pub within_back : (t : TrailData) (j k : ℕ) (l : Literal) → IsTrail t → j ≤ k → TrueWithin t.steps j l → TrueWithin (cut_back t k).steps j l
within_back t j k l shape le w =
    by (IsClosed-back ((l ∷ []) ∷ []) t j k shape le (λ c there. subst (λ (d : List Literal). IsClosedClause d t.steps j) (sym (alone c there)) (inl (record { lit = l; has_lit = or_left (same l l) false (same-refl l); within = w })))
    (l ∷ []) here)
  where
    alone : (c : List Literal) → Contains ((l ∷ []) ∷ []) c → c ≡ l ∷ []
    alone c there = elim (Contains_In ((l ∷ []) ∷ []) c there) as (λ _. c ≡ l ∷ []) [ inl e ↦ sym e | inr none ↦ absurd none ]

    here : Contains ((l ∷ []) ∷ []) (l ∷ [])
    here = (0, omega arith, refl)

    by : IsClosedClause (l ∷ []) (cut_back t k).steps j → TrueWithin (cut_back t k).steps j l
    by (inl h) = subst (TrueWithin (cut_back t k).steps j) (only_one h.lit l h.has_lit) h.within
    by (inr o) = absurd (o.differ (only_one o.one l o.has_one ∙ sym (only_one o.other l o.has_other)))

-- a literal that is false at a level is so where the trail goes back to it
false_back : (t v : TrailData) (back : ℕ) (k : Literal) → IsTrail t → v ≡ cut_back t back → IsFalseOn t.steps k → level_of_lit t.steps k ≤ back → IsFalseOn v.steps k
false_back t v back k shape is f le =
    let w : TrueWithin t.steps back (opposite k) = record { place = f.place; in_range = f.before; true_there = f.false_there; level = omega (arith, le, level_at_place t k f shape) } in
    let u = subst (λ (x : TrailData). TrueWithin x.steps back (opposite k)) (sym is) (within_back t back back (opposite k) shape (omega arith) w) in
    record { place = u.place; before = u.in_range; false_there = u.true_there }

-- the first literal of a lemma has no value there
first_free : (t v : TrailData) (back : ℕ) (l : Literal) → IsTrail t → IsTrail v → v.level ≡ back → v.steps ≡ take (length v.steps) t.steps → length v.steps ≤ length t.steps
    → IsFalseOn t.steps l → back < level_of_lit t.steps l → HasNoPlace v.steps l.var
first_free t v back l shape shape2 level is short f ahead = λ p h var.
    let same_step : step_at v.steps p ≡ step_at t.steps p = ap (λ (ss : List TrailStep). step_at ss p) is ∙ get_or-take (length v.steps) t.steps p no_step h in
    let here = shape2.within p h in
    let there = level_at_place t l f shape in
    let one : p ≡ f.place = shape.distinct p f.place (omega arith) f.before (ap (λ (x : TrailStep). x.lit.var) (sym same_step) ∙ var ∙ sym (ap (λ (k : Literal). k.var) f.false_there)) in
    let deep : level_at t.steps p ≡ level_at t.steps f.place = ap (level_at t.steps) one in
    let low : level_at t.steps p ≡ level_at v.steps p = ap (λ (x : TrailStep). x.level) (sym same_step) in
    absurd (omega arith)

-- the lemma forces its first literal there
pub forces_first : (s : PortState) (t v : TrailData) (lits : List Literal) (back : ℕ) (p : IsAsserting s t lits back) → IsTrail t → v ≡ cut_back t back
    → ForcesAt v.steps (length v.steps) p.first lits
forces_first s t v lits back p shape is = record {
  has_lit = subst (λ (c : List Literal). has c p.first ≡ true) (sym p.parts) (or_left (same p.first p.first) (has p.rest p.first) (same-refl p.first));
  others = λ k h. elim (or_cases (same k p.first) (has p.rest k) (subst (λ (c : List Literal). has c k ≡ true) p.parts h)) as (λ _. (k ≡ p.first) ⊎ IsFalseOn v.steps k) [
    | inl e ↦ inl (same-true k p.first e)
    | inr m ↦ (let b = p.behind k m in inr (false_back t v back k shape is b.0 b.1))
  ];
}

pub seen_back : (s : PortState) (t v : TrailData) (back : ℕ) (l : Literal) → Stands s t → IsTrail t → WentBack t v back → has s.seen l ≡ true → TrueWithin v.steps 0 l
seen_back s t v back l p shape w h = subst (λ (x : TrailData). TrueWithin x.steps 0 l) (sym w.is) (within_back t 0 back l shape (omega arith) (p.seen l h))

pub first_has_no_value : (s : PortState) (t v : TrailData) (lits : List Literal) (back : ℕ) (a : IsAsserting s t lits back) → IsTrail t → WentBack t v back → HasNoPlace v.steps a.first.var
first_has_no_value s t v lits back a shape w =
    first_free t v back a.first shape w.shape (ap (λ (y : TrailData). y.level) w.is) w.prefix w.short a.first_false a.ahead

-- going back takes a level or more
pub back_below : (s : PortState) (t : TrailData) (lits : List Literal) (back : ℕ) → IsAsserting s t lits back → IsTrail t → back < t.level
back_below s t lits back a shape =
    let here = level_at_place t a.first a.first_false shape in
    let within = shape.within a.first_false.place a.first_false.before in
    omega (arith, a.ahead)

pub back_within : (s : PortState) (t : TrailData) (lits : List Literal) (back : ℕ) → IsAsserting s t lits back → IsTrail t → back ≤ t.level
back_within s t lits back a shape = let lt = back_below s t lits back a shape in omega (arith, lt)

pub can_assert : (s : PortState) (t : TrailData) (lits : List Literal) (back : ℕ) → IsAsserting s t lits back → IsTrail t → CanAssert t lits back
can_assert s t lits back a shape = record {
  shape = shape;
  level = back_within s t lits back a shape;
  first = a.first;
  rest = a.rest;
  parts = a.parts;
  on = (shape_high t a.first a.first_false shape);
  free = λ v w. first_has_no_value s t v lits back a shape w;
}
  where
    shape_high : (t : TrailData) (l : Literal) (f : FalseBefore t.steps (length t.steps) l) → IsTrail t → l.var ≤ t.vars
    shape_high t l f shape = (let high = shape.high f.place f.before in let e = ap (λ (k : Literal). k.var) f.false_there in omega arith)
