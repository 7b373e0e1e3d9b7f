-- What is true by units and by the trail.
use Rattle.std.proofs.Common.{◌≡◌, ◌⊎◌, inl, inr, ℕ, zero, suc, ◌<◌, ◌||◌, Bool, true, false, List, [], ◌∷◌, ◌++◌, length, refl, sym, ◌∙◌, subst, arith, is_some, Option, Some, None, Contains, IfSome, IfNone}
use Rattle.std.specs.List.{list_any}
use Rattle.std.proofs.lemmas.Bool.{or_left, or_right, or_cases, false≢true}
use Rattle.std.proofs.lemmas.List.Folds.{list_any-append}
use Rattle.sat_words.specs.Literal.{Literal, same}
use Rattle.sat_words.proofs.Members.{same-true, same-refl}
use Rattle.rup_model.proofs.Lists.{In_any, any_In, In_map, map_In, Contains_In, In_Contains}
use Rattle.simp_base.specs.WorkState.{lists, is_only}
use Rattle.simp_base.specs.Tables.{IsUnit, IsUnitNumber}
use Rattle.simp_base.specs.Hinting.{lit_at, TrueBefore, IsTrueBy}
use Rattle.simp_base.specs.Search.{on_trail, true_set}
use Rattle.simp_base.specs.declared.hints.trail.Step.{Step}
use Rattle.simp_base.proofs.TableLemmas.{only_is}

pub unit_true : (cells : List (ℕ × List Literal)) (l : Literal) → IsUnit cells l → list_any (is_only l) (lists cells) ≡ true
unit_true cells l u = any_In (is_only l) (lists cells) (l ∷ []) (In_map (λ (x : ℕ × List Literal). x.1) cells (u.0, l ∷ []) (Contains_In cells (u.0, l ∷ []) u.1)) (same-refl l)

pub true_unit : (cells : List (ℕ × List Literal)) (l : Literal) → list_any (is_only l) (lists cells) ≡ true → IsUnit cells l
true_unit cells l e =
    let a = In_any (is_only l) (lists cells) e in
    let m = map_In (λ (x : ℕ × List Literal). x.1) cells a.0 a.1 in
    (m.0.0, subst (λ c. Contains cells (m.0.0, c)) (m.2 ∙ only_is l a.0 a.2) (In_Contains cells m.0 m.1))

not_true : (b : Bool) → (b ≡ true → ⊥) → b ≡ false
not_true true f = absurd (f refl)
not_true false f = refl

-- whether a unit stands
pub unit_stands : (cells : List (ℕ × List Literal)) (l : Literal) (o : Option ℕ) → IsUnitNumber cells l o → is_some o ≡ list_any (is_only l) (lists cells)
unit_stands cells l (Some n) h = sym (unit_true cells l (n, h))
unit_stands cells l None h = sym (not_true (list_any (is_only l) (lists cells)) (λ e. let u = true_unit cells l e in h u.0 u.1))

pub trail_at : (steps : List Step) (p : ℕ) → p < length steps → on_trail steps (lit_at steps p) ≡ true
trail_at [] p lt = absurd (omega arith)
trail_at (s ∷ ss) zero lt = or_left _ _ (same-refl s.lit)
trail_at (s ∷ ss) (suc p) lt = or_right _ _ (trail_at ss p (omega arith))

pub trail_place : (steps : List Step) (l : Literal) → on_trail steps l ≡ true → TrueBefore steps (length steps) l
trail_place [] l e = absurd (false≢true e)
trail_place (s ∷ ss) l e = elim (or_cases (same s.lit l) (on_trail ss l) e) as (λ _. TrueBefore (s ∷ ss) (length (s ∷ ss)) l) [
  | inl h ↦ record { place = 0; before = omega arith; true_there = same-true s.lit l h }
  | inr h ↦ (let t = trail_place ss l h in let b = t.before in record { place = suc t.place; before = omega arith; true_there = t.true_there })
]

-- whether the literal stands on the trail
pub stands_there : (steps : List Step) (l : Literal) (p : ℕ) → p < length steps → lit_at steps p ≡ l → on_trail steps l ≡ true
stands_there steps l p lt e = subst (λ k. on_trail steps k ≡ true) e (trail_at steps p lt)

pub stands_nowhere : (steps : List Step) (l : Literal) → ((p : ℕ) → p < length steps → lit_at steps p ≡ l → ⊥) → on_trail steps l ≡ false
stands_nowhere steps l none = not_true (on_trail steps l) (λ e. let t = trail_place steps l e in none t.place t.before t.true_there)

pub place_stands : (steps : List Step) (l : Literal) (o : Option ℕ) → IfSome o (λ p. (p < length steps) × (lit_at steps p ≡ l)) → IfNone o ((p : ℕ) → p < length steps → lit_at steps p ≡ l → ⊥)
    → is_some o ≡ on_trail steps l
place_stands steps l (Some p) h none = sym (stands_there steps l p h.0 h.1)
place_stands steps l None h none = sym (stands_nowhere steps l none)

module _ (cells : List (ℕ × List Literal)) (steps : List Step) where
  pub true_by : (l : Literal) → true_set cells steps l ≡ true → IsTrueBy cells steps (length steps) l
  true_by l e = elim (or_cases (list_any (is_only l) (lists cells)) (on_trail steps l) e) as (λ _. IsTrueBy cells steps (length steps) l) [
    | inl h ↦ inl (true_unit cells l h)
    | inr h ↦ inr (trail_place steps l h)
  ]

  pub by_unit : (l : Literal) → IsUnit cells l → true_set cells steps l ≡ true
  by_unit l u = or_left _ _ (unit_true cells l u)

  pub by_place : (l : Literal) (p : ℕ) → p < length steps → lit_at steps p ≡ l → true_set cells steps l ≡ true
  by_place l p lt e = or_right _ _ (stands_there steps l p lt e)

  -- one step more
  module _ (s : Step) where
    came_on : (l : Literal) → on_trail (steps ++ s ∷ []) l ≡ (on_trail steps l || (same s.lit l || false))
    came_on l = list_any-append (λ (x : Step). same x.lit l) steps (s ∷ [])

    pub grown : (l : Literal) → true_set cells steps l ≡ true → true_set cells (steps ++ s ∷ []) l ≡ true
    grown l e = elim (or_cases (list_any (is_only l) (lists cells)) (on_trail steps l) e) as (λ _. true_set cells (steps ++ s ∷ []) l ≡ true) [
      | inl h ↦ or_left _ _ h
      | inr h ↦ or_right _ _ (came_on l ∙ or_left _ _ h)
    ]

    pub new_true : true_set cells (steps ++ s ∷ []) s.lit ≡ true
    new_true = or_right _ _ (came_on s.lit ∙ or_right _ _ (or_left _ _ (same-refl s.lit)))

    pub came : (l : Literal) → true_set cells (steps ++ s ∷ []) l ≡ true → (true_set cells steps l ≡ true) ⊎ (s.lit ≡ l)
    came l e = elim (or_cases (list_any (is_only l) (lists cells)) (on_trail (steps ++ s ∷ []) l) e) as (λ _. (true_set cells steps l ≡ true) ⊎ (s.lit ≡ l)) [
      | inl h ↦ inl (or_left _ _ h)
      | inr h ↦ elim (or_cases (on_trail steps l) (same s.lit l || false) (sym (came_on l) ∙ h)) as (λ _. (true_set cells steps l ≡ true) ⊎ (s.lit ≡ l)) [
        | inl o ↦ inl (or_right _ _ o)
        | inr n ↦ elim (or_cases (same s.lit l) false n) as (λ _. (true_set cells steps l ≡ true) ⊎ (s.lit ≡ l)) [
          | inl q ↦ inr (same-true s.lit l q)
          | inr q ↦ absurd (false≢true q)
        ]
      ]
    ]

    -- what isn't true and doesn't come isn't true
    pub still_open : (l : Literal) → true_set cells steps l ≡ false → (s.lit ≡ l → ⊥) → true_set cells (steps ++ s ∷ []) l ≡ false
    still_open l f ne = not_true (true_set cells (steps ++ s ∷ []) l) (λ e. elim (came l e) as (λ _. ⊥) [ inl t ↦ false≢true (sym f ∙ t) | inr q ↦ ne q ])
