-- The negations of a clause's literals on a trail.
use Rattle.std.proofs.Common.{◌≡◌, ◌⊎◌, inl, inr, ℕ, ◌+◌, ◌<◌, true, false, List, [], ◌∷◌, ◌++◌, length, map, take, get_or, refl, sym, ap, ◌∙◌, subst, arith, Some, None}
use Rattle.std.proofs.lemmas.Bool.{false≢true}
use Rattle.std.proofs.lemmas.List.{take_more}
use Rattle.sat_words.specs.Literal.{Literal, opposite}
use Rattle.sat_words.specs.Clause.{has, has_opposites}
use Rattle.sat_words.proofs.Members.{opposite-opposite}
use Rattle.rup_model.proofs.Lists.{In, any_In, In_append, In_append_left, In_append_right, has_In, In_has, In_map, map_In}
use Rattle.simp_base.specs.Hinting.{lit_at, reason_at, TrueBefore, IsTrail}
use Rattle.simp_base.specs.declared.hints.trail.Step.{Step}
use Rattle.simp_base.proofs.TrailTables.{step_before, step_last, one_longer, before_or_last}
use Rattle.simp_base.proofs.GoingOn.{one_or_opposite}

pub record Assumed (steps : List Step) (ls : List Literal) : Type 0 where
  pub none : (p : ℕ) → p < length steps → reason_at steps p ≡ None
  pub given : (p : ℕ) → p < length steps → has ls (opposite (lit_at steps p)) ≡ true
  pub all : (l : Literal) → has ls l ≡ true → TrueBefore steps (length steps) (opposite l)
  pub once : (p q : ℕ) → p < length steps → q < length steps → lit_at steps p ≡ lit_at steps q → p ≡ q

pub assumed_none : Assumed [] []
assumed_none = record {
  none = λ p lt. absurd (omega arith);
  given = λ p lt. absurd (omega arith);
  all = λ l h. absurd (false≢true h);
  once = λ p q a b e. absurd (omega arith);
}

has_apart : (ls : List Literal) (l k : Literal) → has (ls ++ l ∷ []) k ≡ true → (has ls k ≡ true) ⊎ (l ≡ k)
has_apart ls l k h = elim (In_append ls (l ∷ []) k (has_In (ls ++ l ∷ []) k h)) as (λ _. (has ls k ≡ true) ⊎ (l ≡ k)) [
  | inl i ↦ inl (In_has ls k i)
  | inr i ↦ inr (one i)
]
  where
    one : In k (l ∷ []) → l ≡ k
    one (inl e) = e
    one (inr i) = absurd i

has_more : (ls : List Literal) (l k : Literal) → has ls k ≡ true → has (ls ++ l ∷ []) k ≡ true
has_more ls l k h = In_has (ls ++ l ∷ []) k (In_append_left ls (l ∷ []) k (has_In ls k h))

has_new : (ls : List Literal) (l : Literal) → has (ls ++ l ∷ []) l ≡ true
has_new ls l = In_has (ls ++ l ∷ []) l (In_append_right ls (l ∷ []) l (inl refl))

module _ (steps : List Step) (ls : List Literal) (a : Assumed steps ls) (l : Literal) where
  -- it stands there already
  assumed_there : TrueBefore steps (length steps) (opposite l) → Assumed steps (ls ++ l ∷ [])
  assumed_there t = record {
    none = a.none;
    given = λ p lt. has_more ls l (opposite (lit_at steps p)) (a.given p lt);
    all = λ k h. elim (has_apart ls l k h) as (λ _. TrueBefore steps (length steps) (opposite k)) [
      | inl i ↦ a.all k i
      | inr e ↦ subst (λ j. TrueBefore steps (length steps) (opposite j)) e t
    ];
    once = a.once;
  }

  module _ (s : Step) (lit : s.lit ≡ opposite l) (reason : s.reason ≡ None) (free : (p : ℕ) → p < length steps → lit_at steps p ≡ opposite l → ⊥) where
    lit_before : (p : ℕ) → p < length steps → lit_at (steps ++ s ∷ []) p ≡ lit_at steps p
    lit_before p lt = ap (λ (x : Step). x.lit) (step_before steps s p lt)

    lit_last : (p : ℕ) → p ≡ length steps → lit_at (steps ++ s ∷ []) p ≡ opposite l
    lit_last p e = ap (λ j. lit_at (steps ++ s ∷ []) j) e ∙ ap (λ (x : Step). x.lit) (step_last steps s) ∙ lit

    none_more : (p : ℕ) → (p < length steps) ⊎ (p ≡ length steps) → reason_at (steps ++ s ∷ []) p ≡ None
    none_more p (inl lt) = ap (λ (x : Step). x.reason) (step_before steps s p lt) ∙ a.none p lt
    none_more p (inr e) = ap (λ j. reason_at (steps ++ s ∷ []) j) e ∙ ap (λ (x : Step). x.reason) (step_last steps s) ∙ reason

    given_more : (p : ℕ) → (p < length steps) ⊎ (p ≡ length steps) → has (ls ++ l ∷ []) (opposite (lit_at (steps ++ s ∷ []) p)) ≡ true
    given_more p (inl lt) = ap (λ k. has (ls ++ l ∷ []) (opposite k)) (lit_before p lt) ∙ has_more ls l (opposite (lit_at steps p)) (a.given p lt)
    given_more p (inr e) = ap (λ k. has (ls ++ l ∷ []) (opposite k)) (lit_last p e) ∙ ap (has (ls ++ l ∷ [])) (opposite-opposite l) ∙ has_new ls l

    all_more : (k : Literal) → (has ls k ≡ true) ⊎ (l ≡ k) → TrueBefore (steps ++ s ∷ []) (length (steps ++ s ∷ [])) (opposite k)
    all_more k (inl i) = let t = a.all k i in let b = t.before in let n = one_longer steps s in
        record { place = t.place; before = omega arith; true_there = lit_before t.place t.before ∙ t.true_there }
    all_more k (inr e) = let n = one_longer steps s in
        record { place = length steps; before = omega arith; true_there = lit_last (length steps) refl ∙ ap opposite e }

    once_more : (p q : ℕ) → (p < length steps) ⊎ (p ≡ length steps) → (q < length steps) ⊎ (q ≡ length steps) → lit_at (steps ++ s ∷ []) p ≡ lit_at (steps ++ s ∷ []) q → p ≡ q
    once_more p q (inl x) (inl y) e = a.once p q x y (sym (lit_before p x) ∙ e ∙ lit_before q y)
    once_more p q (inl x) (inr y) e = absurd (free p x (sym (lit_before p x) ∙ e ∙ lit_last q y))
    once_more p q (inr x) (inl y) e = absurd (free q y (sym (lit_before q y) ∙ sym e ∙ lit_last p x))
    once_more p q (inr x) (inr y) e = x ∙ sym y

    assumed_new : Assumed (steps ++ s ∷ []) (ls ++ l ∷ [])
    assumed_new = record {
      none = λ p lt. none_more p (before_or_last steps s p lt);
      given = λ p lt. given_more p (before_or_last steps s p lt);
      all = λ k h. all_more k (has_apart ls l k h);
      once = λ p q x y e. once_more p q (before_or_last steps s p x) (before_or_last steps s q y) e;
    }

-- the next literal of a list
module _ (steps : List Step) (lits : List Literal) (i : ℕ) (l : Literal) (lt : i < length lits) (is : l ≡ get_or lits i l) (a : Assumed steps (take i lits)) where
  one_on : take (i + 1) lits ≡ take i lits ++ l ∷ []
  one_on = take_more lits i l lt ∙ ap (λ x. take i lits ++ x ∷ []) (sym is)

  pub next_there : TrueBefore steps (length steps) (opposite l) → Assumed steps (take (i + 1) lits)
  next_there t = subst (Assumed steps) (sym one_on) (assumed_there steps (take i lits) a l t)

  pub next_new : (s : Step) → s.lit ≡ opposite l → s.reason ≡ None → ((p : ℕ) → p < length steps → lit_at steps p ≡ opposite l → ⊥) → Assumed (steps ++ s ∷ []) (take (i + 1) lits)
  next_new s e r free = subst (Assumed (steps ++ s ∷ [])) (sym one_on) (assumed_new steps (take i lits) a l s e r free)

-- so the negations are a trail
pub assumed_trail : (steps : List Step) (lits : List Literal) → Assumed steps lits → has_opposites lits ≡ false → (cells : List (ℕ × List Literal)) → IsTrail cells (has (map opposite lits)) steps
assumed_trail steps lits a none cells = record {
  given = λ p lt e. In_has (map opposite lits) (lit_at steps p)
      (subst (λ k. In k (map opposite lits)) (opposite-opposite (lit_at steps p)) (In_map opposite lits (opposite (lit_at steps p)) (has_In lits (opposite (lit_at steps p)) (a.given p lt))));
  all = λ l h. (let m = map_In opposite lits l (has_In (map opposite lits) l h) in let t = a.all m.0 (In_has lits m.0 m.1) in (t.place, t.before, a.none t.place t.before, t.true_there ∙ m.2));
  up = λ p n lt e. absurd (no_reason p n lt e);
  apart = λ p n lt e. absurd (no_reason p n lt e);
  distinct = λ p q x y e. elim (one_or_opposite (lit_at steps p) (lit_at steps q) e) as (λ _. p ≡ q) [
    | inl s ↦ a.once p q x y s
    | inr o ↦ absurd (false≢true (sym none ∙ any_In (λ l. has lits (opposite l)) lits (lit_at steps p)
        (subst (λ k. In k lits) (sym o) (has_In lits (opposite (lit_at steps q)) (a.given q y))) (a.given p x)))
  ];
}
  where
    no_reason : (p n : ℕ) → p < length steps → reason_at steps p ≡ Some n → ⊥
    no_reason p n lt e = let z : None ≡ Some n = sym (a.none p lt) ∙ e in absurd (cc)
