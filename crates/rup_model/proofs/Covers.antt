-- Lists with the same literals, and RUP over clauses that have the same sets among them.
use Rattle.std.proofs.Common.{◌≡◌, Bool, true, false, ◌||◌, List, [], ◌∷◌, sym, refl, subst, ◌∙◌, inl, inr, map}
use Rattle.std.specs.List.{list_any, list_all}
use Rattle.std.proofs.lemmas.Bool.{or_left, or_right, or_cases, and_parts, and_from, cases_Bool, true≢false}
use Rattle.sat_words.specs.Literal.{Literal, opposite, same}
use Rattle.sat_words.specs.Clause.{has, has_opposites, same_set}
use Rattle.sat_words.proofs.Members.{opposite-opposite}
use Rattle.rup_model.specs.Rounds.{falsifies, forces, round, Rounds}
use Rattle.rup_model.specs.Rup.{conflicts, rup}
use Rattle.rup_model.proofs.Lists.{In, In_any, none_In, has_In, In_has, all_In, In_all}
use Rattle.rup_model.proofs.RoundsLemmas.{falsifies-Within, forces-parts}
use Rattle.rup_model.proofs.Closed.{Rounds-step, Rounds-has, Rounds-least}

-- Sets

pub both_true : (x y : Bool) → (x ≡ true → y ≡ true) → (y ≡ true → x ≡ true) → x ≡ y
both_true true y f g = sym (f refl)
both_true false true f g = g refl
both_true false false f g = refl

-- a test of all members depends on the members alone
pub all_same : (p : Literal → Bool) (c d : List Literal) → same_set c d ≡ true → list_all p c ≡ true → list_all p d ≡ true
all_same p c d s h = In_all p d (λ l inD. all_In p c l h (has_In c l (all_In (has c) d l (and_parts (list_all (has c) d) (list_all (has d) c) s).0 inD)))

pub has_same : (c d : List Literal) (l : Literal) → same_set c d ≡ true → has c l ≡ true → has d l ≡ true
has_same c d l s h = all_In (has d) c l (and_parts (list_all (has c) d) (list_all (has d) c) s).1 (has_In c l h)

pub same_back : (c d : List Literal) → same_set c d ≡ true → same_set d c ≡ true
same_back c d s = let p = and_parts (list_all (has c) d) (list_all (has d) c) s in and_from _ _ p.1 p.0

pub same_self : (c : List Literal) → same_set c c ≡ true
same_self c = let a = In_all (has c) c (λ l i. In_has c l i) in and_from _ _ a a

pub same_chain : (c d e : List Literal) → same_set c d ≡ true → same_set d e ≡ true → same_set c e ≡ true
same_chain c d e s t = and_from _ _
    (In_all (has c) e (λ l i. has_same d c l (same_back c d s) (has_same e d l (same_back d e t) (In_has e l i))))
    (In_all (has e) c (λ l i. has_same d e l t (has_same c d l s (In_has c l i))))

pub same_has : (c d : List Literal) → same_set c d ≡ true → (l : Literal) → has c l ≡ has d l
same_has c d s l = both_true _ _ (has_same c d l s) (has_same d c l (same_back c d s))

pub same_as : (c d e : List Literal) → same_set d e ≡ true → same_set c d ≡ same_set c e
same_as c d e s = both_true _ _ (λ h. same_chain c d e h s) (λ h. same_chain c e d h (same_back d e s))

-- RUP

-- each clause of the first has one with the same literals in the second
abbrev pub Covered : List (List Literal) → List (List Literal) → Type 0
Covered G H = (c : List Literal) → In c G → (d : List Literal) × In d H × (same_set c d ≡ true)

pub conflicts_covered : (G H : List (List Literal)) (A : List Literal) → Covered G H → conflicts G A ≡ true → conflicts H A ≡ true
unfolding conflicts
conflicts_covered G H A cover bad =
    elim (cases_Bool (conflicts H A)) as (λ _. conflicts H A ≡ true) [
      | inl e ↦ e
      | inr quiet ↦ (
          let none : (c : List Literal) → In c G → falsifies (Rounds H A) c ≡ false = λ c h.
          elim (cases_Bool (falsifies (Rounds H A) c)) as (λ _. falsifies (Rounds H A) c ≡ false) [
            | inl e ↦ (let d = cover c h in absurd (true≢false (sym (all_same (λ k. Rounds H A (opposite k)) c d.0 d.2 e) ∙ none_In (falsifies (Rounds H A)) H d.0 quiet d.1)))
            | inr f ↦ f
          ] in
          let closed : (l : Literal) → round G (Rounds H A) l ≡ true → Rounds H A l ≡ true = λ l r.
          elim (or_cases (Rounds H A l) (list_any (forces (Rounds H A) l) G) r) as (λ _. Rounds H A l ≡ true) [
            | inl e ↦ e
            | inr f ↦ (let c = In_any (forces (Rounds H A) l) G f in
                let d = cover c.0 c.1 in
                let parts = forces-parts (Rounds H A) l c.0 c.2 in
                Rounds-step H A (Rounds H A) d.0 l quiet (λ m h. h) d.1 (has_same c.0 d.0 l d.2 parts.0) (all_same (λ k. same l k || Rounds H A (opposite k)) c.0 d.0 d.2 parts.2))
          ] in
          let c = In_any (falsifies (Rounds G A)) G bad in
          let wide = Rounds-least G A (Rounds H A) (Rounds-has H A) none closed in
          absurd (true≢false (sym (falsifies-Within (Rounds G A) (Rounds H A) wide c.0 c.2) ∙ none c.0 c.1)))
    ]

pub rup_covered : (G H : List (List Literal)) (c : List Literal) → Covered G H → rup G c ≡ true → rup H c ≡ true
unfolding rup
rup_covered G H c cover r =
    elim (or_cases (has_opposites c) (conflicts G (map opposite c)) r) as (λ _. rup H c ≡ true) [
      | inl o ↦ or_left _ _ o
      | inr f ↦ or_right _ _ (conflicts_covered G H (map opposite c) cover f)
    ]

-- a conflict under some literals shows that one of them is false
pub rup_from_conflict : (G : List (List Literal)) (A : List Literal) → conflicts G A ≡ true → rup G (map opposite A) ≡ true
unfolding rup
rup_from_conflict G A bad = or_right _ _ (subst (λ (B : List Literal). conflicts G B ≡ true) (sym (back A)) bad)
  where
    back : (B : List Literal) → map opposite (map opposite B) ≡ B
    back [] = refl
    back (l ∷ B) = λ i. opposite-opposite l i ∷ back B i
