-- Hints by units alone.
use Rattle.std.proofs.Common.{◌≡◌, inl, inr, ℕ, Bool, true, false, List, [], ◌∷◌, map, refl, sym, ap, ◌∙◌, subst, Contains}
use Rattle.std.proofs.lemmas.Bool.{or_left, or_cases, false≢true}
use Rattle.sat_words.specs.Literal.{Literal, opposite, same}
use Rattle.sat_words.specs.Clause.{has}
use Rattle.sat_words.proofs.Members.{same-true, same-refl, opposite-opposite}
use Rattle.rup_model.specs.Hints.{numbered, with_lit, hinted}
use Rattle.rup_model.proofs.Hinting.{hint_last, hint_first}
use Rattle.rup_model.proofs.Lists.{has_In, In_has, In_map, map_In}
use Rattle.simp_base.specs.WorkState.{HaveOwnNumbers}
use Rattle.simp_base.specs.Tables.{IsUnit}
use Rattle.simp_base.specs.Hinting.{IsStart}
use Rattle.simp_base.proofs.Needing.{numbered_is}

not_true : (b : Bool) → (b ≡ true → ⊥) → b ≡ false
not_true true f = absurd (f refl)
not_true false f = refl

only_lit : (l k : Literal) → has (l ∷ []) k ≡ true → k ≡ l
only_lit l k h = elim (or_cases (same k l) false h) as (λ _. k ≡ l) [ inl s ↦ same-true k l s | inr f ↦ absurd (false≢true f) ]

negation_in : (lits : List Literal) (l : Literal) → has lits l ≡ true → has (map opposite lits) (opposite l) ≡ true
negation_in lits l h = In_has (map opposite lits) (opposite l) (In_map opposite lits l (has_In lits l h))

in_negations : (lits : List Literal) (l : Literal) → has (map opposite lits) (opposite l) ≡ true → has lits l ≡ true
in_negations lits l h =
    let m = map_In opposite lits (opposite l) (has_In (map opposite lits) (opposite l) h) in
    let e : m.0 ≡ l = sym (opposite-opposite m.0) ∙ ap opposite m.2 ∙ opposite-opposite l in
    ap (has lits) (sym e) ∙ In_has lits m.0 m.1

module _ (cells : List (ℕ × List Literal)) (own : HaveOwnNumbers cells) (lits : List Literal) where
  -- a unit among the literals
  pub unit_hints : (n : ℕ) (l : Literal) → has lits l ≡ true → Contains cells (n, l ∷ []) → hinted (numbered cells) lits (n ∷ []) ≡ true
  unit_hints n l h there = hint_last (numbered cells) (has (map opposite lits)) n (l ∷ []) (numbered_is cells own n (l ∷ []) there)
      (λ k i. ap (λ (x : Literal). has (map opposite lits) (opposite x)) (only_lit l k i) ∙ negation_in lits l h)

  module _ (none : (l : Literal) → has lits l ≡ true → IsUnit cells l → ⊥) where
    not_given : (l : Literal) → IsUnit cells l → has (map opposite lits) (opposite l) ≡ false
    not_given l u = not_true (has (map opposite lits) (opposite l)) (λ h. none l (in_negations lits l h) u)

    pub starts : ((l : Literal) → IsUnit cells l → IsUnit cells (opposite l) → ⊥) → IsStart cells (has (map opposite lits))
    starts agree = record { agree = agree; open_yet = not_given }

    -- two opposite units
    pub clash_hints : (n m : ℕ) (l : Literal) → Contains cells (n, l ∷ []) → Contains cells (m, opposite l ∷ []) → hinted (numbered cells) lits (n ∷ m ∷ []) ≡ true
    clash_hints n m l first second =
        let A : Literal → Bool = has (map opposite lits) in
        hint_first (numbered cells) A n m [] (l ∷ []) l (numbered_is cells own n (l ∷ []) first) (or_left _ _ (same-refl l)) (λ k i. inl (only_lit l k i))
        (ap A (sym (opposite-opposite l)) ∙ not_given (opposite l) (m, second))
        (not_given l (n, first))
        (hint_last (numbered cells) (with_lit l A) m (opposite l ∷ []) (numbered_is cells own m (opposite l ∷ []) second)
        (λ k i. or_left _ _ (subst (λ (x : Literal). same x l ≡ true) (sym (ap opposite (only_lit (opposite l) k i) ∙ opposite-opposite l)) (same-refl l))))
