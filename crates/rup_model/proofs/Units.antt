-- Clauses with two literals or more, and unit clauses.
use Rattle.std.proofs.Common.{◌≡◌, ◌≤◌, Bool, true, false, not, ◌&&◌, ◌||◌, List, [], ◌∷◌, length, sym, refl, ap, ◌∙◌, subst, inl, inr, arith}
use Rattle.std.specs.List.{list_any, list_all}
use Rattle.std.proofs.lemmas.Bool.{and_parts, and_from, cases_Bool, true≢false}
use Rattle.sat_words.specs.Literal.{Literal, same}
use Rattle.sat_words.specs.Clause.{has, distinct_lits, same_set, just_one, two_or_more}
use Rattle.sat_words.proofs.Members.{same-true, same-refl}
use Rattle.rup_model.specs.Opening.{IsLong}
use Rattle.rup_model.proofs.Lists.{In, has_In, In_has, In_all, all_In}
use Rattle.rup_model.proofs.Covers.{same_back, same_chain}

pub two_more : (c : List Literal) → two_or_more c ≡ true → not (just_one c) ≡ true
two_more [] h = absurd (true≢false (sym h))
two_more (l ∷ c) h = h

pub long_two : (c : List Literal) → IsLong c → two_or_more c ≡ true
long_two [] h = absurd (let q = h.long in omega arith)
long_two (l ∷ []) h = absurd (let q = h.long in omega arith)
long_two (l ∷ k ∷ c) h = by (same l k) (list_all (same l) c) (list_any (same l) c) (and_parts (not (same l k || list_any (same l) c)) (distinct_lits (k ∷ c)) h.distinct).0
  where
    by : (x y z : Bool) → not (x || z) ≡ true → not (x && y) ≡ true
    by true y z e = absurd (true≢false (sym e))
    by false y z e = refl

pub two_long : (c : List Literal) → two_or_more c ≡ true → 2 ≤ length c
two_long [] h = absurd (true≢false (sym h))
two_long (l ∷ []) h = absurd (true≢false (sym h))
two_long (l ∷ k ∷ c) h = omega arith

-- a clause with the literals of a unit has one literal
pub unit_one : (l : Literal) (c : List Literal) → same_set (l ∷ []) c ≡ true → just_one c ≡ true
unit_one l [] s = absurd (true≢false (sym (and_parts (list_all (has (l ∷ [])) []) (list_all (has []) (l ∷ [])) s).1))
unit_one l (k ∷ c) s = In_all (same k) c (λ m i. subst (λ (x : Literal). same k x ≡ true) (one k (inl refl) ∙ sym (one m (inr i))) (same-refl k))
  where
    one : (m : Literal) → In m (k ∷ c) → m ≡ l
    one m i = only (has_In (l ∷ []) m (all_In (has (l ∷ [])) (k ∷ c) m (and_parts (list_all (has (l ∷ [])) (k ∷ c)) (list_all (has (k ∷ c)) (l ∷ [])) s).0 i))
      where
        only : In m (l ∷ []) → m ≡ l
        only (inl e) = sym e
        only (inr none) = absurd none

pub unit_short : (l : Literal) (c : List Literal) → same_set (l ∷ []) c ≡ true → two_or_more c ≡ false
unit_short l [] s = refl
unit_short l (k ∷ c) s = ap not (unit_one l (k ∷ c) s)

-- one literal, however often, is a unit
pub one_unit : (l : Literal) (c : List Literal) → list_all (same l) c ≡ true → same_set (l ∷ []) (l ∷ c) ≡ true
one_unit l c all = and_from _ _
    (and_from _ _ (In_has (l ∷ []) l (inl refl)) (In_all (has (l ∷ [])) c (λ m i. In_has (l ∷ []) m (inl (same-true l m (all_In (same l) c m all i))))))
    (and_from _ _ (In_has (l ∷ c) l (inl refl)) refl)

-- a clause with the literals of one of two or more has two or more
pub two_same : (c d : List Literal) → same_set c d ≡ true → two_or_more c ≡ true → two_or_more d ≡ true
two_same [] d s two = absurd (true≢false (sym two))
two_same (k ∷ c) [] s two = absurd (true≢false (sym (and_parts (list_all (has (k ∷ c)) []) (list_all (has []) (k ∷ c)) s).1))
two_same (k ∷ c) (l ∷ d) s two = elim (cases_Bool (list_all (same l) d)) as (λ _. two_or_more (l ∷ d) ≡ true) [
  | inl all ↦ absurd (true≢false (sym two ∙ unit_short l (k ∷ c) (same_chain (l ∷ []) (l ∷ d) (k ∷ c) (one_unit l d all) (same_back (k ∷ c) (l ∷ d) s))))
  | inr e ↦ ap not e
]
