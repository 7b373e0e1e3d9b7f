-- The clauses with the literals of a list and one more, as far as they were looked for.
use Rattle.std.proofs.Common.{◌≡◌, ◌∙◌, ℕ, true, false, List, [], ◌∷◌, ◌++◌, Option, Some, None, sym, subst, ⊎_elim, Contains}
use Rattle.std.proofs.lemmas.Bool.{or_left, or_right, or_cases, true≢false}
use Rattle.std.proofs.lemmas.List.Elements.{Contains-append_left, Contains-push, Contains-push_cases}
use Rattle.sat_words.specs.Literal.{Literal, same}
use Rattle.sat_words.proofs.Members.{same-true, same-refl}
use Rattle.sat_words.specs.Clause.{has, same_set, InOrder}
use Rattle.sat_words.proofs.Insertion.{same_set_from}
use Rattle.rup_model.proofs.Covers.{same_has}
use Rattle.rup_model.proofs.Lists.{Contains_In}
use Rattle.simp_base.specs.WorkState.{WorkState, IsWork}
use Rattle.simp_base.proofs.Removal.{same_number}
use Rattle.simp_add.specs.declared.alike.Alike.{Alike}
use Rattle.simp_add.specs.Alike.{one_more, IsAlike, AreAlike, Listed}
use Rattle.simp_add.proofs.OneMore.{members, is_new, is_found}

pub listed_none : (w : WorkState) (C : List Literal) → Listed w C [] []
listed_none w C = record { sound = λ a h. absurd (Contains_In [] a h); every = λ n d j h. absurd (Contains_In [] n h) }

pub listed_not : (w : WorkState) (C : List Literal) (numbers : List ℕ) (found : List Alike) (n : ℕ) → IsAlike w C n None → Listed w C numbers found → Listed w C (numbers ++ n ∷ []) found
listed_not w C numbers found n none t = record {
  sound = t.sound;
  every = λ m d j h i free s. ⊎_elim
      (λ (q : Contains numbers m). t.every m d j q i free s)
      (λ (e : n ≡ m). absurd (none d j (subst (λ (y : ℕ). Contains w.clauses (y, d)) (sym e) i) free s))
      (Contains-push_cases numbers n m h);
}

-- a clause has no two literals more
one_lit : (C d : List Literal) (j k : Literal) → has C j ≡ false → same_set (j ∷ C) d ≡ true → same_set (k ∷ C) d ≡ true → j ≡ k
one_lit C d j k free s t = ⊎_elim
    (λ (e : same j k ≡ true). same-true j k e)
    (λ (h : has C j ≡ true). absurd (true≢false (sym h ∙ free)))
    (or_cases (same j k) (has C j) (same_has (k ∷ C) d t j ∙ sym (same_has (j ∷ C) d s j) ∙ or_left _ _ (same-refl j)))

pub listed_one : (w : WorkState) → IsWork w → (C : List Literal) (numbers : List ℕ) (found : List Alike) (n : ℕ) (k : Literal) → IsAlike w C n (Some k) → Listed w C numbers found → Listed w C (numbers ++ n ∷ []) (found ++ record { lit = k; number = n } ∷ [])
listed_one w kept C numbers found n k one t = record {
  sound = λ a h. ⊎_elim (λ (i : Contains found a). t.sound a i) (λ (e : record { lit = k; number = n } ≡ a). subst (λ (b : Alike). IsAlike w C b.number (Some b.lit)) e one) (Contains-push_cases found (record { lit = k; number = n }) a h);
  every = λ m d j h i free s. ⊎_elim
      (λ (q : Contains numbers m). Contains-append_left found (record { lit = k; number = n } ∷ []) (record { lit = j; number = m }) (t.every m d j q i free s))
      (λ (e : n ≡ m). (
      let is : d ≡ one.0 = same_number w.clauses kept.numbers m d one.0 i (subst (λ (y : ℕ). Contains w.clauses (y, one.0)) e one.1) in
      let lit : j ≡ k = one_lit C d j k free s (subst (λ (c : List Literal). same_set (k ∷ C) c ≡ true) (sym is) one.3) in
      subst (λ (b : Alike). Contains (found ++ record { lit = k; number = n } ∷ []) b) (λ z. record { lit = sym lit z; number = e z }) (Contains-push found (record { lit = k; number = n }))))
      (Contains-push_cases numbers n m h);
}

pub listed_all : (w : WorkState) (C : List Literal) (numbers : List ℕ) (found : List Alike) (rare : Literal) → has C rare ≡ true → ((n : ℕ) (d : List Literal) → Contains w.clauses (n, d) → has d rare ≡ true → Contains numbers n) → Listed w C numbers found → AreAlike w C found
listed_all w C numbers found rare h every t = record {
  sound = t.sound;
  every = λ n d j i free s. t.every n d j (every n d i (sym (same_has (j ∷ C) d s rare) ∙ or_right _ _ h)) i free s;
}

-- one clause
pub alike_none : (w : WorkState) (C : List Literal) (n : ℕ) → ((c : List Literal) → Contains w.clauses (n, c) → ⊥) → IsAlike w C n None
alike_none w C n none = λ d j i free s. none d i

pub alike_by : (w : WorkState) → IsWork w → (C : List Literal) (n : ℕ) (d : List Literal) → Contains w.clauses (n, d) → InOrder C → InOrder d → (o : Option Literal) → o ≡ one_more C d → IsAlike w C n o
alike_by w kept C n d i oc od (Some j) e = (d, i, is_new C d j od (sym e), same_set_from (j ∷ C) d (λ m. sym (members C d j (sym e) m)))
alike_by w kept C n d i oc od None e = λ c j k free s.
    let is : c ≡ d = same_number w.clauses kept.numbers n c d k i in
    let some : one_more C d ≡ Some j = is_found C d j oc od free (subst (λ (x : List Literal). same_set (j ∷ C) x ≡ true) is s) in
    let no : None ≡ Some j = e ∙ some in
    let z : ⊥ = cc in z
