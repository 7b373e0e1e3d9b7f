-- Lists of places that change their order.
use Rattle.std.proofs.Common.{◌≡◌, ◌∙◌, ℕ, zero, suc, ◌<◌, ◌||◌, Bool, true, false, nat_eq, List, [], ◌∷◌, length, get_or, take, sym, refl, subst, inl, inr, arith}
use Rattle.std.specs.List.{IsDistinct, AllByRecursion}
use Rattle.std.specs.Set.{is_member}
use Rattle.std.specs.List.Sorted.{IsPermutation, IsNonDecreasing}
use Rattle.std.proofs.lemmas.Bool.{cases_lt, or_left, or_right, or_cases, eq-eqb, eqb-true, false≢true}
use Rattle.std.proofs.lemmas.Map.Keys.{IsDistinct-head, IsDistinct-tail}
use Rattle.std.proofs.lemmas.List.Sorted.{IsPermutation-sym, Contains-permutation}
use Rattle.rup_model.proofs.Lists.{In_Contains, Contains_In}
use Rattle.rup_model.proofs.Counting.{In_member, member_In}

pub member_after : (xs ys : List ℕ) (p : ℕ) → IsPermutation xs ys → is_member nat_eq xs p ≡ true → is_member nat_eq ys p ≡ true
member_after xs ys p h y = In_member ys p (Contains_In ys p (Contains-permutation xs ys p h (In_Contains xs p (member_In xs p y))))

-- the same places are listed
pub member_permutation : (xs ys : List ℕ) (p : ℕ) → IsPermutation xs ys → is_member nat_eq xs p ≡ is_member nat_eq ys p
member_permutation xs ys p h = by (is_member nat_eq xs p) (is_member nat_eq ys p) (member_after xs ys p h) (member_after ys xs p (IsPermutation-sym xs ys h))
  where
    by : (a b : Bool) → (a ≡ true → b ≡ true) → (b ≡ true → a ≡ true) → a ≡ b
    by true true f g = refl
    by true false f g = sym (f refl)
    by false true f g = g refl
    by false false f g = refl

pub member_take : (xs : List ℕ) (n p : ℕ) → is_member nat_eq (take n xs) p ≡ true → is_member nat_eq xs p ≡ true
member_take xs zero p y = absurd (false≢true y)
member_take [] (suc n) p y = y
member_take (z ∷ xs) (suc n) p y = elim (or_cases (nat_eq p z) (is_member nat_eq (take n xs) p) y) as (λ _. (nat_eq p z || is_member nat_eq xs p) ≡ true) [
  | inl e ↦ or_left (nat_eq p z) (is_member nat_eq xs p) e
  | inr u ↦ or_right (nat_eq p z) (is_member nat_eq xs p) (member_take xs n p u)
]

-- an element stands at some index
pub place_in : (xs : List ℕ) (p : ℕ) → is_member nat_eq xs p ≡ true → (j : ℕ) × (j < length xs) × (get_or xs j 0 ≡ p)
place_in [] p y = absurd (false≢true y)
place_in (x ∷ xs) p y = elim (or_cases (nat_eq p x) (is_member nat_eq xs p) y) as (λ _. (j : ℕ) × (j < length (x ∷ xs)) × (get_or (x ∷ xs) j 0 ≡ p)) [
  | inl e ↦ (0, omega arith, sym (eqb-true p x e))
  | inr u ↦ (let r = place_in xs p u in let lt = r.1 in (suc r.0, omega arith, r.2))
]

-- what stands at an index below n is among the first n
pub taken_at : (xs : List ℕ) (n j : ℕ) → j < n → j < length xs → is_member nat_eq (take n xs) (get_or xs j 0) ≡ true
taken_at xs zero j a b = absurd (omega arith)
taken_at [] (suc n) j a b = absurd (omega arith)
taken_at (x ∷ xs) (suc n) zero a b = or_left _ _ (eq-eqb x x refl)
taken_at (x ∷ xs) (suc n) (suc j) a b = or_right (nat_eq (get_or xs j 0) x) _ (taken_at xs n j (omega arith) (omega arith))

-- in ascending order a smaller element comes before
pub before_taken : (xs : List ℕ) (i p : ℕ) → IsNonDecreasing xs → i < length xs → is_member nat_eq xs p ≡ true → p < get_or xs i 0 → is_member nat_eq (take i xs) p ≡ true
before_taken xs i p rising lt y low =
    let r = place_in xs p y in
    elim (cases_lt r.0 i) as (λ _. is_member nat_eq (take i xs) p ≡ true) [
      | inl before ↦ subst (λ (q : ℕ). is_member nat_eq (take i xs) q ≡ true) r.2 (taken_at xs i r.0 before r.1)
      | inr behind ↦ absurd (let up = rising i r.0 0 behind r.1 in let e = r.2 in omega arith)
    ]

-- an element of a list without repeats isn't among those before it
pub not_taken : (xs : List ℕ) (i : ℕ) → IsDistinct nat_eq xs → i < length xs → is_member nat_eq (take i xs) (get_or xs i 0) ≡ true → ⊥
not_taken xs zero d lt y = false≢true y
not_taken [] (suc i) d lt y = absurd (omega arith)
not_taken (x ∷ xs) (suc i) d lt y = elim (or_cases (nat_eq (get_or xs i 0) x) (is_member nat_eq (take i xs) (get_or xs i 0)) y) as (λ _. ⊥) [
  | inl e ↦ false≢true (sym (differs xs (IsDistinct-head nat_eq x xs d) i (omega arith)) ∙ eq-eqb x (get_or xs i 0) (sym (eqb-true (get_or xs i 0) x e)))
  | inr u ↦ not_taken xs i (IsDistinct-tail nat_eq x xs d) (omega arith) u
]
  where
    differs : (ys : List ℕ) → AllByRecursion (λ z. nat_eq x z ≡ false) ys → (j : ℕ) → j < length ys → nat_eq x (get_or ys j 0) ≡ false
    differs [] a j l = absurd (omega arith)
    differs (z ∷ ys) a zero l = a.0
    differs (z ∷ ys) a (suc j) l = differs ys a.1 j (omega arith)
