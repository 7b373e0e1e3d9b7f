-- How many elements pass a test.
use Rattle.std.proofs.Common.{◌≡◌, ◌∙◌, ℕ, zero, suc, ◌<◌, ◌≤◌, ◌-◌, Bool, true, false, cond, List, [], ◌∷◌, length, get_or, sym, refl, ap, arith}
use Rattle.std.specs.List.{filter}
use Rattle.std.specs.List.Sorted.{IsPermutation}
use Rattle.std.proofs.lemmas.List.Sums.{length-filter}
use Rattle.std.proofs.lemmas.List.Sorted.{sum_by-IsPermutation}

-- a permutation has as many that do
pub passes_alike : {X : Type 0} (p : X → Bool) (xs ys : List X) → IsPermutation xs ys → length (filter p ys) ≡ length (filter p xs)
passes_alike p xs ys m = length-filter p ys ∙ sum_by-IsPermutation (λ x. cond (p x) 1 0) xs ys m ∙ sym (length-filter p xs)

pub filter_yes : {X : Type 0} (p : X → Bool) (x : X) (xs : List X) → p x ≡ true → filter p (x ∷ xs) ≡ x ∷ filter p xs
filter_yes p x xs e = ap (λ (b : Bool). cond b (x ∷ filter p xs) (filter p xs)) e

pub filter_no : {X : Type 0} (p : X → Bool) (x : X) (xs : List X) → p x ≡ false → filter p (x ∷ xs) ≡ filter p xs
filter_no p x xs e = ap (λ (b : Bool). cond b (x ∷ filter p xs) (filter p xs)) e

-- exactly those from a place on do
pub from_place : {X : Type 0} (p : X → Bool) (xs : List X) (k : ℕ) → ((j : ℕ) (d : X) → j < k → j < length xs → p (get_or xs j d) ≡ false) → ((j : ℕ) (d : X) → k ≤ j → j < length xs → p (get_or xs j d) ≡ true)
    → length (filter p xs) ≡ length xs - k
from_place p [] k before after = sym (omega arith)
from_place p (x ∷ xs) zero before after =
    let e = ap (λ (ys : List _). length ys) (filter_yes p x xs (after 0 x (omega arith) (omega arith))) in
    let r = from_place p xs zero (λ j d lt in'. absurd (omega arith)) (λ j d le lt. after (suc j) d (omega arith) (omega arith)) in
    omega arith
from_place p (x ∷ xs) (suc k) before after =
    let e = ap (λ (ys : List _). length ys) (filter_no p x xs (before 0 x (omega arith) (omega arith))) in
    let r = from_place p xs k (λ j d lt in'. before (suc j) d (omega arith) (omega arith)) (λ j d le lt. after (suc j) d (omega arith) (omega arith)) in
    omega arith

-- one does
pub one_passes : {X : Type 0} (p : X → Bool) (xs : List X) (j : ℕ) (d : X) → j < length xs → p (get_or xs j d) ≡ true → 1 ≤ length (filter p xs)
one_passes p [] j d lt e = absurd (omega arith)
one_passes p (x ∷ xs) zero d lt e = let f = ap (λ (ys : List _). length ys) (filter_yes p x xs e) in omega arith
one_passes p (x ∷ xs) (suc j) d lt e = by (p x) refl (one_passes p xs j d (omega arith) e)
  where
    by : (b : Bool) → p x ≡ b → 1 ≤ length (filter p xs) → 1 ≤ length (filter p (x ∷ xs))
    by true q r = let f = ap (λ (ys : List _). length ys) (filter_yes p x xs q) in omega arith
    by false q r = let f = ap (λ (ys : List _). length ys) (filter_no p x xs q) in omega arith

-- two at different places do
pub two_pass : {X : Type 0} (p : X → Bool) (xs : List X) (i j : ℕ) (d : X) → i < j → j < length xs → p (get_or xs i d) ≡ true → p (get_or xs j d) ≡ true → 2 ≤ length (filter p xs)
two_pass p [] i j d lt in' e f = absurd (omega arith)
two_pass p (x ∷ xs) i zero d lt in' e f = absurd (omega arith)
two_pass p (x ∷ xs) zero (suc j) d lt in' e f =
    let q = ap (λ (ys : List _). length ys) (filter_yes p x xs e) in
    let r = one_passes p xs j d (omega arith) f in
    omega arith
two_pass p (x ∷ xs) (suc i) (suc j) d lt in' e f = by (p x) refl (two_pass p xs i j d (omega arith) (omega arith) e f)
  where
    by : (b : Bool) → p x ≡ b → 2 ≤ length (filter p xs) → 2 ≤ length (filter p (x ∷ xs))
    by true q r = let g = ap (λ (ys : List _). length ys) (filter_yes p x xs q) in omega arith
    by false q r = let g = ap (λ (ys : List _). length ys) (filter_no p x xs q) in omega arith

-- none does
pub none_pass : {X : Type 0} (p : X → Bool) (xs : List X) → ((j : ℕ) (d : X) → j < length xs → p (get_or xs j d) ≡ false) → filter p xs ≡ []
none_pass p [] f = refl
none_pass p (x ∷ xs) f = filter_no p x xs (f 0 x (omega arith)) ∙ none_pass p xs (λ j d lt. f (suc j) d (omega arith))
