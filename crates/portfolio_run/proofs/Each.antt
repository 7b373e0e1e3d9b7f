-- What holds of each in a list, by its place.
use Rattle.std.proofs.Common.{◌≡◌, ℕ, zero, suc, ◌+◌, ◌<◌, List, [], ◌∷◌, ◌++◌, length, length-append, get_or, refl, sym, subst, arith}
use Rattle.std.specs.Prelude.{⊤}

-- of each, the first being at this place
abbrev pub EachFrom : {A : Type 0} → (ℕ → A → Type 0) → ℕ → List A → Type 0
EachFrom P k [] = ⊤
EachFrom P k (x ∷ xs) = P k x × EachFrom P (k + 1) xs

from_index : {A : Type 0} (P : ℕ → A → Type 0) (k : ℕ) (xs : List A) → ((i : ℕ) (d : A) → i < length xs → P (k + i) (get_or xs i d)) → EachFrom P k xs
from_index P k [] h = tt
from_index {A} P k (x ∷ xs) h = (
  subst (λ (n : ℕ). P n x) (let e : k + 0 ≡ k = omega arith in e) (h 0 x (omega arith)),
  from_index P (k + 1) xs (λ i d lt. subst (λ (n : ℕ). P n (get_or xs i d)) (let e : k + suc i ≡ k + 1 + i = omega arith in e) (h (suc i) d (omega arith))),
)

to_index : {A : Type 0} (P : ℕ → A → Type 0) (k : ℕ) (xs : List A) → EachFrom P k xs → (i : ℕ) (d : A) → i < length xs → P (k + i) (get_or xs i d)
to_index P k [] h i d lt = absurd (omega arith)
to_index P k (x ∷ xs) h zero d lt = subst (λ (n : ℕ). P n x) (let e : k ≡ k + 0 = omega arith in e) h.0
to_index P k (x ∷ xs) h (suc i) d lt = subst (λ (n : ℕ). P n (get_or xs i d)) (let e : k + 1 + i ≡ k + suc i = omega arith in e) (to_index P (k + 1) xs h.1 i d (omega arith))

pub each_of : {A : Type 0} (P : ℕ → A → Type 0) (xs : List A) → ((i : ℕ) (d : A) → i < length xs → P i (get_or xs i d)) → EachFrom P 0 xs
each_of {A} P xs h = from_index P 0 xs (λ i d lt. subst (λ (n : ℕ). P n (get_or xs i d)) (let e : i ≡ 0 + i = omega arith in e) (h i d lt))

pub index_of : {A : Type 0} (P : ℕ → A → Type 0) (xs : List A) → EachFrom P 0 xs → (i : ℕ) (d : A) → i < length xs → P i (get_or xs i d)
index_of P xs h i d lt = subst (λ (n : ℕ). P n (get_or xs i d)) (let e : 0 + i ≡ i = omega arith in e) (to_index P 0 xs h i d lt)

pub each_both : {A : Type 0} (P : ℕ → A → Type 0) (k n : ℕ) (xs ys : List A) → k + length xs ≡ n → EachFrom P k xs → EachFrom P n ys → EachFrom P k (xs ++ ys)
each_both P k n [] ys e h more = subst (λ (m : ℕ). EachFrom P m ys) (let q : n ≡ k = omega arith in q) more
each_both P k n (x ∷ xs) ys e h more = (h.0, each_both P (k + 1) n xs ys (omega arith) h.1 more)

-- one more after them
pub each_last : {A : Type 0} (P : ℕ → A → Type 0) (k n : ℕ) (xs : List A) (x : A) → k + length xs ≡ n → EachFrom P k xs → P n x → EachFrom P k (xs ++ x ∷ [])
each_last P k n xs x e h last = each_both P k n xs (x ∷ []) e h (last, tt)

-- by what holds of each
pub each_by : {A : Type 0} (P Q : ℕ → A → Type 0) (k : ℕ) (xs : List A) → ((n : ℕ) (x : A) → P n x → Q n x) → EachFrom P k xs → EachFrom Q k xs
each_by P Q k [] f h = tt
each_by P Q k (x ∷ xs) f h = (f k x h.0, each_by P Q (k + 1) xs f h.1)

pub one_longer : {A : Type 0} (xs : List A) (x : A) → length (xs ++ x ∷ []) ≡ length xs + 1
one_longer xs x = length-append xs (x ∷ [])

-- Of each two in two lists

abbrev pub BothFrom : {A B : Type 0} → (ℕ → A → B → Type 0) → ℕ → List A → List B → Type 0
BothFrom P k [] [] = ⊤
BothFrom P k [] (y ∷ ys) = ⊥
BothFrom P k (x ∷ xs) [] = ⊥
BothFrom P k (x ∷ xs) (y ∷ ys) = P k x y × BothFrom P (k + 1) xs ys

pub both_last : {A B : Type 0} (P : ℕ → A → B → Type 0) (k n : ℕ) (xs : List A) (ys : List B) (x : A) (y : B) → k + length xs ≡ n → BothFrom P k xs ys → P n x y → BothFrom P k (xs ++ x ∷ []) (ys ++ y ∷ [])
both_last P k n [] [] x y e h last = (subst (λ (m : ℕ). P m x y) (let q : n ≡ k = omega arith in q) last, tt)
both_last P k n [] (z ∷ ys) x y e h last = absurd h
both_last P k n (w ∷ xs) [] x y e h last = absurd h
both_last P k n (w ∷ xs) (z ∷ ys) x y e h last = (h.0, both_last P (k + 1) n xs ys x y (omega arith) h.1 last)

pub both_many : {A B : Type 0} (P : ℕ → A → B → Type 0) (k : ℕ) (xs : List A) (ys : List B) → BothFrom P k xs ys → length ys ≡ length xs
both_many P k [] [] h = refl
both_many P k [] (y ∷ ys) h = absurd h
both_many P k (x ∷ xs) [] h = absurd h
both_many P k (x ∷ xs) (y ∷ ys) h = let e = both_many P (k + 1) xs ys h.1 in omega arith

both_index : {A B : Type 0} (P : ℕ → A → B → Type 0) (k : ℕ) (xs : List A) (ys : List B) → BothFrom P k xs ys → (i : ℕ) (d : A) (e : B) → i < length xs → P (k + i) (get_or xs i d) (get_or ys i e)
both_index P k [] ys h i d e lt = absurd (omega arith)
both_index P k (x ∷ xs) [] h i d e lt = absurd h
both_index P k (x ∷ xs) (y ∷ ys) h zero d e lt = subst (λ (n : ℕ). P n x y) (let q : k ≡ k + 0 = omega arith in q) h.0
both_index P k (x ∷ xs) (y ∷ ys) h (suc i) d e lt = subst (λ (n : ℕ). P n (get_or xs i d) (get_or ys i e)) (let q : k + 1 + i ≡ k + suc i = omega arith in q) (both_index P (k + 1) xs ys h.1 i d e (omega arith))

pub both_of : {A B : Type 0} (P : ℕ → A → B → Type 0) (xs : List A) (ys : List B) → BothFrom P 0 xs ys → (i : ℕ) (d : A) (e : B) → i < length xs → P i (get_or xs i d) (get_or ys i e)
both_of P xs ys h i d e lt = subst (λ (n : ℕ). P n (get_or xs i d) (get_or ys i e)) (let q : 0 + i ≡ i = omega arith in q) (both_index P 0 xs ys h i d e lt)

pub both_none : {A B : Type 0} (P : ℕ → A → B → Type 0) (k : ℕ) (xs : List A) (ys : List B) → xs ≡ [] → ys ≡ [] → BothFrom P k xs ys
both_none {A} {B} P k xs ys ex ey = subst (λ (zs : List B). BothFrom P k xs zs) (sym ey) (subst (λ (zs : List A). BothFrom P k zs []) (sym ex) tt)
