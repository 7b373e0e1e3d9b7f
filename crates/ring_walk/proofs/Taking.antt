-- Numbers taken one after another.
use Rattle.std.proofs.Common.{◌≡◌, ◌∙◌, ℕ, zero, suc, ◌<◌, ◌+◌, Bool, true, false, ◌||◌, ◌==◌, List, [], ◌∷◌, ◌++◌, length, get_or, take, refl, sym, ap, inl, inr, arith}
use Rattle.std.proofs.lemmas.Bool.{or_cases, eq-eqb, eqb-true, cases_Bool, false≢true}
use Rattle.std.proofs.lemmas.List.{take_more, get_or-take, length-take-le}
use Rattle.ring_walk.specs.Truths.{is_in, IsOnce}

in_pushed : (xs : List ℕ) (x i : ℕ) → is_in (xs ++ x ∷ []) i ≡ (is_in xs i || (x == i))
in_pushed [] x i = by (x == i)
  where
    by : (b : Bool) → (b || false) ≡ b
    by true = refl
    by false = refl
in_pushed (y ∷ xs) x i = ap (λ (b : Bool). (y == i) || b) (in_pushed xs x i) ∙ by (y == i) (is_in xs i) (x == i)
  where
    by : (a b c : Bool) → (a || (b || c)) ≡ ((a || b) || c)
    by true b c = refl
    by false b c = refl

pub in_more : (xs : List ℕ) (k i : ℕ) → k < length xs → is_in (take (k + 1) xs) i ≡ (is_in (take k xs) i || (get_or xs k 0 == i))
in_more xs k i lt = ap (λ (ys : List ℕ). is_in ys i) (take_more xs k 0 lt) ∙ in_pushed (take k xs) (get_or xs k 0) i

pub place_in : (xs : List ℕ) (i : ℕ) → is_in xs i ≡ true → (j : ℕ) × (j < length xs) × (get_or xs j 0 ≡ i)
place_in [] i h = absurd (false≢true h)
place_in (x ∷ xs) i h = elim (or_cases (x == i) (is_in xs i) h) as (λ _. (j : ℕ) × (j < length (x ∷ xs)) × (get_or (x ∷ xs) j 0 ≡ i)) [
  | inl e ↦ (0, omega arith, eqb-true x i e)
  | inr t ↦ (let r = place_in xs i t in (suc r.0, omega arith, r.2))
]

-- the next number was not taken yet
pub next_out : (xs : List ℕ) (k : ℕ) → IsOnce xs → k < length xs → is_in (take k xs) (get_or xs k 0) ≡ false
next_out xs k once lt = elim (cases_Bool (is_in (take k xs) (get_or xs k 0))) as (λ _. is_in (take k xs) (get_or xs k 0) ≡ false) [
  | inl y ↦ (
      let r = place_in (take k xs) (get_or xs k 0) y in
      let l = length-take-le k xs (omega arith) in
      let low : r.0 < k = (let b = r.1 in omega arith) in
      absurd (once r.0 k low lt (sym (get_or-take k xs r.0 0 low) ∙ r.2)))
  | inr n ↦ n
]

pub in_own : (xs : List ℕ) (k : ℕ) → k < length xs → is_in xs (get_or xs k 0) ≡ true
in_own [] k lt = absurd (omega arith)
in_own (x ∷ xs) zero lt = ap (λ (b : Bool). b || is_in xs x) (eq-eqb x x refl)
in_own (x ∷ xs) (suc k) lt = ap (λ (b : Bool). (x == get_or xs k 0) || b) (in_own xs k (omega arith)) ∙ by (x == get_or xs k 0)
  where
    by : (b : Bool) → (b || true) ≡ true
    by true = refl
    by false = refl
