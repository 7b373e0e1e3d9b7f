-- The rooms of different codes don't meet.
use Rattle.std.proofs.Common.{◌≡◌, ◌≢◌, ℕ, zero, suc, ◌+◌, ◌<◌, ◌≤◌, List, get_or, ap, subst, inl, inr, arith}
use Rattle.std.proofs.Math.Numerals.{add-one}
use Rattle.std.proofs.lemmas.Bool.{cases_order, cases_lt}

-- a list that does not fall up to a place
pub climb : (s : List ℕ) (n : ℕ) → ((x : ℕ) → x < n → get_or s x 0 ≤ get_or s (x + 1) 0) → (x y : ℕ) → x ≤ y → y ≤ n → get_or s x 0 ≤ get_or s y 0
climb s n up x zero le high = let e : x ≡ 0 = omega arith in let f = ap (λ (k : ℕ). get_or s k 0) e in omega arith
climb s n up x (suc y) le high = elim (cases_lt x (suc y)) as (λ _. get_or s x 0 ≤ get_or s (suc y) 0) [
  | inl lt ↦ (
      let r = climb s n up x y (omega arith) (omega arith) in
      let u = subst (λ (k : ℕ). get_or s y 0 ≤ get_or s k 0) (add-one y) (up y (omega arith)) in
      omega arith)
  | inr ge ↦ (let e : x ≡ suc y = omega arith in let f = ap (λ (k : ℕ). get_or s k 0) e in omega arith)
]

pub apart : (s : List ℕ) (n : ℕ) → ((x : ℕ) → x < n → get_or s x 0 ≤ get_or s (x + 1) 0) → (x y : ℕ) → x < n → y < n → x ≢ y → (p q : ℕ) → get_or s x 0 ≤ p → p < get_or s (x + 1) 0 → get_or s y 0 ≤ q → q < get_or s (y + 1) 0 → p ≢ q
apart s n up x y x_low y_low ne p q a b c d e = elim (cases_order x y) as (λ _. ⊥) [
  | inl same ↦ ne same
  | inr other ↦ elim other as (λ _. ⊥) [
    | inl lt ↦ (let r = climb s n up (x + 1) y (omega arith) (omega arith) in omega arith)
    | inr gt ↦ (let r = climb s n up (y + 1) x (omega arith) (omega arith) in omega arith)
  ]
]
