-- One more literal of a clause is counted, and the clause is named in the room of the literal.
use Rattle.std.proofs.Common.{◌≡◌, ◌≢◌, ◌∙◌, ℕ, ◌+◌, ◌<◌, ◌≤◌, ◌==◌, cond, Bool, List, length, get_or, take, refl, sym, ap, subst, inl, inr, arith}
use Rattle.std.proofs.Math.ListN.{set}
use Rattle.std.proofs.lemmas.Bool.{cases_lt, cases_eq, eq-eqb, ne_eqb}
use Rattle.std.proofs.lemmas.List.{get_or-set_same, get_or-set_other}
use Rattle.std.proofs.lemmas.List.Sums.{sum_by_more, sum_by-take-le}
use Rattle.sat_words.specs.Literal.{Literal, code_of}
use Rattle.ring_walk.specs.Occurrences.{times}
use Rattle.ring_walk.proofs.Spacing.{apart}

pub times_more : (x : ℕ) (c : List Literal) (k : ℕ) (l : Literal) → k < length c → l ≡ get_or c k l → times x (take (k + 1) c) ≡ times x (take k c) + cond {A = ℕ} (code_of l == x) 1 0
times_more x c k l lt is = sum_by_more (λ m. cond {A = ℕ} (code_of m == x) 1 0) c k l lt ∙ ap (λ (m : Literal). times x (take k c) + cond {A = ℕ} (code_of m == x) 1 0) (sym is)

pub times_own : (c : List Literal) (k : ℕ) (l : Literal) → k < length c → l ≡ get_or c k l → times (code_of l) (take (k + 1) c) ≡ times (code_of l) (take k c) + 1
times_own c k l lt is = times_more (code_of l) c k l lt is ∙ ap (λ (b : Bool). times (code_of l) (take k c) + cond {A = ℕ} b 1 0) (eq-eqb (code_of l) (code_of l) refl)

pub times_other : (x : ℕ) (c : List Literal) (k : ℕ) (l : Literal) → k < length c → l ≡ get_or c k l → x ≢ code_of l → times x (take (k + 1) c) ≡ times x (take k c)
times_other x c k l lt is ne =
    let m = times_more x c k l lt is in
    let z = ap (λ (b : Bool). cond {A = ℕ} b 1 0) (ne_eqb (code_of l) x (λ e. ne (sym e))) in
    omega arith

pub times_within : (c : List Literal) (k : ℕ) (l : Literal) → k < length c → l ≡ get_or c k l → times (code_of l) (take k c) + 1 ≤ times (code_of l) c
times_within c k l lt is = let o = times_own c k l lt is in let t = sum_by-take-le (λ m. cond {A = ℕ} (code_of m == code_of l) 1 0) c (k + 1) in omega arith

-- a count of each code, after one more literal
pub counted : (F0 F : List ℕ) (c : List Literal) (k : ℕ) (l : Literal) → k < length c → l ≡ get_or c k l → length F ≡ length F0 → code_of l < length F0
    → ((x : ℕ) → x < length F0 → get_or F x 0 ≡ get_or F0 x 0 + times x (take k c))
    → (x : ℕ) → x < length F0 → get_or (set F (code_of l) (get_or F (code_of l) 0 + 1)) x 0 ≡ get_or F0 x 0 + times x (take (k + 1) c)
counted F0 F c k l lt is len own was x low = elim (cases_eq x (code_of l)) as (λ _. get_or (set F (code_of l) (get_or F (code_of l) 0 + 1)) x 0 ≡ get_or F0 x 0 + times x (take (k + 1) c)) [
  | inl e ↦ subst (λ (y : ℕ). get_or (set F (code_of l) (get_or F (code_of l) 0 + 1)) y 0 ≡ get_or F0 y 0 + times y (take (k + 1) c)) (sym e) (
      let s = get_or-set_same F (code_of l) (get_or F (code_of l) 0 + 1) 0 (omega arith) in
      let o = times_own c k l lt is in
      let w = was (code_of l) own in
      omega arith)
  | inr ne ↦ (
      let s = get_or-set_other F (code_of l) x (get_or F (code_of l) 0 + 1) 0 ne in
      let o = times_other x c k l lt is ne in
      let w = was x low in
      omega arith)
]

module _ (S F0 F N0 N : List ℕ) (c : List Literal) (k : ℕ) (l : Literal) (clause : ℕ) (lt : k < length c) (is : l ≡ get_or c k l) (own : code_of l < length F0)
    (room : (x : ℕ) → x < length F0 → get_or S x 0 + (get_or F0 x 0 + times x c) ≤ get_or S (x + 1) 0)
    (filled : (x : ℕ) → x < length F0 → get_or F x 0 ≡ get_or F0 x 0 + times x (take k c)) where
  up : (x : ℕ) → x < length F0 → get_or S x 0 ≤ get_or S (x + 1) 0
  up x low = let r = room x low in omega arith

  -- where the clause is named next is no place of the rooms that is filled already
  pub free : (x r : ℕ) → x < length F0 → r < get_or F0 x 0 + times x (take k c) → get_or S x 0 + r ≢ get_or S (code_of l) 0 + get_or F (code_of l) 0
  free x r low at = elim (cases_eq x (code_of l)) as (λ _. get_or S x 0 + r ≢ get_or S (code_of l) 0 + get_or F (code_of l) 0) [
    | inl e ↦ (λ same.
        let s = ap (λ (y : ℕ). get_or S y 0) e in
        let f = ap (λ (y : ℕ). get_or F0 y 0 + times y (take k c)) e in
        let w = filled (code_of l) own in
        absurd (omega arith))
    | inr ne ↦ (
        let t = sum_by-take-le (λ m. cond {A = ℕ} (code_of m == x) 1 0) c k in
        let a = room x low in
        let b = room (code_of l) own in
        let w = filled (code_of l) own in
        let i = times_within c k l lt is in
        apart S (length F0) up x (code_of l) low own ne (get_or S x 0 + r) (get_or S (code_of l) 0 + get_or F (code_of l) 0) (omega arith) (omega arith) (omega arith) (omega arith))
  ]

  -- there is room for it
  pub inside : (n : ℕ) → get_or S (length F0) 0 ≤ n → ((x y : ℕ) → x ≤ y → y ≤ length F0 → get_or S x 0 ≤ get_or S y 0) → get_or S (code_of l) 0 + get_or F (code_of l) 0 < n
  inside n le climbs =
      let b = room (code_of l) own in
      let w = filled (code_of l) own in
      let i = times_within c k l lt is in
      let u = climbs (code_of l + 1) (length F0) (omega arith) (omega arith) in
      omega arith

  pub kept_more : ((x r : ℕ) → x < length F0 → r < get_or F0 x 0 → get_or N (get_or S x 0 + r) 0 ≡ get_or N0 (get_or S x 0 + r) 0)
      → (x r : ℕ) → x < length F0 → r < get_or F0 x 0 → get_or (set N (get_or S (code_of l) 0 + get_or F (code_of l) 0) clause) (get_or S x 0 + r) 0 ≡ get_or N0 (get_or S x 0 + r) 0
  kept_more was x r low at =
      get_or-set_other N (get_or S (code_of l) 0 + get_or F (code_of l) 0) (get_or S x 0 + r) clause 0 (free x r low (omega arith)) ∙ was x r low at

  pub added_more : get_or S (code_of l) 0 + get_or F (code_of l) 0 < length N
      → ((x r : ℕ) → x < length F0 → get_or F0 x 0 ≤ r → r < get_or F0 x 0 + times x (take k c) → get_or N (get_or S x 0 + r) 0 ≡ clause)
      → (x r : ℕ) → x < length F0 → get_or F0 x 0 ≤ r → r < get_or F0 x 0 + times x (take (k + 1) c) → get_or (set N (get_or S (code_of l) 0 + get_or F (code_of l) 0) clause) (get_or S x 0 + r) 0 ≡ clause
  added_more in_named was x r low from at = elim (cases_lt r (get_or F0 x 0 + times x (take k c))) as (λ _. get_or (set N (get_or S (code_of l) 0 + get_or F (code_of l) 0) clause) (get_or S x 0 + r) 0 ≡ clause) [
    | inl before ↦ get_or-set_other N (get_or S (code_of l) 0 + get_or F (code_of l) 0) (get_or S x 0 + r) clause 0 (free x r low before) ∙ was x r low from before
    | inr new ↦ elim (cases_eq x (code_of l)) as (λ _. get_or (set N (get_or S (code_of l) 0 + get_or F (code_of l) 0) clause) (get_or S x 0 + r) 0 ≡ clause) [
      | inl e ↦ (
          let s = ap (λ (y : ℕ). get_or S y 0) e in
          let f = ap (λ (y : ℕ). get_or F0 y 0 + times y (take k c)) e in
          let g = ap (λ (y : ℕ). get_or F0 y 0 + times y (take (k + 1) c)) e in
          let o = times_own c k l lt is in
          let w = filled (code_of l) own in
          let place : get_or S x 0 + r ≡ get_or S (code_of l) 0 + get_or F (code_of l) 0 = omega arith in
          ap (λ (p : ℕ). get_or (set N (get_or S (code_of l) 0 + get_or F (code_of l) 0) clause) p 0) place ∙ get_or-set_same N (get_or S (code_of l) 0 + get_or F (code_of l) 0) clause 0 in_named)
      | inr ne ↦ (let o = times_other x c k l lt is ne in absurd (omega arith))
    ]
  ]
