-- Numbers in groups of seven bits.
use Rattle.std.proofs.Common.{◌≡◌, ◌∙◌, ℕ, zero, suc, ◌<◌, ◌≤◌, ◌+◌, ◌-◌, ◌^◌, Bool, List, [], ◌∷◌, ◌++◌, refl, sym, ap, subst, append_assoc, arith, inl, inr, ◌⊎◌}
use Rattle.std.specs.Prelude.{◌/◌, ◌%◌, if◌then◌else◌}
use Rattle.std.proofs.lemmas.Bool.{cases_lt, lt-ltb, le-ltb}
use Rattle.drat_text.specs.Binary.{groups}

-- the number fits into k groups
abbrev pub Fits : ℕ → ℕ → Type 0
Fits zero n = ⊥
Fits (suc k) n = (n < 128) ⊎ Fits k (n / 128)

pub fits_five : (n : ℕ) → n < 2 ^ 35 → Fits 5 n
fits_five n h = inr (inr (inr (inr (inl (omega arith)))))

pub groups_low : (k n : ℕ) → n < 128 → groups (suc k) n ≡ n ∷ []
unfolding groups
groups_low k n h = ap (λ (b : Bool). if b then n ∷ [] else (n % 128 + 128) ∷ groups k (n / 128)) (lt-ltb n 128 h)

pub groups_high : (k n : ℕ) → 128 ≤ n → groups (suc k) n ≡ (n % 128 + 128) ∷ groups k (n / 128)
unfolding groups
groups_high k n h = ap (λ (b : Bool). if b then n ∷ [] else (n % 128 + 128) ∷ groups k (n / 128)) (le-ltb n 128 h)

pub high_fits : (k n : ℕ) → 128 ≤ n → Fits (suc k) n → Fits k (n / 128)
high_fits k n h (inl low) = absurd (omega arith)
high_fits k n h (inr f) = f

-- two lists that begin with groups
pub same_groups : (k m n : ℕ) (s t : List ℕ) → Fits k m → Fits k n → groups k m ++ s ≡ groups k n ++ t → (m ≡ n) × (s ≡ t)
same_groups zero m n s t p q e = absurd p
same_groups (suc k) m n s t p q e =
    elim (cases_lt m 128) as (λ _. (m ≡ n) × (s ≡ t)) [
      | inl low ↦ elim (cases_lt n 128) as (λ _. (m ≡ n) × (s ≡ t)) [
        | inl also ↦ (let whole : m ∷ s ≡ n ∷ t = sym (ap (λ (bs : List ℕ). bs ++ s) (groups_low k m low)) ∙ e ∙ ap (λ (bs : List ℕ). bs ++ t) (groups_low k n also) in ((cc), (cc)))
        | inr high ↦ (
            let whole : m ∷ s ≡ (n % 128 + 128) ∷ (groups k (n / 128) ++ t) = sym (ap (λ (bs : List ℕ). bs ++ s) (groups_low k m low)) ∙ e ∙ ap (λ (bs : List ℕ). bs ++ t) (groups_high k n high) in
            let first : m ≡ n % 128 + 128 = cc in
            absurd (omega arith))
      ]
      | inr high ↦ elim (cases_lt n 128) as (λ _. (m ≡ n) × (s ≡ t)) [
        | inl low ↦ (
            let whole : (m % 128 + 128) ∷ (groups k (m / 128) ++ s) ≡ n ∷ t = sym (ap (λ (bs : List ℕ). bs ++ s) (groups_high k m high)) ∙ e ∙ ap (λ (bs : List ℕ). bs ++ t) (groups_low k n low) in
            let first : m % 128 + 128 ≡ n = cc in
            absurd (omega arith))
        | inr also ↦ (
            let whole : (m % 128 + 128) ∷ (groups k (m / 128) ++ s) ≡ (n % 128 + 128) ∷ (groups k (n / 128) ++ t) = sym (ap (λ (bs : List ℕ). bs ++ s) (groups_high k m high)) ∙ e ∙ ap (λ (bs : List ℕ). bs ++ t) (groups_high k n also) in
            let first : m % 128 + 128 ≡ n % 128 + 128 = cc in
            let later : groups k (m / 128) ++ s ≡ groups k (n / 128) ++ t = cc in
            let both = same_groups k (m / 128) (n / 128) s t (high_fits k m high p) (high_fits k n also q) later in
            let rest : m / 128 ≡ n / 128 = both.0 in
            (omega arith, both.1))
      ]
    ]

-- a number from 1 on does not begin with a zero
pub no_zero : (k n : ℕ) (s t : List ℕ) → 1 ≤ n → Fits k n → 0 ∷ s ≡ groups k n ++ t → ⊥
no_zero zero n s t some f e = f
no_zero (suc k) n s t some f e =
    elim (cases_lt n 128) as (λ _. ⊥) [
      | inl low ↦ (
          let whole : 0 ∷ s ≡ n ∷ t = e ∙ ap (λ (bs : List ℕ). bs ++ t) (groups_low k n low) in
          let first : 0 ≡ n = cc in
          absurd (omega arith))
      | inr high ↦ (
          let whole : 0 ∷ s ≡ (n % 128 + 128) ∷ (groups k (n / 128) ++ t) = e ∙ ap (λ (bs : List ℕ). bs ++ t) (groups_high k n high) in
          let first : 0 ≡ n % 128 + 128 = cc in
          absurd (omega arith))
    ]

-- one group more is written at a place, and the rest of the number is left
pub groups_next : (size rest : ℕ) (before all : List ℕ) → size < 5 → 128 ≤ rest → Fits (5 - size) rest → before ++ groups (5 - size) rest ≡ all
    → (size + 1 < 5) × Fits (5 - (size + 1)) (rest / 128) × ((before ++ (rest % 128 + 128) ∷ []) ++ groups (5 - (size + 1)) (rest / 128) ≡ all)
groups_next size rest before all low high fits whole = by (4 - size) refl
  where
    by : (k : ℕ) → 4 - size ≡ k → (size + 1 < 5) × Fits (5 - (size + 1)) (rest / 128) × ((before ++ (rest % 128 + 128) ∷ []) ++ groups (5 - (size + 1)) (rest / 128) ≡ all)
    by zero is =
        let here : 5 - size ≡ 1 = omega (arith, is) in
        absurd (high_fits 0 rest high (subst (λ (n : ℕ). Fits n rest) here fits))
    by (suc k) is =
        let here : 5 - size ≡ suc (suc k) = omega (arith, is) in
        let next : suc k ≡ 5 - (size + 1) = omega (arith, is) in (
          omega (arith, is),
          subst (λ (n : ℕ). Fits n (rest / 128)) next (high_fits (suc k) rest high (subst (λ (n : ℕ). Fits n rest) here fits)),
          append_assoc before ((rest % 128 + 128) ∷ []) (groups (5 - (size + 1)) (rest / 128))
              ∙ ap (λ (n : ℕ). before ++ (rest % 128 + 128) ∷ groups n (rest / 128)) (sym next)
              ∙ ap (λ (bs : List ℕ). before ++ bs) (sym (groups_high (suc k) rest high))
              ∙ ap (λ (n : ℕ). before ++ groups n rest) (sym here) ∙ whole,
        )

-- the last group is written
pub groups_end : (size rest : ℕ) (before all : List ℕ) → size < 5 → rest < 128 → before ++ groups (5 - size) rest ≡ all → before ++ rest ∷ [] ≡ all
groups_end size rest before all low high whole =
    let here : suc (4 - size) ≡ 5 - size = omega arith in
    ap (λ (bs : List ℕ). before ++ bs) (sym (groups_low (4 - size) rest high)) ∙ ap (λ (n : ℕ). before ++ groups n rest) here ∙ whole
