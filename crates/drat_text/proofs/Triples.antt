-- The digits of a number, three at a time.
use Rattle.std.proofs.Common.{◌≡◌, ◌∙◌, ℕ, zero, suc, ◌+◌, ◌-◌, ◌*◌, ◌/◌, ◌%◌, ◌^◌, ◌<◌, ◌≤◌, Bool, true, ◌&&◌, T, eqb, List, [], ◌∷◌, ◌++◌, length, get_or, set, take, ap, sym, inl, inr, arith, eqb→eq, append_assoc, length-set, take-take}
use lib.Ieee.Fits.{and_l, and_r}
use Rattle.std.specs.Fmt.{decimal}
use Rattle.std.proofs.Math.Seq.{take-append-add}
use Rattle.std.proofs.lemmas.Bool.{cases_lt}
use Rattle.std.proofs.lemmas.Fmt.{decimal_digit, decimal_step}
use Rattle.std.proofs.lemmas.List.{take_more_set, length-take-le}
use Rattle.drat_text.specs.Digits.{digit_at, window, three}
use Rattle.drat_text.specs.declared.digits.TheConstants.{DIGITS}

-- The table

-- the bytes are those of the digits from a place on
abbrev are_digits : ℕ → List ℕ → Bool
are_digits place [] = true
are_digits place (b ∷ bs) = eqb b (48 + digit_at place) && are_digits (suc place) bs

digit_in : (bs : List ℕ) (place k : ℕ) → T (are_digits place bs) → k < length bs → get_or bs k 0 ≡ 48 + digit_at (place + k)
digit_in [] place k t low = absurd (omega arith)
digit_in (b ∷ bs) place zero t low =
    let here : place ≡ place + 0 = omega arith in
    eqb→eq b (48 + digit_at place) (and_l _ (are_digits (suc place) bs) t) ∙ ap (λ (n : ℕ). 48 + digit_at n) here
digit_in (b ∷ bs) place (suc k) t low =
    let next : suc place + k ≡ place + suc k = omega arith in
    digit_in bs (suc place) k (and_r _ (are_digits (suc place) bs) t) (omega arith) ∙ ap (λ (n : ℕ). 48 + digit_at n) next

pub digit_is : (k : ℕ) → k < 3000 → get_or DIGITS k 0 ≡ 48 + digit_at k
digit_is k low = let here : 0 + k ≡ k = omega arith in digit_in DIGITS 0 k tt low ∙ ap (λ (n : ℕ). 48 + digit_at n) here

-- its place for each digit
digit_first : (n : ℕ) → digit_at (n * 3) ≡ n / 100
digit_first n =
    let left : n * 3 % 3 ≡ 0 = omega arith in
    let whole : n * 3 / 3 ≡ n = omega arith in
    rw (left, whole)

digit_second : (n : ℕ) → digit_at (n * 3 + 1) ≡ n / 10 % 10
digit_second n =
    let left : (n * 3 + 1) % 3 ≡ 1 = omega arith in
    let whole : (n * 3 + 1) / 3 ≡ n = omega arith in
    rw (left, whole)

digit_third : (n : ℕ) → digit_at (n * 3 + 2) ≡ n % 10
digit_third n =
    let left : (n * 3 + 2) % 3 ≡ 2 = omega arith in
    let whole : (n * 3 + 2) / 3 ≡ n = omega arith in
    rw (left, whole)

pub window_three : (n : ℕ) → window (n * 3) ≡ three n
window_three n = λ i. (48 + digit_first n i) ∷ (48 + digit_second n i) ∷ (48 + digit_third n i) ∷ []

-- Bytes that are set one after the other

pub two_set : (at one two : ℕ) (bytes : List ℕ) → at + 2 ≤ length bytes → take (at + 2) (set (set bytes at one) (at + 1) two) ≡ take at bytes ++ one ∷ two ∷ []
two_set at one two bytes room =
    let last : at + 2 ≡ at + 1 + 1 = omega arith in
    ap (λ (n : ℕ). take n (set (set bytes at one) (at + 1) two)) last
    ∙ take_more_set (set bytes at one) (at + 1) two (omega (arith, length-set bytes at one))
    ∙ ap (λ (xs : List ℕ). xs ++ two ∷ []) (take_more_set bytes at one (omega arith))
    ∙ append_assoc (take at bytes) (one ∷ []) (two ∷ [])

three_set : (at one two last : ℕ) (bytes : List ℕ) → at + 3 ≤ length bytes
    → take (at + 3) (set (set (set bytes at one) (at + 1) two) (at + 2) last) ≡ take at bytes ++ one ∷ two ∷ last ∷ []
three_set at one two last bytes room =
    let end : at + 3 ≡ at + 2 + 1 = omega arith in
    let both = set (set bytes at one) (at + 1) two in
    ap (λ (n : ℕ). take n (set both (at + 2) last)) end
    ∙ take_more_set both (at + 2) last (omega (arith, length-set bytes at one, length-set (set bytes at one) (at + 1) two))
    ∙ ap (λ (xs : List ℕ). xs ++ last ∷ []) (two_set at one two bytes (omega arith))
    ∙ append_assoc (take at bytes) (one ∷ two ∷ []) (last ∷ [])

-- and a front of them
pub front_set : (at one two last k : ℕ) (bytes : List ℕ) → at + 3 ≤ length bytes → k ≤ 3
    → take (at + k) (set (set (set bytes at one) (at + 1) two) (at + 2) last) ≡ take at bytes ++ take k (one ∷ two ∷ last ∷ [])
front_set at one two last k bytes room low =
    let all = set (set (set bytes at one) (at + 1) two) (at + 2) last in
    let size : length (take at bytes) ≡ at = length-take-le at bytes (omega arith) in
    sym (take-take (at + k) (at + 3) all (omega arith))
    ∙ ap (take (at + k)) (three_set at one two last bytes room)
    ∙ ap (λ (n : ℕ). take (n + k) (take at bytes ++ one ∷ two ∷ last ∷ [])) (sym size)
    ∙ take-append-add (take at bytes) (one ∷ two ∷ last ∷ []) k

-- Numbers

decimal_two : (n : ℕ) → 10 ≤ n → n < 100 → decimal n ≡ (48 + n / 10) ∷ (48 + n % 10) ∷ []
decimal_two n low high = rw (decimal_step n low (omega arith), decimal_digit (n / 10) (omega arith))

decimal_pair : (n : ℕ) → 100 ≤ n → n < 2 ^ 64 → decimal n ≡ decimal (n / 100) ++ (48 + n / 10 % 10) ∷ (48 + n % 10) ∷ []
decimal_pair n low high =
    let tenth : n / 10 / 10 ≡ n / 100 = omega arith in
    rw (decimal_step n (omega arith) high, decimal_step (n / 10) (omega arith) (omega arith), append_assoc, tenth)

decimal_three : (n : ℕ) → 100 ≤ n → n < 1000 → decimal n ≡ three n
decimal_three n low high = rw (decimal_pair n low (omega arith), decimal_digit (n / 100) (omega arith))

pub decimal_more : (n : ℕ) → 1000 ≤ n → n < 2 ^ 64 → decimal n ≡ decimal (n / 1000) ++ three (n % 1000)
decimal_more n low high =
    let high_part : n / 100 / 10 ≡ n / 1000 = omega arith in
    let first : n / 100 % 10 ≡ n % 1000 / 100 = omega arith in
    let second : n / 10 % 10 ≡ n % 1000 / 10 % 10 = omega arith in
    let third : n % 10 ≡ n % 1000 % 10 = omega arith in
    decimal_pair n (omega arith) high
    ∙ ap (λ (xs : List ℕ). xs ++ (48 + n / 10 % 10) ∷ (48 + n % 10) ∷ []) (decimal_step (n / 100) (omega arith) (omega arith))
    ∙ append_assoc (decimal (n / 100 / 10)) ((48 + n / 100 % 10) ∷ []) ((48 + n / 10 % 10) ∷ (48 + n % 10) ∷ [])
    ∙ (λ i. decimal (high_part i) ++ (48 + first i) ∷ (48 + second i) ∷ (48 + third i) ∷ [])

-- the digits without the zeros before them
pub first_digits : (n zeros : ℕ) → n < 1000 → (n < 10 → zeros ≡ 2) → (10 ≤ n → n < 100 → zeros ≡ 1) → (100 ≤ n → zeros ≡ 0)
    → take (3 - zeros) (window (n * 3 + zeros)) ≡ decimal n
first_digits n zeros few one two more =
    elim (cases_lt n 10) as (λ _. take (3 - zeros) (window (n * 3 + zeros)) ≡ decimal n) [
      | inl low ↦ (
          let e : zeros ≡ 2 = one low in
          let digit : n % 10 ≡ n = omega arith in
          ap (λ (z : ℕ). take (3 - z) (window (n * 3 + z))) e ∙ (λ i. (48 + digit_third n i) ∷ []) ∙ (λ i. (48 + digit i) ∷ []) ∙ sym (decimal_digit n low))
      | inr high ↦ elim (cases_lt n 100) as (λ _. take (3 - zeros) (window (n * 3 + zeros)) ≡ decimal n) [
        | inl low ↦ (
            let e : zeros ≡ 1 = two high low in
            let next : n * 3 + 1 + 1 ≡ n * 3 + 2 = omega arith in
            let tens : n / 10 % 10 ≡ n / 10 = omega arith in
            ap (λ (z : ℕ). take (3 - z) (window (n * 3 + z))) e
            ∙ (λ i. (48 + digit_second n i) ∷ (48 + digit_at (next i)) ∷ []) ∙ (λ i. (48 + tens i) ∷ (48 + digit_third n i) ∷ []) ∙ sym (decimal_two n high low))
        | inr high ↦ (
            let e : zeros ≡ 0 = more high in
            let here : n * 3 + 0 ≡ n * 3 = omega arith in
            ap (λ (z : ℕ). take (3 - z) (window (n * 3 + z))) e ∙ ap (λ (p : ℕ). window p) here ∙ window_three n ∙ sym (decimal_three n high few))
      ]
    ]
