-- Luby's numbers don't depend on how many are written down.
use Rattle.std.proofs.Common.{◌≡◌, ◌∙◌, ℕ, zero, suc, ◌<◌, ◌≤◌, ◌+◌, ◌-◌, ◌^◌, ◌==◌, Bool, true, false, cond, nat_lt, refl, sym, ap, inl, inr, arith}
use Rattle.std.proofs.lemmas.Bool.{cases_lt}
use Rattle.std.proofs.lemmas.Bool.Decides.{nat_tests}
use Rattle.std.proofs.Math.Nat.{pow-suc}
use Rattle.std.proofs.Math.Pow.{pow-lt}
use Rattle.restart_plan.specs.Luby.{luby_among, luby, luby_sum}

below : (m n : ℕ) → m < n → nat_lt m n ≡ true
below m n h = grind (arith, nat_tests)

not_below : (m n : ℕ) → n ≤ m → nat_lt m n ≡ false
not_below m n h = grind (arith, nat_tests)

equal : (m n : ℕ) → m ≡ n → (m == n) ≡ true
equal m n h = grind (arith, nat_tests)

unequal : (m n : ℕ) → m < n → (m == n) ≡ false
unequal m n h = grind (arith, nat_tests)

pub at_low : (k i : ℕ) → i < 2 ^ k → luby_among (suc k) i ≡ luby_among k i
unfolding luby_among
at_low k i h = let e : nat_lt i (2 ^ k) ≡ true = below i (2 ^ k) h in rw e refl

pub at_last : (k i : ℕ) → i + 1 ≡ 2 ^ k + 2 ^ k → luby_among (suc k) i ≡ 2 ^ k
unfolding luby_among
at_last k i h =
    let p : 1 ≤ 2 ^ k = some k in
    let e : nat_lt i (2 ^ k) ≡ false = not_below i (2 ^ k) (omega arith) in
    let f : (i + 1 == 2 ^ k + 2 ^ k) ≡ true = equal (i + 1) (2 ^ k + 2 ^ k) h in rw (e, f) refl
  where
    some : (k : ℕ) → 1 ≤ 2 ^ k
    some zero = omega arith
    some (suc k) = let r = some k in let d = pow-suc 2 k in omega arith

pub at_rest : (k i : ℕ) → 2 ^ k ≤ i → i + 1 < 2 ^ k + 2 ^ k → luby_among (suc k) i ≡ luby_among k (i - 2 ^ k + 1)
unfolding luby_among
at_rest k i low high =
    let e : nat_lt i (2 ^ k) ≡ false = not_below i (2 ^ k) low in
    let f : (i + 1 == 2 ^ k + 2 ^ k) ≡ false = unequal (i + 1) (2 ^ k + 2 ^ k) high in rw (e, f) refl

pub some_power : (k : ℕ) → 1 ≤ 2 ^ k
some_power zero = omega arith
some_power (suc k) = let r = some_power k in let d = pow-suc 2 k in omega arith

pub twice : (k : ℕ) → 2 ^ suc k ≡ 2 ^ k + 2 ^ k
twice k = let d = pow-suc 2 k in omega arith

power_le : (k j : ℕ) → k ≤ j → 2 ^ k ≤ 2 ^ j
power_le k j le =
    elim (cases_lt k j) as (λ _. 2 ^ k ≤ 2 ^ j) [
      | inl l ↦ (let p : 2 ^ k < 2 ^ j = pow-lt l in omega arith)
      | inr g ↦ (let e : k ≡ j = omega arith in let p : 2 ^ k ≡ 2 ^ j = ap (λ (n : ℕ). 2 ^ n) e in omega arith)
    ]

same_more : (n j k i : ℕ) → j ≡ n + k → i < 2 ^ k → luby_among j i ≡ luby_among k i
same_more zero j k i e h = ap (λ (n : ℕ). luby_among n i) (omega arith)
same_more (suc n) zero k i e h = absurd (omega arith)
same_more (suc n) (suc j) k i e h = let p = power_le k j (omega arith) in at_low j i (omega arith) ∙ same_more n j k i (omega arith) h

below_power : (i : ℕ) → i < 2 ^ i
below_power zero = omega arith
below_power (suc i) = let r = below_power i in let d = twice i in omega arith

-- the number is the same among any that reach so far
pub is_luby : (k i : ℕ) → i < 2 ^ k → luby_among k i ≡ luby i
is_luby k i h =
    elim (cases_lt k i) as (λ _. luby_among k i ≡ luby i) [
      | inl l ↦ sym (same_more (i - k) i k i (omega arith) h)
      | inr g ↦ same_more (k - i) k i i (omega arith) (below_power i)
    ]

pub luby_last : (k : ℕ) → luby (2 ^ (k + 1) - 1) ≡ 2 ^ k
luby_last k =
    let d = twice k in
    let p = some_power k in
    let e : suc k ≡ k + 1 = omega arith in
    let f : 2 ^ suc k ≡ 2 ^ (k + 1) = ap (λ (n : ℕ). 2 ^ n) e in
    sym (is_luby (suc k) (2 ^ (k + 1) - 1) (omega arith)) ∙ at_last k (2 ^ (k + 1) - 1) (omega arith)

pub luby_rest : (k i : ℕ) → 2 ^ k ≤ i → i < 2 ^ (k + 1) - 1 → luby i ≡ luby (i - 2 ^ k + 1)
luby_rest k i low high =
    let d = twice k in
    let e : suc k ≡ k + 1 = omega arith in
    let f : 2 ^ suc k ≡ 2 ^ (k + 1) = ap (λ (n : ℕ). 2 ^ n) e in
    sym (is_luby (suc k) i (omega arith)) ∙ at_rest k i low (omega arith) ∙ is_luby k (i - 2 ^ k + 1) (omega arith)

choose_some : (b c : Bool) (x y z : ℕ) → 1 ≤ x → 1 ≤ y → 1 ≤ z → 1 ≤ cond b x (cond c y z)
choose_some true c x y z p q r = p
choose_some false true x y z p q r = q
choose_some false false x y z p q r = r

among_some : (k i : ℕ) → 1 ≤ luby_among k i
unfolding luby_among
among_some zero i = omega arith
among_some (suc k) i = choose_some (nat_lt i (2 ^ k)) (i + 1 == 2 ^ k + 2 ^ k) (luby_among k i) (2 ^ k) (luby_among k (i - 2 ^ k + 1)) (among_some k i) (some_power k) (among_some k (i - 2 ^ k + 1))

pub luby_some : (i : ℕ) → 1 ≤ luby i
luby_some i = among_some i i

among_few : (k i : ℕ) → 1 ≤ i → i < 2 ^ k → luby_among k i ≤ i
among_few zero i low high = omega arith
among_few (suc k) i low high =
    let d = twice k in
    elim (cases_lt i (2 ^ k)) as (λ _. luby_among (suc k) i ≤ i) [
      | inl l ↦ (let e = at_low k i l in let r = among_few k i low l in omega arith)
      | inr g ↦ elim (cases_lt (i + 1) (2 ^ k + 2 ^ k)) as (λ _. luby_among (suc k) i ≤ i) [
        | inl l ↦ (let e = at_rest k i g l in let r = among_few k (i - 2 ^ k + 1) (omega arith) (omega arith) in let p = some_power k in omega arith)
        | inr h ↦ (let e = at_last k i (omega arith) in omega arith)
      ]
    ]

pub luby_few : (i : ℕ) → 1 ≤ i → luby i ≤ i
luby_few i low = among_few i i low (below_power i)

sums_suc : (k : ℕ) → luby_sum (suc k) ≡ luby_sum k + luby (suc k)
unfolding luby_sum
sums_suc k = refl

pub sums_grow : (n j k : ℕ) → k ≡ n + j → luby_sum j ≤ luby_sum k
sums_grow zero j k e = let q : luby_sum j ≡ luby_sum k = ap luby_sum (omega arith) in omega arith
sums_grow (suc n) j zero e = absurd (omega arith)
sums_grow (suc n) j (suc k) e = let r = sums_grow n j k (omega arith) in let s = sums_suc k in omega arith

pub sums_more : (j k : ℕ) → j < k → luby_sum j < luby_sum k
sums_more j k lt =
    let g = sums_grow (k - suc j) (suc j) k (omega arith) in
    let n = sums_suc j in
    let p = luby_some (suc j) in omega arith

pub sum_next : (k : ℕ) → luby_sum (k + 1) ≡ luby_sum k + luby (k + 1)
sum_next k = let e : suc k ≡ k + 1 = omega arith in ap luby_sum (sym e) ∙ sums_suc k ∙ ap (λ (n : ℕ). luby_sum k + luby n) e

-- the same for a number of bits that isn't 0
less_one : (k : ℕ) → suc k - 1 ≡ k
less_one k = omega arith

pub by_low : (b i : ℕ) → 1 ≤ b → i < 2 ^ (b - 1) → luby_among b i ≡ luby_among (b - 1) i
by_low zero i some h = absurd (omega arith)
by_low (suc k) i some h = let g : i < 2 ^ k = rw (less_one k) at h in rw (less_one k) (at_low k i g)

pub by_last : (b i : ℕ) → 1 ≤ b → i + 1 ≡ 2 ^ (b - 1) + 2 ^ (b - 1) → luby_among b i ≡ 2 ^ (b - 1)
by_last zero i some h = absurd (omega arith)
by_last (suc k) i some h = let g : i + 1 ≡ 2 ^ k + 2 ^ k = simp less_one at h in rw (less_one k) (at_last k i g)

pub by_rest : (b i : ℕ) → 1 ≤ b → 2 ^ (b - 1) ≤ i → i + 1 < 2 ^ (b - 1) + 2 ^ (b - 1) → luby_among b i ≡ luby_among (b - 1) (i - 2 ^ (b - 1) + 1)
by_rest zero i some low high = absurd (omega arith)
by_rest (suc k) i some low high =
    let f : 2 ^ k ≤ i = rw (less_one k) at low in
    let g : i + 1 < 2 ^ k + 2 ^ k = simp less_one at high in simp less_one (at_rest k i f g)

pub half_twice : (b : ℕ) → 1 ≤ b → 2 ^ b ≡ 2 ^ (b - 1) + 2 ^ (b - 1)
half_twice zero some = absurd (omega arith)
half_twice (suc k) some = simp less_one (twice k)

pub sum_none : luby_sum 0 ≡ 0
unfolding luby_sum
sum_none = refl
