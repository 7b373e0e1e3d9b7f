-- Numbers below n that pass a test, in a list without an order, and the place of each.
use Rattle.std.specs.Prelude.{◌≡◌, ℕ, zero, suc, ◌<◌, ◌+◌, Bool, true, not, ◌&&◌, ◌||◌, ◌==◌, List, length, slice_index_or, if◌then◌else◌}

-- each number of the list passes, is below n and has its place noted; each number below n that passes stands at its place
pub record AreListed (P : ℕ → Bool) (n : ℕ) (list places : List ℕ) : Type 0 where
  pub wide : length places ≡ n
  pub low : (k : ℕ) → k < length list → slice_index_or list k 0 < n
  pub pass : (k : ℕ) → k < length list → P (slice_index_or list k 0) ≡ true
  pub noted : (k : ℕ) → k < length list → slice_index_or places (slice_index_or list k 0) 0 ≡ k
  pub inside : (i : ℕ) → i < n → P i ≡ true → slice_index_or places i 0 < length list
  pub there : (i : ℕ) → i < n → P i ≡ true → slice_index_or list (slice_index_or places i 0) 0 ≡ i

-- the test that passes all that passed but this number
abbrev pub all_but : ℕ → (ℕ → Bool) → ℕ → Bool
all_but i P j = P j && not (j == i)

-- and this one too
abbrev pub and_one : ℕ → (ℕ → Bool) → ℕ → Bool
and_one i P j = P j || (j == i)

-- how many numbers below n pass
abbrev pub passing : (ℕ → Bool) → ℕ → ℕ
passing P zero = 0
passing P (suc n) = passing P n + (if P n then 1 else 0)
