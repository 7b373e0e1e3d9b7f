-- The literals of a clause that are best to watch: those not false, then those false at the highest levels.
use Rattle.std.specs.Prelude.{◌≡◌, ◌≢◌, ℕ, ◌+◌, ◌<◌, ◌≤◌, ◌⊎◌, nat_lt, List, length, Some, slice_get, if◌then◌else◌}
use Rattle.sat_words.specs.Literal.{Literal, opposite}
use Rattle.ring_trail.specs.TrailData.{TrailData, IsFalseOn, lit_at, level_at}
use Rattle.watch_prop.specs.declared.choice.Best.{Best}

-- the literal is false at this level, by the step at some place
pub record IsFalseAt (t : TrailData) (l : Literal) (r : ℕ) : Type 0 where
  pub place : ℕ
  pub in_range : place < length t.steps
  pub false_there : lit_at t.steps place ≡ opposite l
  pub level : level_at t.steps place ≡ r

-- the level at which the literal is false; one more than the present level where it isn't false
abbrev pub IsRank : TrailData → Literal → ℕ → Type 0
IsRank t l r = ((r ≡ t.level + 1) × (IsFalseOn t.steps l → ⊥)) ⊎ IsFalseAt t l r

-- its rank is at most this
pub record RanksLow (t : TrailData) (l : Literal) (n : ℕ) : Type 0 where
  pub rank : ℕ
  pub is_rank : IsRank t l rank
  pub low : rank ≤ n

-- the best two watches among two literals
abbrev pub first_two : Literal → ℕ → Literal → ℕ → Best
first_two k m l n = if nat_lt m n then record { first = l; second = k; high = n; low = m } else record { first = k; second = l; high = m; low = n }

-- the best two watches after one more literal
abbrev pub better_of : Best → Literal → ℕ → Best
better_of b l r = if nat_lt b.high r then record { first = l; second = b.first; high = r; low = b.high } else (if nat_lt b.low r then record { first = b.first; second = l; high = b.high; low = r } else b)

-- the literal stands at one of the first n places
pub record StandsAmong (c : List Literal) (n : ℕ) (l : Literal) : Type 0 where
  pub place : ℕ
  pub before : place < n
  pub there : slice_get c place ≡ Some l

-- of the first n literals these two rank highest
pub record IsBest (t : TrailData) (c : List Literal) (n : ℕ) (b : Best) : Type 0 where
  pub first_in : StandsAmong c n b.first
  pub second_in : StandsAmong c n b.second
  pub apart : b.first ≢ b.second
  pub high_is : IsRank t b.first b.high
  pub low_is : IsRank t b.second b.low
  pub order : b.low ≤ b.high
  pub rest : (k : ℕ) (l : Literal) → k < n → slice_get c k ≡ Some l → (l ≡ b.first) ⊎ RanksLow t l b.low
