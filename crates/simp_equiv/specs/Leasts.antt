-- The least node of each component.
use Rattle.std.specs.Prelude.{◌≡◌, ◌≢◌, ℕ, ◌<◌, ◌≤◌, List, length}
use Rattle.std.specs.List.{slice_index}

-- the first places of the numbers among the first n places; as long as a number was not met, it has the number `none`
pub record FirstPlaces (numbers first : List ℕ) (n none : ℕ) : Type 0 where
  pub place : (c : ℕ) → c < length first → slice_index first c ≢ none
      → (slice_index first c < n) × (slice_index numbers (slice_index first c) ≡ c)
  pub least : (j : ℕ) → j < n → (slice_index first (slice_index numbers j) ≢ none) × (slice_index first (slice_index numbers j) ≤ j)

-- for each place the least with the same number
pub record AreLeast (numbers least : List ℕ) : Type 0 where
  pub each : length least ≡ length numbers
  pub same : (k : ℕ) → k < length numbers → (slice_index least k < length numbers) × (slice_index numbers (slice_index least k) ≡ slice_index numbers k)
  pub first : (k j : ℕ) → k < length numbers → j < length numbers → slice_index numbers j ≡ slice_index numbers k → slice_index least k ≤ j
