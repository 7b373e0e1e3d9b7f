-- A list of which one element is gone, its place taken by the last.
use Rattle.std.specs.Prelude.{◌≡◌, ◌≢◌, ℕ, ◌+◌, ◌-◌, ◌<◌, List, length}
use Rattle.std.specs.List.{slice_index_or, sum_by}

-- the element at this place is gone, the last one stands there, and the others stand if they stood
pub record Removed {X : Type 0} (old new : List X) (i : ℕ) : Type 0 where
  pub within : i < length old
  pub len : length new + 1 ≡ length old
  pub here : (d : X) → i + 1 < length old → slice_index_or new i d ≡ slice_index_or old (length old - 1) d
  pub else : (k : ℕ) (d : X) → k ≢ i → k + 1 < length old → slice_index_or new k d ≡ slice_index_or old k d
  pub weighs : (weight : X → ℕ) (d : X) → sum_by weight new + weight (slice_index_or old i d) ≡ sum_by weight old
