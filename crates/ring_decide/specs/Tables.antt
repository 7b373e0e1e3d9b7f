-- What holds of tables with an entry for each variable.
use Rattle.std.specs.Prelude.{◌≡◌, ℕ, ◌<◌, ◌≤◌, ◌-◌, ◌/◌, ◌^◌, Bool, true, false, List, length}
use Rattle.std.specs.List.{slice_index, slice_index_or}

-- no entry is above the bound
abbrev pub AreUpTo : ℕ → List ℕ → Type 0
AreUpTo n xs = (i : ℕ) → i < length xs → slice_index xs i ≤ n

-- the variable is one of those that are marked, variable 1 first
pub record IsMarked (marks : List Bool) (v : ℕ) : Type 0 where
  pub low : 1 ≤ v
  pub high : v ≤ length marks
  pub active : slice_index_or marks (v - 1) false ≡ true

-- only variables that are marked have an entry above 0
abbrev pub AreOfMarked : List Bool → List ℕ → Type 0
AreOfMarked marks xs = (v : ℕ) → v ≤ length marks → 0 < slice_index xs v → IsMarked marks v

-- each score was divided by 2 to the power of 48
pub record AreLowered (old new : List ℕ) : Type 0 where
  pub len : length new ≡ length old
  pub each : (i : ℕ) → i < length old → slice_index new i ≡ slice_index old i / 2 ^ 48
