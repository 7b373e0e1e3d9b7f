-- An assignment that changes, and one that was kept.
use Rattle.std.specs.Prelude.{ℕ, ◌-◌, Bool, not, List, slice_set}
use Rattle.std.specs.Bool.{beq}
use Rattle.sat_words.specs.Truth.{value_of}

-- what contracts see: the assignment as it is now, and the one that was kept
pub record KeptData : Type 0 where
  pub values : List Bool
  pub best : List Bool

-- the assignment with the other value for a variable
abbrev pub turned : List Bool → ℕ → List Bool
turned a v = slice_set a (v - 1) (not (value_of a v))

-- the test whether two assignments have different values for a variable
abbrev pub differs : List Bool → List Bool → ℕ → Bool
differs a b v = not (beq (value_of a v) (value_of b v))
