-- What decides: which variables are active, and the phase of each. Variables are 1 to the number of entries.
use Rattle.std.specs.Prelude.{◌≡◌, ℕ, ◌-◌, ◌≤◌, Bool, true, false, not, List, length, None, IsSome}
use Rattle.std.specs.List.{slice_index_or}
use Rattle.sat_words.specs.Literal.{Literal}
use Rattle.ring_trail.specs.declared.step.TrailStep.{TrailStep}
use Rattle.ring_trail.specs.TrailData.{value_of}

-- which variables are decided, and the phase of each variable, variable 1 first
pub record DeciderData : Type 0 where
  pub active : List Bool
  pub phase : List Bool

-- the variable is one that is decided
pub record IsActive (d : DeciderData) (v : ℕ) : Type 0 where
  pub low : 1 ≤ v
  pub high : v ≤ length d.active
  pub active : slice_index_or d.active (v - 1) false ≡ true

-- the value that the variable is given
abbrev pub phase_of : DeciderData → ℕ → Bool
phase_of d v = slice_index_or d.phase (v - 1) false

-- the literal of an active variable without a value, by its phase
pub record IsDecided (d : DeciderData) (steps : List TrailStep) (l : Literal) : Type 0 where
  pub active : IsActive d l.var
  pub free : value_of steps l.var ≡ None
  pub sign : l.neg ≡ not (phase_of d l.var)

-- every active variable has a value
abbrev pub AllValued : DeciderData → List TrailStep → Type 0
AllValued d steps = (v : ℕ) → IsActive d v → IsSome (value_of steps v)
