-- What holds of a trail's tables.
use Rattle.std.specs.Prelude.{◌≡◌, ℕ, ◌<◌, ◌≤◌, ◌+◌, ◌^◌, Bool, List, [], ◌∷◌, Option, None, length, All, ⊤, count_by, vec_capacity}
use Rattle.std.specs.List.{slice_index_or, slice_index}
use Rattle.std.specs.Option.{is_some}
use Rattle.ring_trail.specs.declared.step.TrailStep.{TrailStep}
use Rattle.ring_trail.specs.declared.trail.Trail.TheInside.{Inside}
use Rattle.ring_trail.specs.TrailData.{step_of, value_of, var_at, level_at}

-- no two steps have one variable
abbrev pub IsDistinct : List TrailStep → Type 0
IsDistinct [] = ⊤
IsDistinct (s ∷ steps) = (step_of steps s.lit.var ≡ None) × IsDistinct steps

-- the table of values says the steps
pub record IsKept (steps : List TrailStep) (values : List (Option Bool)) : Type 0 where
  pub first : (0 < length values) × (slice_index_or values 0 None ≡ None)
  pub told : (v : ℕ) → v < length values → slice_index_or values v None ≡ value_of steps v
  pub in_range : All (λ (s : TrailStep). s.lit.var < length values) steps
  pub distinct : IsDistinct steps
  pub counted : count_by is_some values ≡ length steps

-- the table of places tells where they stand
abbrev pub ArePlaces : List TrailStep → List ℕ → Type 0
ArePlaces steps places = (p : ℕ) → p < length steps → slice_index places (var_at steps p) ≡ p

-- the start of level k + 1: its first step, which parts the steps up to level k from the others
pub record Parts (steps : List TrailStep) (k start : ℕ) : Type 0 where
  pub low : start < length steps
  pub many : k ≤ start
  pub at : level_at steps start ≡ k + 1
  pub below : (p : ℕ) → p < start → level_at steps p ≤ k
  pub above : (p : ℕ) → start ≤ p → p < length steps → k < level_at steps p

-- the tables of a trail agree with its steps, which every call keeps
pub record IsInside (t : Inside) : Type 0 where
  pub kept : IsKept t.steps.items t.values
  pub placed : ArePlaces t.steps.items t.places.items
  pub range : length t.values ≡ t.vars + 1
  pub sizes : length t.places.items ≡ length t.values
  pub parts : (k : ℕ) → k < length t.starts.items → Parts t.steps.items k (slice_index t.starts.items k)
  pub levels : (p : ℕ) → p < length t.steps.items → level_at t.steps.items p ≤ length t.starts.items
  pub done : t.done ≤ length t.steps.items
  pub small : t.vars ≤ 2 ^ 30
  pub room : t.vars + 1 ≤ vec_capacity t.steps
  pub room_starts : t.vars + 1 ≤ vec_capacity t.starts
