-- What holds of a table of marks.
use Rattle.std.specs.Prelude.{◌≡◌, ℕ, ◌<◌, ◌≤◌, false, length, All, nat_eq, vec_capacity}
use Rattle.std.specs.List.{slice_index_or}
use Rattle.std.specs.Set.{is_member}
use Rattle.analyze.specs.declared.marks.Marks.TheInside.{Inside}

-- there is room to list each place, and a place that isn't listed is blank
pub record IsInside (T : Type 0) (m : Inside T) : Type 0 where
  pub room : length m.values.items ≤ vec_capacity m.touched
  pub in_range : All (λ p. p < length m.values.items) m.touched.items
  pub others : (p : ℕ) → is_member nat_eq m.touched.items p ≡ false → slice_index_or m.values.items p m.blank ≡ m.blank
