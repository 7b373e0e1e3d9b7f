-- A value for each place of a table, and the places that were marked.
use Rattle.std.specs.Prelude.{ℕ, List, [], ◌∷◌, ◌++◌, replicate, slice_set}

-- the value of a place that isn't marked, the values by place, and the marked places in the order in which they were marked
pub record MarksData (T : Type 0) : Type 0 where
  pub blank : T
  pub values : List T
  pub touched : List ℕ

-- n places, none of them marked
abbrev pub all_blank : {T : Type 0} → ℕ → T → MarksData T
all_blank n x = record { blank = x; values = replicate n x; touched = [] }

-- one more place is marked, with this value
abbrev pub with_mark : {T : Type 0} → MarksData T → ℕ → T → MarksData T
with_mark m p x = record { blank = m.blank; values = slice_set m.values p x; touched = m.touched ++ p ∷ [] }
