-- Which variables occur in the clauses, as an assignment.
use Rattle.std.specs.Prelude.{◌≡◌, ℕ, Bool, List, length, ◌&&◌, ◌||◌}
use Rattle.sat_words.specs.Literal.{Literal}
use Rattle.sat_words.specs.Truth.{value_of}
use Rattle.top_call.specs.Decided.{mentions, occurs}

-- the new assignment is true on the variables on which the old one is, and on those of the clause
pub record Marks (clause : List Literal) (old new : List Bool) : Type 0 where
  pub long : length new ≡ length old
  pub value : (var : ℕ) → value_of new var ≡ (value_of old var || mentions clause var)

-- the assignment is true exactly on the variables that occur in the clauses
pub record IsOccurring (clauses : List (List Literal)) (vars : ℕ) (occurring : List Bool) : Type 0 where
  pub long : length occurring ≡ vars
  pub value : (var : ℕ) → value_of occurring var ≡ occurs clauses var

-- the assignment `model` has the values of `from` on the variables on which `occurring` is true; all others are false
pub record IsBoth (occurring from model : List Bool) : Type 0 where
  pub long : length model ≡ length occurring
  pub value : (var : ℕ) → value_of model var ≡ (value_of occurring var && value_of from var)
