-- What contracts see of a walker, and what they count of its clauses.
use Rattle.std.specs.Prelude.{◌≡◌, ℕ, ◌≤◌, Bool, true, false, not, ◌==◌, List, length}
use Rattle.std.specs.List.{All, count_by, list_any}
use Rattle.sat_words.specs.Literal.{Literal}
use Rattle.sat_words.specs.Truth.{value_of, lit_true, clause_true}
use Rattle.ring_walk.specs.Truths.{is_sole}

-- the clauses; which variables have a unit; the assignment as it is now, and the best one of the last walk; and the false clauses by
-- their places, in an order of the walker's own. Variable 1 comes first
pub record WalkData : Type 0 where
  pub clauses : List (List Literal)
  pub fixed : List Bool
  pub values : List Bool
  pub best : List Bool
  pub order : List ℕ

-- how many of the clauses are false under an assignment
abbrev pub false_under : List (List Literal) → List Bool → ℕ
false_under G a = count_by (λ c. not (clause_true a c)) G

-- how many of the clauses are true under an assignment by the literal of a variable alone
abbrev pub broken_under : List (List Literal) → List Bool → ℕ → ℕ
broken_under G a v = count_by (is_sole (lit_true a) v) G

-- the test whether a unit is of the variable
abbrev pub is_unit_of : List Literal → ℕ → Bool
is_unit_of units v = list_any (λ l. l.var == v) units

-- a walker of these clauses: the units are true, and each other variable has the value that it has in the assignment
pub record IsNew (vars : ℕ) (G : List (List Literal)) (units : List Literal) (first : List Bool) (w : WalkData) : Type 0 where
  pub clauses : w.clauses ≡ G
  pub long : length w.values ≡ vars
  pub fixed : (v : ℕ) → value_of w.fixed v ≡ is_unit_of units v
  pub made : All (λ l. lit_true w.values l ≡ true) units
  pub others : (v : ℕ) → v ≤ vars → is_unit_of units v ≡ false → value_of w.values v ≡ value_of first v
  pub best : w.best ≡ w.values
