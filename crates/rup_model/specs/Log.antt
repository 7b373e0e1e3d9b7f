-- The log: lines of a DRAT proof, what they leave alive, and which of them are valid.
use Rattle.std.specs.Prelude.{◌≡◌, ℕ, ◌≤◌, Bool, true, not, ◌&&◌, ◌||◌, List, [], ◌∷◌, ◌++◌, if◌then◌else◌}
use Rattle.std.specs.List.{list_any, fold, count_by, All}
use Rattle.sat_words.specs.Literal.{Literal}
use Rattle.sat_words.specs.Clause.{same_set, just_one}
use Rattle.sat_words.specs.declared.line.Line.{Line}
use Rattle.sat_words.specs.declared.line.Line.TheVariants.{Add, Del}
use Rattle.rup_model.specs.Basics.{EachAfter}
use Rattle.rup_model.specs.Rup.{rup, rat}

-- how many of the clauses have the literals of c
abbrev pub copies : List Literal → List (List Literal) → ℕ
copies c G = count_by (same_set c) G

-- the clauses without the first that has the literals of c
abbrev pub without_copy : List Literal → List (List Literal) → List (List Literal)
without_copy c [] = []
without_copy c (d ∷ G) = if same_set c d then G else d ∷ without_copy c G

-- an addition adds one copy, a deletion takes one away
abbrev pub alive_after : List (List Literal) → Line → List (List Literal)
alive_after G (Add c) = c ∷ G
alive_after G (Del c) = without_copy c G

-- the clauses that the formula and the lines leave, each as often as it is alive
abbrev pub alive : List (List Literal) → List Line → List (List Literal)
alive F L = fold alive_after F L

-- an addition is RUP, or RAT on its first literal; a deletion has a copy and does not have just one literal
abbrev pub is_valid : List (List Literal) → Line → Bool
is_valid G (Add c) = rup G c || rat G c
is_valid G (Del c) = list_any (same_set c) G && not (just_one c)

-- each line is valid over what is alive before it
abbrev pub Accepted : List (List Literal) → List Line → Type 0
Accepted F L = EachAfter (λ before x. is_valid (alive F before) x ≡ true) [] L

-- accepted, and the last line adds the empty clause
pub record Refutes (F : List (List Literal)) (L : List Line) : Type 0 where
  pub accepted : Accepted F L
  pub ends : (before : List Line) × (L ≡ before ++ Add [] ∷ [])

-- the literals of a line
abbrev pub lits_of : Line → List Literal
lits_of (Add c) = c
lits_of (Del c) = c

-- all literals are on variables from 1 on
abbrev pub OnVariables : List Line → Type 0
OnVariables L = All (λ x. All (λ l. 1 ≤ l.var) (lits_of x)) L
