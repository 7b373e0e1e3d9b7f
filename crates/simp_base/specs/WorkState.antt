-- What a simplifier works on.
use Rattle.std.specs.Prelude.{◌≡◌, ◌≢◌, ℕ, ◌≤◌, ◌<◌, ◌||◌, length, Bool, true, false, suc, List, [], ◌∷◌, ◌++◌, map, All, Contains}
use Rattle.std.specs.List.{list_any, slice_index_or}
use Rattle.sat_words.specs.Literal.{Literal, IsOn, same}
use Rattle.sat_words.specs.Clause.{has, distinct_lits, clause_of}
use Rattle.sat_words.specs.FormulaData.{FormulaData}
use Rattle.model_stack.specs.declared.stack.Fix.{Fix}
use Rattle.drat_text.specs.LineState.{LineState}

-- the number of variables, and how many of them clauses that are alive and not held may have; the clauses held, each with its
-- number; the units listed; the reconstruction stack; whether the empty clause was added; the line output
pub record WorkState : Type 0 where
  pub vars : ℕ
  pub unheld : ℕ
  pub clauses : List (ℕ × List Literal)
  pub units : List Literal
  pub stack : List Fix
  pub ended : Bool
  pub output : LineState

-- the clauses without their numbers
abbrev pub lists : List (ℕ × List Literal) → List (List Literal)
lists cs = map (λ c. c.1) cs

-- the units as clauses
abbrev pub unit_clauses : List Literal → List (List Literal)
unit_clauses ls = map (λ l. l ∷ []) ls

-- the literals of units that have the numbers of their clauses
abbrev pub unit_lits : List (Literal × ℕ) → List Literal
unit_lits us = map (λ u. u.0) us

-- the clauses of such units, each with its number
abbrev pub unit_cells : List (Literal × ℕ) → List (ℕ × List Literal)
unit_cells us = map (λ u. (u.1, u.0 ∷ [])) us

-- what a line may rest on: the clauses alive, and the units listed
abbrev pub known : WorkState → List (List Literal)
known w = lists w.clauses ++ unit_clauses w.units

-- Units

-- the clause is this literal alone
abbrev pub is_only : Literal → List Literal → Bool
is_only l [] = false
is_only l (k ∷ []) = same k l
is_only l (k ∷ j ∷ c) = false

-- the unit clause is alive
abbrev pub is_alive_unit : WorkState → Literal → Bool
is_alive_unit w l = list_any (is_only l) (lists w.clauses)

-- the literal is a unit: it is listed, or its clause is alive
abbrev pub is_unit : WorkState → Literal → Bool
is_unit w l = has w.units l || is_alive_unit w l

-- a literal of the variable is a unit
abbrev pub has_unit : WorkState → ℕ → Bool
has_unit w v = is_unit w (record { var = v; neg = false }) || is_unit w (record { var = v; neg = true })

-- What is kept

-- the clause of each of these units is among the clauses, under the unit's number
abbrev pub AreHeld : List (ℕ × List Literal) → List (Literal × ℕ) → Type 0
AreHeld cells units = All (λ u. Contains cells (u.1, u.0 ∷ [])) units

-- no two of the clauses have one number
abbrev pub HaveOwnNumbers : List (ℕ × List Literal) → Type 0
HaveOwnNumbers cs = (i j : ℕ) (d : ℕ × List Literal) → i < j → j < length cs → (slice_index_or cs i d).0 ≢ (slice_index_or cs j d).0

-- the entry of the stack is on the variables
pub record IsFixOn (vars : ℕ) (fix : Fix) : Type 0 where
  pub lit : IsOn vars fix.lit
  pub clause : All (IsOn vars) fix.clause

-- each clause has a number of its own, which was given; all literals are on the variables, those of clauses not held among them;
-- no unit is listed twice; the clause of each listed unit is held
pub record IsWork (w : WorkState) : Type 0 where
  pub unheld : w.unheld ≤ w.vars
  pub numbers : HaveOwnNumbers w.clauses
  pub given : All (λ c. c.0 ≤ w.output.last) w.clauses
  pub clauses_on : All (All (IsOn w.vars)) (lists w.clauses)
  pub units_on : All (IsOn w.vars) w.units
  pub stack_on : All (IsFixOn w.vars) w.stack
  pub distinct : distinct_lits w.units ≡ true
  pub units_held : All (λ l. is_alive_unit w l ≡ true) w.units

-- How it begins

-- the formula's clauses, from this number on
abbrev pub numbered : ℕ → List (List Literal) → List (ℕ × List Literal)
numbered n [] = []
numbered n (c ∷ F) = (n, clause_of c) ∷ numbered (suc n) F

-- nothing was done yet
abbrev pub begun : FormulaData → LineState → WorkState
begun F out = record { vars = F.vars; unheld = 0; clauses = numbered 1 F.clauses; units = []; stack = []; ended = false; output = out }

-- it goes on with these clauses, units with their numbers, and entries of the stack; other clauses that are alive may have any of
-- the variables
abbrev pub resumed : ℕ → List (ℕ × List Literal) → List (Literal × ℕ) → List Fix → LineState → WorkState
resumed vars cells units stack out = record { vars = vars; unheld = vars; clauses = cells; units = unit_lits units; stack = stack; ended = false; output = out }
