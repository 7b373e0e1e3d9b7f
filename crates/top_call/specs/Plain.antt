-- The plain form of input: the line `p cnf V C`, and after it C clauses, each a line of literals that ends with 0.
use Rattle.std.specs.Prelude.{◌≡◌, ◌≤◌, ◌<◌, ◌^◌, ℕ, List, ◌++◌, map, length, All, codes, decimal}
use Rattle.sat_words.specs.Literal.{Literal, IsOn}
use Rattle.sat_words.specs.Clause.{clause_of}
use Rattle.sat_words.specs.FormulaData.{FormulaData}
use Rattle.sat_words.specs.declared.line.Line.TheVariants.{Add}
use Rattle.drat_text.specs.Text.{text}

-- the first line: one space between its parts, and numbers without leading zeros
abbrev pub header : ℕ → ℕ → List ℕ
header vars clauses = codes "p cnf " ++ decimal vars ++ codes " " ++ decimal clauses ++ codes "\n"

-- a clause as it is written: at most 2^20 literals, each on the variables
pub record IsWritten (vars : ℕ) (lits : List Literal) : Type 0 where
  pub few : length lits ≤ 2 ^ 20
  pub on_variables : All (IsOn vars) lits

-- the bytes spell this formula: its variables and, in order, the sets of the literals of its clauses
pub record Plain (bytes : List ℕ) (formula : FormulaData) : Type 0 where
  pub written : List (List Literal)
  pub spelled : bytes ≡ header formula.vars (length written) ++ text (map Add written)
  pub clauses : formula.clauses ≡ map clause_of written
  pub lawful : All (IsWritten formula.vars) written
  pub few_variables : formula.vars < 2 ^ 28
  pub few_clauses : length written < 2 ^ 28
  pub few_bytes : length bytes ≤ 2 ^ 33
