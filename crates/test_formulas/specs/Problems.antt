-- What the search of a formula starts from, if no line of a proof stands yet.
use Rattle.std.specs.Prelude.{◌≡◌, ℕ, false, List, [], ◌∷◌, map, All, Some}
use Rattle.std.specs.List.{list_any}
use Rattle.sat_words.specs.Literal.{Literal, IsOn}
use Rattle.sat_words.specs.Clause.{clause_of, is_empty}
use Rattle.sat_words.specs.FormulaData.{FormulaData}
use Rattle.rup_model.specs.Journal.{formula_clause}
use Rattle.rup_model.specs.Opening.{AreAscending, IsLong, IsOpening, Start}

-- start clauses with their numbers
abbrev pub starts_of : List (ℕ × List Literal) → List Start
starts_of ss = map (λ s. record { number = s.0; lits = s.1 }) ss

-- two literals or more without opposites, in the order of a clause and on these variables
pub record IsFine (vars : ℕ) (c : List Literal) : Type 0 where
  pub shape : IsLong c
  pub ordered : clause_of c ≡ c
  pub on : All (IsOn vars) c

-- a search of the formula may start from these clauses, in order of number, and these units, which are listed with the numbers of
-- their clauses
pub record IsProblem (f : FormulaData) (ss : List (ℕ × List Literal)) (us : List Literal) (ns : List (Literal × ℕ)) : Type 0 where
  pub opens : IsOpening f.clauses (record { journal = []; starts = starts_of ss; units = us })
  pub ascending : AreAscending (starts_of ss)
  pub going : list_any is_empty f.clauses ≡ false
  pub starts_on : All (λ s. All (IsOn f.vars) s.1) ss
  pub units_on : All (IsOn f.vars) us
  pub listed : map (λ u. u.0) ns ≡ us
  pub numbered : All (λ u. formula_clause f.clauses u.1 ≡ Some (u.0 ∷ [])) ns
