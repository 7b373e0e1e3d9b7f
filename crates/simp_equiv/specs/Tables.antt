-- A table, by code, of what stands for each literal.
use Rattle.std.specs.Prelude.{◌≡◌, ◌≢◌, ℕ, ◌+◌, ◌*◌, ◌^◌, ◌<◌, ◌≤◌, Bool, List, length, Option, None, Some}
use Rattle.std.specs.List.{slice_index, slice_index_or}
use Rattle.sat_words.specs.Literal.{Literal, IsOn, opposite, code_of, literal_of}
use Rattle.simp_base.specs.WorkState.{WorkState}
use Rattle.simp_equiv.specs.Graphs.{Connected}
use Rattle.simp_equiv.specs.Implications.{Implies, Implied, StandsFor, IsConsistent}

-- the literal at the code's place; itself where the table ends before
abbrev pub stand_in : List ℕ → Literal → Literal
stand_in t l = literal_of (slice_index_or t (code_of l) (code_of l))

-- the table says what stands for each literal, by one code for each component; another one stands only for literals of
-- the variables from 1 to vars, and never above 2^30
pub record IsTable (fixed : ℕ → Bool) (G : List (List Literal)) (vars : ℕ) (t : List ℕ) : Type 0 where
  pub size : length t ≡ 2 * vars + 2
  pub stands : (l : Literal) → StandsFor (Implies fixed G) l (stand_in t l)
  pub one : (k l : Literal) → k.var ≤ vars → l.var ≤ vars → Connected (Implies fixed G) k l → slice_index t (code_of k) ≡ slice_index t (code_of l)
  pub low : (k l : Literal) → Implies fixed G k l → IsOn vars k × (k.var ≤ 2 ^ 30)

-- a literal that is in one component with its negation, or that there is none
abbrev pub IsClash : WorkState → Option Literal → Type 0
IsClash w None = IsConsistent (Implied w)
IsClash w (Some l) = IsOn w.vars l × Connected (Implied w) l (opposite l)

-- the literal has a place in the table, and what stands for it is of no later variable
pub record CanStand (t : List ℕ) (l : Literal) : Type 0 where
  pub place : code_of l < length t
  pub low : 1 ≤ (stand_in t l).var
  pub high : (stand_in t l).var ≤ l.var

-- so it is for all literals of these variables
abbrev pub HasPlaces : ℕ → List ℕ → Type 0
HasPlaces vars t = (l : Literal) → IsOn vars l → CanStand t l

-- another literal stands only for those of these variables, and never above 2^30
abbrev pub MovesFew : ℕ → List ℕ → Type 0
MovesFew vars t = (l : Literal) → (stand_in t l).var ≢ l.var → IsOn vars l × (l.var ≤ 2 ^ 30)
