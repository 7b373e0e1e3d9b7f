-- A trail of what is true while hints are looked for: literals that are given, and literals that clauses with numbers force. A unit, whose
-- clause is alive, counts as true from the beginning.
use Rattle.std.specs.Prelude.{◌≡◌, ◌≢◌, ◌⊎◌, ℕ, suc, ◌<◌, Bool, true, false, List, length, Option, Some, None, Contains}
use Rattle.std.specs.List.{slice_index_or}
use Rattle.sat_words.specs.Literal.{Literal, opposite, code_of}
use Rattle.sat_words.specs.Clause.{has}
use Rattle.simp_base.specs.Tables.{IsUnit}
use Rattle.simp_base.specs.declared.hints.trail.Step.{Step}

-- the steps, and how many codes of literals there are
pub record TrailData : Type 0 where
  pub steps : List Step
  pub codes : ℕ

-- the step at a place beyond the end
abbrev pub no_step : Step
no_step = record { lit = record { var = 0; neg = false }; reason = None }

-- the literal at a place
abbrev pub lit_at : List Step → ℕ → Literal
lit_at steps p = (slice_index_or steps p no_step).lit

-- the number of the clause that forced the literal at a place; none if it is given
abbrev pub reason_at : List Step → ℕ → Option ℕ
reason_at steps p = (slice_index_or steps p no_step).reason

-- the literal stands at a place before the bound
pub record TrueBefore (steps : List Step) (bound : ℕ) (l : Literal) : Type 0 where
  pub place : ℕ
  pub before : place < bound
  pub true_there : lit_at steps place ≡ l

-- the literal is true by its unit clause, or by a step before the bound
abbrev pub IsTrueBy : List (ℕ × List Literal) → List Step → ℕ → Literal → Type 0
IsTrueBy cells steps bound l = IsUnit cells l ⊎ TrueBefore steps bound l

-- the clause with this number has the literal at the place, and its others are false by units or by steps before
pub record IsUp (cells : List (ℕ × List Literal)) (steps : List Step) (p number : ℕ) : Type 0 where
  pub clause : List Literal
  pub there : Contains cells (number, clause)
  pub has_lit : has clause (lit_at steps p) ≡ true
  pub others : (k : Literal) → has clause k ≡ true → (k ≡ lit_at steps p) ⊎ IsTrueBy cells steps p (opposite k)

-- all literals of the clause with this number are false
pub record IsFalsified (cells : List (ℕ × List Literal)) (steps : List Step) (number : ℕ) : Type 0 where
  pub clause : List Literal
  pub there : Contains cells (number, clause)
  pub all_false : (k : Literal) → has clause k ≡ true → IsTrueBy cells steps (length steps) (opposite k)

-- a start with which hints can go on from the units: no two are opposite, and none is opposite to a literal of the start
pub record IsStart (cells : List (ℕ × List Literal)) (start : Literal → Bool) : Type 0 where
  pub agree : (u : Literal) → IsUnit cells u → IsUnit cells (opposite u) → ⊥
  pub open_yet : (u : Literal) → IsUnit cells u → start (opposite u) ≡ false

-- the given steps are those of the start; each other step's clause forces its literal, whose variable has no unit; no variable
-- stands twice
pub record IsTrail (cells : List (ℕ × List Literal)) (start : Literal → Bool) (steps : List Step) : Type 0 where
  pub given : (p : ℕ) → p < length steps → reason_at steps p ≡ None → start (lit_at steps p) ≡ true
  pub all : (l : Literal) → start l ≡ true → (p : ℕ) × (p < length steps) × (reason_at steps p ≡ None) × (lit_at steps p ≡ l)
  pub up : (p n : ℕ) → p < length steps → reason_at steps p ≡ Some n → IsUp cells steps p n
  pub apart : (p n : ℕ) → p < length steps → reason_at steps p ≡ Some n → (u : Literal) → IsUnit cells u → u.var ≢ (lit_at steps p).var
  pub distinct : (p q : ℕ) → p < length steps → q < length steps → (lit_at steps p).var ≡ (lit_at steps q).var → p ≡ q

-- The tables of the trail

-- by the code of a literal, one more than its place; 0 if it has none
pub record ArePlaces (steps : List Step) (places : List ℕ) : Type 0 where
  pub there : (k p : ℕ) → slice_index_or places k 0 ≡ suc p → (p < length steps) × (code_of (lit_at steps p) ≡ k)
  pub back : (p : ℕ) → p < length steps → (code_of (lit_at steps p) < length places) × (slice_index_or places (code_of (lit_at steps p)) 0 ≡ suc p)
