-- In which order hints stand, and what each of them is for.
use Rattle.std.specs.Prelude.{◌≡◌, ◌⊎◌, ℕ, ◌<◌, true, List, [], ◌∷◌, ◌++◌, length, Some, Contains}
use Rattle.std.specs.List.{AllZip}
use Rattle.std.specs.List.Sorted.{IsStrictlyIncreasing}
use Rattle.sat_words.specs.Literal.{Literal, opposite}
use Rattle.sat_words.specs.Clause.{has}
use Rattle.rup_model.specs.Hints.{numbered}
use Rattle.ring_port.specs.PortState.{PortState, clause_at, known_at}
use Rattle.ring_trail.specs.declared.step.TrailStep.{TrailStep}
use Rattle.ring_trail.specs.TrailData.{TrailData, IsTrail, lit_at, level_at, up_to}
use Rattle.ring_trail.specs.Reasoned.{IsDecision, IsReasoned}
use Rattle.analyze.specs.Removable.{IsReasonOf}

-- the place is at level 0, and the port knows a number of its unit
pub record IsToldAt (s : PortState) (steps : List TrailStep) (p : ℕ) : Type 0 where
  pub level : level_at steps p ≡ 0
  pub number : ℕ
  pub told : Contains s.told (lit_at steps p, number)

-- the clause that shows why the literal at the place is true: its unit if it is told, else its reason
abbrev pub IsCause : PortState → List TrailStep → ℕ → List Literal → Type 0
IsCause s steps p c = (IsToldAt s steps p × (c ≡ lit_at steps p ∷ [])) ⊎ ((IsToldAt s steps p → ⊥) × IsReasonOf (clause_at s) steps p c)

-- the number is that of the clause that shows why the literal at the place is true
pub record NamesCause (s : PortState) (steps : List TrailStep) (p n : ℕ) : Type 0 where
  pub in_range : p < length steps
  pub lits : List Literal
  pub cause : IsCause s steps p lits
  pub names : numbered (known_at s) n ≡ Some lits

-- a later place with the property uses this one: its literal is true by a clause of which this place makes a literal false
pub record IsUsed (s : PortState) (steps : List TrailStep) (P : ℕ → Type 0) (p : ℕ) : Type 0 where
  pub place : ℕ
  pub later : p < place
  pub has_property : P place
  pub lits : List Literal
  pub cause : IsCause s steps place lits
  pub falsifies : has lits (opposite (lit_at steps p)) ≡ true

-- the hints are in the order of the trail: first the numbers of the clauses that show why the literals at some places are true, in the
-- order of the places, then the number of the last clause, which is false; each of the places makes a literal of the last clause false,
-- or a later one of them uses it
pub record AreInTrailOrder (s : PortState) (steps : List TrailStep) (last : List Literal) (hints : List ℕ) : Type 0 where
  pub places : List ℕ
  pub before : List ℕ
  pub number : ℕ
  pub rising : IsStrictlyIncreasing places
  pub causes : AllZip (NamesCause s steps) places before
  pub names : numbered (known_at s) number ≡ Some last
  pub hints_are : hints ≡ before ++ number ∷ []
  pub used : (p : ℕ) → Contains places p → (has last (opposite (lit_at steps p)) ≡ true) ⊎ IsUsed s steps (Contains places) p

-- each literal that was decided is the negation of one of the line
abbrev pub DecidesAgainst : List TrailStep → List Literal → Type 0
DecidesAgainst steps line = (p : ℕ) → p < length steps → IsDecision steps p → has line (opposite (lit_at steps p)) ≡ true

-- the hints of a line are in the order of a trail that has these steps at level 0; what was decided on it are negations of the line's
-- literals, and each other literal has its cause
pub record AreTraced (s : PortState) (start : List TrailStep) (line : List Literal) (hints : List ℕ) : Type 0 where
  pub trail : TrailData
  pub shape : IsTrail trail
  pub low : up_to 0 trail.steps ≡ up_to 0 start
  pub reasoned : IsReasoned (clause_at s) s.seen trail.steps
  pub decided : DecidesAgainst trail.steps line
  pub last : List Literal
  pub order : AreInTrailOrder s trail.steps last hints
