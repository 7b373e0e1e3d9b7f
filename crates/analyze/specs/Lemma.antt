-- What follows from a conflict.
use Rattle.std.specs.Prelude.{◌≡◌, ℕ, ◌<◌, true, List, [], ◌∷◌, length}
use Rattle.sat_words.specs.Literal.{Literal, opposite}
use Rattle.sat_words.specs.Clause.{has}
use Rattle.rup_model.specs.Rup.{rup}
use Rattle.ring_port.specs.PortState.{PortState, known}
use Rattle.ring_port.specs.Port.{IsClause}
use Rattle.ring_trail.specs.declared.step.TrailStep.{TrailStep}
use Rattle.ring_trail.specs.TrailData.{TrailData, FalseBefore, lit_at}
use Rattle.analyze.specs.Levels.{greatest, level_of_lit, levels_of, clause_level, count_of_levels}
use Rattle.ring_port.specs.PortState.{clause_at}
use Rattle.analyze.specs.Walk.{IsFirstPoint}
use Rattle.analyze.specs.Removable.{IsNeeded}
use Rattle.analyze.specs.declared.analysis.Conclusion.{Conclusion}
use Rattle.analyze.specs.declared.analysis.Conclusion.TheVariants.{Empty, Lemma}

-- the negation of the literal at a place
abbrev pub negated_at : List TrailStep → ℕ → Literal
negated_at steps p = opposite (lit_at steps p)

-- the minimised clause of the walk: the negation of the point's literal, and those of the needed places in any order
pub record IsMinimisedClause (s : PortState) (steps : List TrailStep) (conflict : List Literal) (first : Literal) (rest : List Literal) : Type 0 where
  pub place : ℕ
  pub point : IsFirstPoint (clause_at s) steps (clause_level steps conflict) conflict place
  pub first_is : first ≡ negated_at steps place
  pub all : (p : ℕ) → IsNeeded (clause_at s) steps (clause_level steps conflict) conflict place p → has rest (negated_at steps p) ≡ true
  pub only : (k : Literal) → has rest k ≡ true → (p : ℕ) × IsNeeded (clause_at s) steps (clause_level steps conflict) conflict place p × (k ≡ negated_at steps p)

-- the literal is false, and above level 0
pub record IsFalseAbove (steps : List TrailStep) (k : Literal) : Type 0 where
  pub false_now : FalseBefore steps (length steps) k
  pub above : 0 < level_of_lit steps k

-- the lemma of a conflict, the asserting literal first
pub record IsLemma (s : PortState) (t : TrailData) (conflict lits : List Literal) (back glue : ℕ) : Type 0 where
  pub first : Literal
  pub rest : List Literal
  pub parts : lits ≡ first ∷ rest
  -- it follows by unit propagation from what is held and seen
  pub implied : rup (known s) lits ≡ true
  -- its literals differ, and none is another's negation
  pub clause : IsClause t.vars lits
  -- all of them are false above level 0
  pub all_false : (k : Literal) → has lits k ≡ true → IsFalseAbove t.steps k
  -- the first alone is of the conflict's level
  pub asserting : level_of_lit t.steps first ≡ clause_level t.steps conflict
  pub below : (k : Literal) → has rest k ≡ true → level_of_lit t.steps k < clause_level t.steps conflict
  -- the level to backjump to is the greatest of the others' levels, and the glue is how many levels they have
  pub back_is : back ≡ greatest (levels_of t.steps rest)
  pub glue_is : glue ≡ count_of_levels t.steps rest
  -- they are those of the walk, except the removable ones
  pub minimised : IsMinimisedClause s t.steps conflict first rest

-- at level 0 the empty clause follows; above it there is a lemma
abbrev pub IsConclusion : PortState → TrailData → List Literal → List Literal → Conclusion → Type 0
IsConclusion s t conflict lits Empty = (clause_level t.steps conflict ≡ 0) × (rup (known s) [] ≡ true)
IsConclusion s t conflict lits (Lemma back glue) = (0 < clause_level t.steps conflict) × IsLemma s t conflict lits back glue
