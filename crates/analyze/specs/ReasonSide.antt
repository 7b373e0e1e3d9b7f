-- The reason side of a lemma: the other literals of the reasons of its literals. Its variables are bumped with those of the walk.
use Rattle.std.specs.Prelude.{◌≡◌, ℕ, suc, ◌<◌, ◌≤◌, Bool, true, ◌⊎◌, List, length, Contains, nat_eq}
use Rattle.std.specs.List.{IsDistinct}
use Rattle.sat_words.specs.Literal.{Literal}
use Rattle.sat_words.specs.Clause.{has}
use Rattle.ring_trail.specs.declared.step.TrailStep.{TrailStep}
use Rattle.ring_trail.specs.TrailData.{level_at, var_at}
use Rattle.ring_trail.specs.Reasoned.{Held}
use Rattle.analyze.specs.Levels.{clause_level}
use Rattle.analyze.specs.Walk.{MakesFalse, IsFirstPoint, IsReached}
use Rattle.analyze.specs.Removable.{IsReasonOf}
use Rattle.analyze.specs.Lemma.{negated_at}
use Rattle.analyze.specs.Marks.{marked}

-- place q has one of the other literals of the reason of place p
pub record IsInReason (held : Held) (steps : List TrailStep) (p q : ℕ) : Type 0 where
  pub lits : List Literal
  pub reason : IsReasonOf held steps p lits
  pub before : q < p
  pub falsifies : MakesFalse steps lits q

-- place q has one of the other literals of the reason of a lemma's literal
pub record IsOnReasonSide (held : Held) (steps : List TrailStep) (lemma : List Literal) (q : ℕ) : Type 0 where
  pub place : ℕ
  pub in_range : place < length steps
  pub in_lemma : has lemma (negated_at steps place) ≡ true
  pub in_reason : IsInReason held steps place q

-- the walk down to place u reached the place, or it is on the lemma's reason side
abbrev pub IsAnalyzed : Held → List TrailStep → List Literal → List Literal → ℕ → ℕ → Type 0
IsAnalyzed held steps conflict lemma u q = IsReached held steps (clause_level steps conflict) conflict (suc u) q ⊎ IsOnReasonSide held steps lemma q

-- the variables to bump, each once: exactly those of the places that the walk down to the first unique implication point reached,
-- and of the lemma's reason side
pub record AreAnalyzed (held : Held) (steps : List TrailStep) (conflict lemma : List Literal) (vars : List ℕ) : Type 0 where
  pub place : ℕ
  pub point : IsFirstPoint held steps (clause_level steps conflict) conflict place
  pub all : (q : ℕ) → IsAnalyzed held steps conflict lemma place q → Contains vars (var_at steps q)
  pub only : (v : ℕ) → Contains vars v → (q : ℕ) × IsAnalyzed held steps conflict lemma place q × (v ≡ var_at steps q)
  pub distinct : IsDistinct nat_eq vars

-- the place is above level 0, and its level is at most m
pub record IsUpTo (steps : List TrailStep) (m p : ℕ) : Type 0 where
  pub in_range : p < length steps
  pub above : 1 ≤ level_at steps p
  pub within : level_at steps p ≤ m

-- beside the old marks, exactly those places are marked that have another literal of the reason of one of these places
pub record HasMarkedReasons (held : Held) (steps : List TrailStep) (old new : List Bool) (places : List ℕ) : Type 0 where
  pub kept : (q : ℕ) → marked old q ≡ true → marked new q ≡ true
  pub only : (q : ℕ) → marked new q ≡ true → (marked old q ≡ true) ⊎ ((p : ℕ) × Contains places p × IsInReason held steps p q)
  pub all : (p q : ℕ) → Contains places p → IsInReason held steps p q → marked new q ≡ true
