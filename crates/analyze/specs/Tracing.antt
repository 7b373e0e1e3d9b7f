-- What hints rest on. From a clause that is false one goes back along the trail, from each place to the others of its reason, until
-- places are reached that make a literal of the line false, or that are at level 0.
use Rattle.std.specs.Prelude.{◌≡◌, ◌⊎◌, ℕ, ◌<◌, Bool, true, false, List, length}
use Rattle.sat_words.specs.Literal.{Literal, opposite}
use Rattle.sat_words.specs.Clause.{has}
use Rattle.ring_trail.specs.declared.step.TrailStep.{TrailStep}
use Rattle.ring_trail.specs.TrailData.{IsFalseOn, lit_at, level_at}
use Rattle.ring_trail.specs.Reasoned.{Held}
use Rattle.analyze.specs.Walk.{MakesFalse}
use Rattle.analyze.specs.Removable.{RestsOn}

-- each place above level 0 of the set makes a literal of the line false, or its reason's other literals are false by places of the set
abbrev pub IsSupport : Held → List TrailStep → List Literal → (ℕ → Bool) → Type 0
IsSupport held steps line S =
    (p : ℕ) → p < length steps → 0 < level_at steps p → S p ≡ true → (has line (opposite (lit_at steps p)) ≡ true) ⊎ RestsOn held steps (λ q. S q ≡ true) p

-- each literal of the clause is one of the line or false, none of the line is true, and the places above level 0 that make the clause
-- false are supported
pub record CanTraceClause (held : Held) (steps : List TrailStep) (line c : List Literal) : Type 0 where
  pub refuted : (k : Literal) → has c k ≡ true → (has line k ≡ true) ⊎ IsFalseOn steps k
  pub none_true : (p : ℕ) → p < length steps → has line (lit_at steps p) ≡ false
  pub support : ℕ → Bool
  pub supports : IsSupport held steps line support
  pub starts : (p : ℕ) → MakesFalse steps c p → support p ≡ true

-- the literal at the place is one of the line, no earlier one is, and its negation isn't; the place is supported, unless it is at level 0
pub record CanTraceLiteral (held : Held) (steps : List TrailStep) (line : List Literal) (place : ℕ) : Type 0 where
  pub in_range : place < length steps
  pub true_there : has line (lit_at steps place) ≡ true
  pub none_before : (p : ℕ) → p < place → has line (lit_at steps p) ≡ false
  pub apart : has line (opposite (lit_at steps place)) ≡ false
  pub support : ℕ → Bool
  pub supports : IsSupport held steps line support
  pub starts : 0 < level_at steps place → support place ≡ true
