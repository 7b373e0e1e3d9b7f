-- Which of the places that the walk left are removable. The asserting literal is of a higher level than all of these, so none
-- of their reasons has it.
use Rattle.std.specs.Prelude.{◌≡◌, ℕ, ◌<◌, Bool, true, ◌⊎◌, List, Some}
use Rattle.sat_words.specs.Literal.{Literal}
use Rattle.sat_words.specs.declared.shared.Cref.{Cref}
use Rattle.ring_trail.specs.declared.step.TrailStep.{TrailStep}
use Rattle.ring_trail.specs.TrailData.{reason_at}
use Rattle.ring_trail.specs.Reasoned.{Held}
use Rattle.analyze.specs.Walk.{MakesFalse, IsLeft}

-- the clause is held as the reason of the place
pub record IsReasonOf (held : Held) (steps : List TrailStep) (p : ℕ) (lits : List Literal) : Type 0 where
  pub reason : Cref
  pub reason_is : reason_at steps p ≡ Some reason
  pub held_is : held reason.address ≡ Some lits

-- the place has a held reason, and each earlier place above level 0 that makes one of the reason's literals false has the property
pub record RestsOn (held : Held) (steps : List TrailStep) (P : ℕ → Type 0) (p : ℕ) : Type 0 where
  pub lits : List Literal
  pub reason : IsReasonOf held steps p lits
  pub others : (q : ℕ) → q < p → MakesFalse steps lits q → P q

-- the set has each place whose reason's other literals are at level 0, left by the walk, or in the set
abbrev pub IsRemovableSet : Held → List TrailStep → ℕ → List Literal → ℕ → (ℕ → Bool) → Type 0
IsRemovableSet held steps m conflict u R = (p : ℕ) → RestsOn held steps (λ q. IsLeft held steps m conflict u q ⊎ (R q ≡ true)) p → R p ≡ true

-- the place is in the least such set
abbrev pub IsRemovable : Held → List TrailStep → ℕ → List Literal → ℕ → ℕ → Type 0
IsRemovable held steps m conflict u p = (R : ℕ → Bool) → IsRemovableSet held steps m conflict u R → R p ≡ true

-- a place that stays: the walk left it, and it isn't removable
pub record IsNeeded (held : Held) (steps : List TrailStep) (m : ℕ) (conflict : List Literal) (u p : ℕ) : Type 0 where
  pub left : IsLeft held steps m conflict u p
  pub not_removable : IsRemovable held steps m conflict u p → ⊥
