-- The walk from a conflict back along the trail, in the implication graph. A forced literal leads to the other literals of its
-- reason, which became false before it. Literals at level 0 are left out.
use Rattle.std.specs.Prelude.{◌≡◌, ℕ, suc, ◌<◌, ◌≤◌, Bool, true, List, length, Some}
use Rattle.sat_words.specs.Literal.{Literal, opposite}
use Rattle.sat_words.specs.Clause.{has}
use Rattle.sat_words.specs.declared.shared.Cref.{Cref}
use Rattle.ring_trail.specs.declared.step.TrailStep.{TrailStep}
use Rattle.ring_trail.specs.TrailData.{lit_at, level_at, reason_at}
use Rattle.ring_trail.specs.Reasoned.{Held}

-- the literal at this place is above level 0 and makes one of the clause false
pub record MakesFalse (steps : List TrailStep) (c : List Literal) (p : ℕ) : Type 0 where
  pub in_range : p < length steps
  pub above : 0 < level_at steps p
  pub has_opposite : has c (opposite (lit_at steps p)) ≡ true

-- place p has another literal of the reason of place q, which is of level m and not before place i
pub record LeadsTo (held : Held) (steps : List TrailStep) (m i q p : ℕ) : Type 0 where
  pub in_range : q < length steps
  pub from_here : i ≤ q
  pub level : level_at steps q ≡ m
  pub reason : Cref
  pub lits : List Literal
  pub reason_is : reason_at steps q ≡ Some reason
  pub held_is : held reason.address ≡ Some lits
  pub before : p < q
  pub falsifies : MakesFalse steps lits p

-- the set has the places that make the conflict false, and with each place those that it leads to
pub record IsWalkSet (held : Held) (steps : List TrailStep) (m : ℕ) (conflict : List Literal) (i : ℕ) (R : ℕ → Bool) : Type 0 where
  pub starts : (p : ℕ) → MakesFalse steps conflict p → R p ≡ true
  pub goes_on : (q p : ℕ) → R q ≡ true → LeadsTo held steps m i q p → R p ≡ true

-- the walk from the conflict down to place i marks the place: it is in the least such set
abbrev pub IsReached : Held → List TrailStep → ℕ → List Literal → ℕ → ℕ → Type 0
IsReached held steps m conflict i p = (R : ℕ → Bool) → IsWalkSet held steps m conflict i R → R p ≡ true

-- the first unique implication point: once the walk is down at it, no earlier place of the conflict's level is marked; and at each
-- marked place of that level after it, an earlier one is marked
pub record IsFirstPoint (held : Held) (steps : List TrailStep) (m : ℕ) (conflict : List Literal) (u : ℕ) : Type 0 where
  pub in_range : u < length steps
  pub level : level_at steps u ≡ m
  pub reached : IsReached held steps m conflict (suc u) u
  pub alone : (p : ℕ) → p < u → level_at steps p ≡ m → IsReached held steps m conflict (suc u) p → ⊥
  pub first : (v : ℕ) → u < v → v < length steps → level_at steps v ≡ m → IsReached held steps m conflict (suc v) v
      → (p : ℕ) × (p < v) × (level_at steps p ≡ m) × IsReached held steps m conflict (suc v) p

-- a place that the walk leaves in the clause beside the point: it is marked, and of a lower level than the conflict's
pub record IsLeft (held : Held) (steps : List TrailStep) (m : ℕ) (conflict : List Literal) (u p : ℕ) : Type 0 where
  pub in_range : p < length steps
  pub above : 0 < level_at steps p
  pub lower : level_at steps p < m
  pub reached : IsReached held steps m conflict (suc u) p
