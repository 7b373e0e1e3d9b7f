-- Marks on places.
use Rattle.std.specs.Prelude.{◌≡◌, ℕ, zero, suc, ◌+◌, ◌<◌, ◌≤◌, Bool, true, false, ◌&&◌, ◌⊎◌, nat_eq, cond, List, length}
use Rattle.std.specs.List.{slice_index_or, IsDistinct}
use Rattle.std.specs.Set.{is_member}
use Rattle.sat_words.specs.Literal.{Literal}
use Rattle.sat_words.specs.Clause.{has}
use Rattle.ring_trail.specs.declared.step.TrailStep.{TrailStep}
use Rattle.ring_trail.specs.TrailData.{FalseBefore, lit_at, level_at, var_at}
use Rattle.ring_trail.specs.Reasoned.{Held}
use Rattle.analyze.specs.MarksData.{MarksData}
use Rattle.analyze.specs.Walk.{MakesFalse, IsFirstPoint, IsReached}

-- the test whether a place is marked
abbrev pub marked : List Bool → ℕ → Bool
marked marks p = slice_index_or marks p false

-- the test whether a place is marked and of this level
abbrev pub is_open : List TrailStep → ℕ → List Bool → ℕ → Bool
is_open steps m marks p = marked marks p && nat_eq (level_at steps p) m

-- how many places below n are marked and of this level
unfoldable pub open_below : List TrailStep → ℕ → List Bool → ℕ → ℕ
open_below steps m marks zero = 0
open_below steps m marks (suc n) = open_below steps m marks n + cond (is_open steps m marks n) 1 0

-- the marks are on places above level 0 and of levels up to m, and each marked place is listed once
pub record IsMarking (steps : List TrailStep) (vars m : ℕ) (marks : MarksData Bool) : Type 0 where
  pub blank : marks.blank ≡ false
  pub size : length marks.values ≡ vars
  pub in_range : (p : ℕ) → marked marks.values p ≡ true → p < length steps
  pub above : (p : ℕ) → marked marks.values p ≡ true → 0 < level_at steps p
  pub within : (p : ℕ) → marked marks.values p ≡ true → level_at steps p ≤ m
  pub listed : (p : ℕ) → is_member nat_eq marks.touched p ≡ marked marks.values p
  pub distinct : IsDistinct nat_eq marks.touched

-- the literal is false before this place, and its level is at most m; or it is the one at this place
pub record CanMark (steps : List TrailStep) (m bound : ℕ) (k : Literal) : Type 0 where
  pub false_or_own : ((bound < length steps) × (k ≡ lit_at steps bound)) ⊎ FalseBefore steps bound k
  pub within : (p : ℕ) → p < bound → var_at steps p ≡ k.var → level_at steps p ≤ m

-- each literal of the clause is so
abbrev pub CanMarkAll : List TrailStep → ℕ → ℕ → List Literal → Type 0
CanMarkAll steps m bound c = (k : Literal) → has c k ≡ true → CanMark steps m bound k

-- the places below the bound that make the clause false are marked too; n of them are newly marked and of this level
pub record HasMarked (steps : List TrailStep) (m : ℕ) (old new : List Bool) (bound : ℕ) (c : List Literal) (n : ℕ) : Type 0 where
  pub kept : (p : ℕ) → marked old p ≡ true → marked new p ≡ true
  pub only : (p : ℕ) → marked new p ≡ true → (marked old p ≡ true) ⊎ ((p < bound) × MakesFalse steps c p)
  pub all : (p : ℕ) → p < bound → MakesFalse steps c p → marked new p ≡ true
  pub count : open_below steps m new bound ≡ open_below steps m old bound + n

-- the walk has found its point, and its marks are exactly what it reached
pub record IsWalked (held : Held) (steps : List TrailStep) (m : ℕ) (conflict : List Literal) (marks : List Bool) (u : ℕ) : Type 0 where
  pub point : IsFirstPoint held steps m conflict u
  pub sound : (p : ℕ) → marked marks p ≡ true → IsReached held steps m conflict (suc u) p
  pub complete : (p : ℕ) → IsReached held steps m conflict (suc u) p → marked marks p ≡ true
