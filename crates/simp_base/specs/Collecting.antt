-- What hints rest on while they are collected: from the false clause down the trail to the units.
use Rattle.std.specs.Prelude.{◌≡◌, ◌⊎◌, ℕ, ◌<◌, Bool, true, false, length, Some, List, ◌∷◌, ◌++◌, reverse}
use Rattle.std.specs.List.{slice_index_or}
use Rattle.sat_words.specs.Literal.{Literal, opposite, code_of}
use Rattle.sat_words.specs.Clause.{has}
use Rattle.rup_model.specs.Hints.{Numbered, numbered, hinted_from}
use Rattle.simp_base.specs.WorkState.{HaveOwnNumbers}
use Rattle.simp_base.specs.Tables.{IsUnit}
use Rattle.simp_base.specs.declared.hints.trail.Step.{Step}
use Rattle.simp_base.specs.Hinting.{lit_at, reason_at, IsTrueBy, IsStart, IsTrail}

-- Hints over sets of literals

-- the literal is given, a unit, or stands on the trail before this place
abbrev pub IsEarly : (Literal → Bool) → (Literal → Type 0) → (ℕ → Literal) → ℕ → Literal → Type 0
IsEarly start alone lit i l = (start l ≡ true) ⊎ (alone l ⊎ ((p : ℕ) × (p < i) × (lit p ≡ l)))

-- the set has what is given, and beside it only such literals
pub record AreEarly (start : Literal → Bool) (alone : Literal → Type 0) (lit : ℕ → Literal) (i : ℕ) (B : Literal → Bool) : Type 0 where
  pub all : (l : Literal) → start l ≡ true → B l ≡ true
  pub only : (l : Literal) → B l ≡ true → IsEarly start alone lit i l

-- the numbers are hints from each such set that has the literals that are needed
pub record Rests (at : Numbered) (start : Literal → Bool) (alone : Literal → Type 0) (lit : ℕ → Literal) (i : ℕ) (needed : Literal → Bool) (hints : List ℕ) : Type 0 where
  pub first : ℕ
  pub others : List ℕ
  pub is : hints ≡ first ∷ others
  pub hinted : (B : Literal → Bool) → AreEarly start alone lit i B → ((l : Literal) → needed l ≡ true → B l ≡ true) → hinted_from at B hints ≡ true

-- the numbers of these units come before hints from what is given and the units
pub record ComeFirst (at : Numbered) (start : Literal → Bool) (alone : Literal → Type 0) (lit : ℕ → Literal) (units : List Literal) (numbers : List ℕ) : Type 0 where
  pub hinted : (first : ℕ) (others : List ℕ)
      → ((B : Literal → Bool) → AreEarly start alone lit 0 B → ((l : Literal) → has units l ≡ true → B l ≡ true)
      → ((l : Literal) → B l ≡ true → (start l ≡ true) ⊎ (has units l ≡ true)) → hinted_from at B (first ∷ others) ≡ true)
      → hinted_from at start (numbers ++ first ∷ others) ≡ true

-- The collection

-- whether the literal is marked, by its code
abbrev pub marked : List Bool → Literal → Bool
marked marks l = slice_index_or marks (code_of l) false

-- clauses with numbers of their own, a start that agrees with the units, and a trail from it
pub record IsBasis (cells : List (ℕ × List Literal)) (start : Literal → Bool) (steps : List Step) : Type 0 where
  pub own : HaveOwnNumbers cells
  pub begin : IsStart cells start
  pub trail : IsTrail cells start steps

-- the literal was forced at a place before the bound
pub record ForcedBefore (steps : List Step) (bound : ℕ) (l : Literal) : Type 0 where
  pub place : ℕ
  pub before : place < bound
  pub true_there : lit_at steps place ≡ l
  pub number : ℕ
  pub reason : reason_at steps place ≡ Some number

-- the literals that are marked are units that are listed, or were forced before the bound; the numbers of the units come first
pub record IsNoted (cells : List (ℕ × List Literal)) (start : Literal → Bool) (steps : List Step) (i : ℕ) (marks : List Bool) (units : List Literal) (numbers : List ℕ) : Type 0 where
  pub only : (l : Literal) → marked marks l ≡ true → (has units l ≡ true) ⊎ ForcedBefore steps i l
  pub listed : (l : Literal) → has units l ≡ true → marked marks l ≡ true
  pub alone : (l : Literal) → has units l ≡ true → IsUnit cells l
  pub first : ComeFirst (numbered cells) start (IsUnit cells) (lit_at steps) units numbers

-- and this literal is marked, or given
pub record IsNeeded (cells : List (ℕ × List Literal)) (start : Literal → Bool) (steps : List Step) (i : ℕ) (marks : List Bool) (units : List Literal) (numbers : List ℕ) (lit : Literal) : Type 0 where
  pub noted : IsNoted cells start steps i marks units numbers
  pub met : (marked marks lit ≡ true) ⊎ (start lit ≡ true)

-- the literal stands at this place
abbrev pub StandsAt : List Step → ℕ → Literal → Type 0
StandsAt steps p l = (p < length steps) × (lit_at steps p ≡ l)

-- and what makes this literal false is, unless it stands at the place
pub record IsMet (cells : List (ℕ × List Literal)) (start : Literal → Bool) (steps : List Step) (i : ℕ) (marks : List Bool) (units : List Literal) (numbers : List ℕ) (lit : Literal) : Type 0 where
  pub noted : IsNoted cells start steps i marks units numbers
  pub met : StandsAt steps i lit ⊎ ((marked marks (opposite lit) ≡ true) ⊎ (start (opposite lit) ≡ true))

-- and what makes the literals of the clause false is, but that at the place
pub record AreMet (cells : List (ℕ × List Literal)) (start : Literal → Bool) (steps : List Step) (i : ℕ) (marks : List Bool) (units : List Literal) (numbers : List ℕ) (c : List Literal) : Type 0 where
  pub noted : IsNoted cells start steps i marks units numbers
  pub met : (k : Literal) → has c k ≡ true → StandsAt steps i k ⊎ ((marked marks (opposite k) ≡ true) ⊎ (start (opposite k) ≡ true))

-- each literal of the clause, but that at the place, is false before it
abbrev pub IsReason : List (ℕ × List Literal) → List Step → ℕ → List Literal → Type 0
IsReason cells steps i c = (k : Literal) → has c k ≡ true → StandsAt steps i k ⊎ IsTrueBy cells steps i (opposite k)

-- down to this place: the numbers collected last first are hints on what is marked
pub record IsCollected (cells : List (ℕ × List Literal)) (start : Literal → Bool) (steps : List Step) (i : ℕ) (marks : List Bool) (units : List Literal) (numbers reasons : List ℕ) : Type 0 where
  pub noted : IsNoted cells start steps i marks units numbers
  pub rests : Rests (numbered cells) start (IsUnit cells) (lit_at steps) i (marked marks) (reverse reasons)
