-- Clauses that ask for nothing at levels up to k, as unit propagation leaves them.
use Rattle.std.specs.Prelude.{◌≡◌, ◌≢◌, ℕ, ◌<◌, ◌≤◌, true, ◌⊎◌, List, length, Contains}
use Rattle.sat_words.specs.Literal.{Literal, opposite}
use Rattle.sat_words.specs.Clause.{has}
use Rattle.ring_trail.specs.declared.step.TrailStep.{TrailStep}
use Rattle.ring_trail.specs.TrailData.{lit_at, level_at}

-- the literal is true at a level of at most k
pub record TrueWithin (steps : List TrailStep) (k : ℕ) (l : Literal) : Type 0 where
  pub place : ℕ
  pub in_range : place < length steps
  pub true_there : lit_at steps place ≡ l
  pub level : level_at steps place ≤ k

-- the clause has a literal that is true at a level of at most k
pub record HasTrue (steps : List TrailStep) (k : ℕ) (c : List Literal) : Type 0 where
  pub lit : Literal
  pub has_lit : has c lit ≡ true
  pub within : TrueWithin steps k lit

-- the clause has two literals that aren't false at a level of at most k
pub record HasTwoOpen (steps : List TrailStep) (k : ℕ) (c : List Literal) : Type 0 where
  pub one : Literal
  pub other : Literal
  pub has_one : has c one ≡ true
  pub has_other : has c other ≡ true
  pub differ : one ≢ other
  pub one_open : TrueWithin steps k (opposite one) → ⊥
  pub other_open : TrueWithin steps k (opposite other) → ⊥

-- one of the two holds of the clause
abbrev pub IsClosedClause : List Literal → List TrailStep → ℕ → Type 0
IsClosedClause c steps k = HasTrue steps k c ⊎ HasTwoOpen steps k c

-- and of each of some clauses
abbrev pub IsClosed : List (List Literal) → List TrailStep → ℕ → Type 0
IsClosed cs steps k = (c : List Literal) → Contains cs c → IsClosedClause c steps k
