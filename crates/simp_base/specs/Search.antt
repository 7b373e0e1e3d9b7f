-- How a search for a false clause goes on. A set of literals is here its test.
use Rattle.std.specs.Prelude.{◌≡◌, ◌≢◌, ◌⊎◌, ◌≤◌, ◌<◌, ℕ, Bool, true, false, ◌||◌, List, length, Option, Some, None, Contains}
use Rattle.std.specs.List.{list_any}
use Rattle.sat_words.specs.Literal.{Literal, opposite, same}
use Rattle.sat_words.specs.Clause.{has}
use Rattle.rup_model.specs.Rounds.{falsifies}
use Rattle.simp_base.specs.WorkState.{lists, is_only}
use Rattle.simp_base.specs.Hinting.{lit_at, IsTrail, IsFalsified}
use Rattle.simp_base.specs.declared.hints.trail.Step.{Step}
use Rattle.simp_base.specs.declared.hints.look.Status.{Status}
use Rattle.simp_base.specs.declared.hints.look.Status.TheVariants.{Falsified, Forced, Settled}

-- the test whether a step has the literal
abbrev pub on_trail : List Step → Literal → Bool
on_trail steps l = list_any (λ s. same s.lit l) steps

-- what is true by units and by the trail
abbrev pub true_set : List (ℕ × List Literal) → List Step → Literal → Bool
true_set cells steps l = list_any (is_only l) (lists cells) || on_trail steps l

-- What a clause says

-- a literal of the clause is true
pub record HasTrue (S : Literal → Bool) (c : List Literal) : Type 0 where
  pub lit : Literal
  pub there : has c lit ≡ true
  pub is_true : S lit ≡ true

-- two literals of the clause are not false
pub record HasTwoOpen (S : Literal → Bool) (c : List Literal) : Type 0 where
  pub first : Literal
  pub second : Literal
  pub differ : first ≢ second
  pub has_first : has c first ≡ true
  pub has_second : has c second ≡ true
  pub open_first : S (opposite first) ≡ false
  pub open_second : S (opposite second) ≡ false

-- the clause is not false, and forces nothing that is not true
abbrev pub IsSettled : (Literal → Bool) → List Literal → Type 0
IsSettled S c = HasTrue S c ⊎ HasTwoOpen S c

-- the literal has no truth value, and all others of the clause are false
pub record Forces (S : Literal → Bool) (c : List Literal) (l : Literal) : Type 0 where
  pub has_lit : has c l ≡ true
  pub yet : S l ≡ false
  pub open_yet : S (opposite l) ≡ false
  pub others : (k : Literal) → has c k ≡ true → (k ≡ l) ⊎ (S (opposite k) ≡ true)

-- what the clause says is this
abbrev pub IsStatus : (Literal → Bool) → List Literal → Status → Type 0
IsStatus S c Falsified = falsifies S c ≡ true
IsStatus S c (Forced l) = Forces S c l
IsStatus S c Settled = IsSettled S c

-- Going on

-- a step from this place on makes a literal of the clause false
pub record Pends (steps : List Step) (from : ℕ) (c : List Literal) : Type 0 where
  pub place : ℕ
  pub not_before : from ≤ place
  pub inside : place < length steps
  pub has_false : has c (opposite (lit_at steps place)) ≡ true

-- the clause needs no look but for steps from this place on
abbrev pub IsWaiting : List (ℕ × List Literal) → List Step → ℕ → List Literal → Type 0
IsWaiting cells steps from c = IsSettled (true_set cells steps) c ⊎ Pends steps from c

-- the steps are still those of a trail, and clauses that needed no look need none
pub record GoesOn (cells : List (ℕ × List Literal)) (old new : List Step) : Type 0 where
  pub longer : length old ≤ length new
  pub trail : (start : Literal → Bool) → IsTrail cells start old → IsTrail cells start new
  pub waits : (from : ℕ) (c : List Literal) → from ≤ length old → IsWaiting cells old from c → IsWaiting cells new from c

-- a false clause was found, or none, and then this holds
abbrev pub EndsWith : List (ℕ × List Literal) → List Step → Type 0 → Option ℕ → Type 0
EndsWith cells steps P (Some n) = IsFalsified cells steps n
EndsWith cells steps P None = P

-- the clauses with these numbers were looked at
pub record WereLookedAt (cells : List (ℕ × List Literal)) (old new : List Step) (numbers : List ℕ) (found : Option ℕ) : Type 0 where
  pub goes_on : GoesOn cells old new
  pub ends : EndsWith cells new ((n : ℕ) (c : List Literal) → Contains numbers n → Contains cells (n, c) → IsWaiting cells new (length old) c) found

-- all clauses were
pub record WereScanned (cells : List (ℕ × List Literal)) (old new : List Step) (found : Option ℕ) : Type 0 where
  pub goes_on : GoesOn cells old new
  pub ends : EndsWith cells new ((n : ℕ) (c : List Literal) → Contains cells (n, c) → IsWaiting cells new (length old) c) found

-- the steps from this place on were propagated
pub record WasSpread (cells : List (ℕ × List Literal)) (old new : List Step) (from : ℕ) (found : Option ℕ) : Type 0 where
  pub goes_on : GoesOn cells old new
  pub ends : EndsWith cells new ((n : ℕ) (c : List Literal) → Contains cells (n, c) → IsWaiting cells old from c → IsSettled (true_set cells new) c) found
