-- Clauses found by number.
use Rattle.std.specs.Prelude.{◌≡◌, ℕ, ◌==◌, ◌≤◌, ◌++◌, ⊤, Bool, true, false, List, [], ◌∷◌, length, Contains, if◌then◌else◌}
use Rattle.sat_words.specs.Literal.{Literal}
use Rattle.sat_words.specs.Clause.{InOrder}
use Rattle.simp_base.specs.WorkState.{WorkState, lists}
use Rattle.simp_elim.specs.Resolution.{occurs, occurrences}
use Rattle.simp_elim.specs.Rule.{at_most}

-- the clause with this number; the empty list if there is none
abbrev pub clause_at : List (ℕ × List Literal) → ℕ → List Literal
clause_at [] n = []
clause_at (c ∷ cs) n = if c.0 == n then c.1 else clause_at cs n

-- no element stands twice
abbrev pub Distinct : {X : Type 0} → List X → Type 0
Distinct [] = ⊤
Distinct (x ∷ xs) = (Contains xs x → ⊥) × Distinct xs

-- the literal occurs in the clause with this number, or that it does not
abbrev pub IsOccurrence : WorkState → Literal → ℕ → Bool → Type 0
IsOccurrence w l n true = (c : List Literal) × Contains w.clauses (n, c) × (occurs l c ≡ true) × InOrder c
IsOccurrence w l n false = (c : List Literal) → Contains w.clauses (n, c) → occurs l c ≡ false

-- these are numbers of clauses in which the literal occurs
abbrev pub OccursIn : WorkState → Literal → List ℕ → Type 0
OccursIn w l numbers = (n : ℕ) → Contains numbers n → IsOccurrence w l n true

-- these are numbers of clauses in which the literal occurs, each once, few, with all such ones among those looked at
pub record Collected (w : WorkState) (l : Literal) (numbers looked : List ℕ) : Type 0 where
  pub sound : OccursIn w l numbers
  pub every : (n : ℕ) (c : List Literal) → Contains looked n → Contains w.clauses (n, c) → occurs l c ≡ true → Contains numbers n
  pub distinct : Distinct numbers
  pub few : length numbers ≤ 16

-- one number more was looked at, or there are too many
abbrev pub IsCollected : WorkState → Literal → ℕ → List ℕ → List ℕ → Bool → Type 0
IsCollected w l n old new true = (looked : List ℕ) → Collected w l old looked → Collected w l new (looked ++ n ∷ [])
IsCollected w l n old new false = (looked : List ℕ) → Collected w l old looked → at_most (length (occurrences l (lists w.clauses))) 16 ≡ false

-- these are the numbers of all clauses in which the literal occurs, each once, and few
pub record AreOccurrences (w : WorkState) (l : Literal) (numbers : List ℕ) : Type 0 where
  pub sound : OccursIn w l numbers
  pub every : (n : ℕ) (c : List Literal) → Contains w.clauses (n, c) → occurs l c ≡ true → Contains numbers n
  pub distinct : Distinct numbers
  pub few : at_most (length numbers) 16 ≡ true
