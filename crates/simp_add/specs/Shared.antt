-- The clauses of two literals with their common sets, by number.
use Rattle.std.specs.Prelude.{◌≡◌, ◌↔◌, ◌⊎◌, ℕ, true, List, [], ◌∷◌, ◌++◌, Contains, Some}
use Rattle.std.specs.List.{filter_map}
use Rattle.sat_words.specs.Literal.{Literal}
use Rattle.sat_words.specs.Clause.{same_set}
use Rattle.simp_base.specs.WorkState.{WorkState, lists}
use Rattle.simp_add.specs.Common.{common_at, commons}
use Rattle.simp_add.specs.Rule.{is_replaced}

-- by number, the first literal's clauses with the common sets, as they count, and all clauses of both literals with them
pub record AreShared (w : WorkState) (l k : Literal) (firsts gone : List ℕ) : Type 0 where
  pub sets : filter_map (common_at w.clauses l k) firsts ≡ commons w l k
  pub counts : (n : ℕ) → Contains firsts n → (C : List Literal) × (common_at w.clauses l k n ≡ Some C)
  pub every : (n : ℕ) → Contains gone n ↔ ((c : List Literal) × Contains w.clauses (n, c) × (is_replaced (lists w.clauses) l k c ≡ true))

-- the sets of the clauses with these numbers that counted, and all clauses of both literals with these sets
pub record Sharing (w : WorkState) (l k : Literal) (numbers firsts gone : List ℕ) : Type 0 where
  pub sets : filter_map (common_at w.clauses l k) firsts ≡ filter_map (common_at w.clauses l k) numbers
  pub counts : (n : ℕ) → Contains firsts n → (C : List Literal) × (common_at w.clauses l k n ≡ Some C)
  pub sound : (n : ℕ) → Contains gone n → (c : List Literal) × Contains w.clauses (n, c) × (is_replaced (lists w.clauses) l k c ≡ true)
  pub every : (m : ℕ) (C : List Literal) → Contains numbers m → common_at w.clauses l k m ≡ Some C → (n : ℕ) (c : List Literal) → Contains w.clauses (n, c) → (same_set (l ∷ C) c ≡ true) ⊎ (same_set (k ∷ C) c ≡ true) → Contains gone n

-- one number more was looked at
abbrev pub SharesOne : WorkState → Literal → Literal → ℕ → List ℕ → List ℕ → List ℕ → List ℕ → Type 0
SharesOne w l k n firsts gone new_firsts new_gone = (numbers : List ℕ) → Sharing w l k numbers firsts gone → Sharing w l k (numbers ++ n ∷ []) new_firsts new_gone
