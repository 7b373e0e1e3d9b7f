-- Clauses that have the same literals except for one.
use Rattle.std.specs.Prelude.{◌≡◌, ℕ, Bool, true, false, ◌&&◌, ◌||◌, List, [], ◌∷◌, Option, Some, None, Contains, nat_lt, map, if◌then◌else◌}
use Rattle.std.specs.List.{list_any, filter}
use Rattle.sat_words.specs.Literal.{Literal, same}
use Rattle.sat_words.specs.Clause.{has, same_set, is_empty, InOrder}
use Rattle.simp_base.specs.WorkState.{WorkState}
use Rattle.simp_add.specs.Common.{others, mentions}
use Rattle.simp_add.specs.declared.alike.Alike.{Alike}

-- two lists have the same literals at the same places
abbrev pub same_list : List Literal → List Literal → Bool
same_list [] [] = true
same_list [] (k ∷ d) = false
same_list (l ∷ c) [] = false
same_list (l ∷ c) (k ∷ d) = same l k && same_list c d

-- the literal that the second list has at one place more than the first, if that is all by which they differ
abbrev pub one_more : List Literal → List Literal → Option Literal
one_more c [] = None
one_more [] (k ∷ []) = Some k
one_more [] (k ∷ j ∷ d) = None
one_more (l ∷ c) (k ∷ d) = if same l k then one_more c d else (if same_list (l ∷ c) d then Some k else None)

-- the clause with this number has the literals of the list and this one more, or has not
abbrev pub IsAlike : WorkState → List Literal → ℕ → Option Literal → Type 0
IsAlike w C n (Some j) = (d : List Literal) × Contains w.clauses (n, d) × (has C j ≡ false) × (same_set (j ∷ C) d ≡ true)
IsAlike w C n None = (d : List Literal) (j : Literal) → Contains w.clauses (n, d) → has C j ≡ false → same_set (j ∷ C) d ≡ true → ⊥

-- these are those of the clauses with these numbers
pub record Listed (w : WorkState) (C : List Literal) (numbers : List ℕ) (found : List Alike) : Type 0 where
  pub sound : (a : Alike) → Contains found a → IsAlike w C a.number (Some a.lit)
  pub every : (n : ℕ) (d : List Literal) (j : Literal) → Contains numbers n → Contains w.clauses (n, d) → has C j ≡ false → same_set (j ∷ C) d ≡ true → Contains found (record { lit = j; number = n })

-- these are all clauses that have the literals of the list and one more
pub record AreAlike (w : WorkState) (C : List Literal) (found : List Alike) : Type 0 where
  pub sound : (a : Alike) → Contains found a → IsAlike w C a.number (Some a.lit)
  pub every : (n : ℕ) (d : List Literal) (j : Literal) → Contains w.clauses (n, d) → has C j ≡ false → same_set (j ∷ C) d ≡ true → Contains found (record { lit = j; number = n })

-- the clause with this number has the literal, and its others may be a common set: these are they; or there is no such clause
abbrev pub IsLoaded : WorkState → Literal → ℕ → List Literal → Bool → Type 0
IsLoaded w l n rest true = (c : List Literal) × Contains w.clauses (n, c) × (has c l ≡ true) × (rest ≡ others l c) × (is_empty rest ≡ false) × (mentions l rest ≡ false) × InOrder c
IsLoaded w l n rest false = (c : List Literal) → Contains w.clauses (n, c) → has c l ≡ true → (is_empty (others l c) || mentions l (others l c)) ≡ true

-- a clause with the same literals as that of this number has a smaller one
abbrev pub is_later : List Alike → Literal → ℕ → Bool
is_later found l n = list_any (λ a. same a.lit l && nat_lt a.number n) found

-- the numbers of those that have one of the two literals
abbrev pub numbers_with : Literal → Literal → List Alike → List ℕ
numbers_with l k found = map (λ a. a.number) (filter (λ a. same a.lit l || same a.lit k) found)
