-- Sets of literals that are common to two literals: with either of them they are clauses.
use Rattle.std.specs.Prelude.{ℕ, ◌+◌, ◌==◌, Bool, not, ◌&&◌, ◌||◌, nat_lt, List, [], ◌∷◌, Option, Some, None, if◌then◌else◌}
use Rattle.std.specs.List.{list_any, filter, filter_map, range_with_len}
use Rattle.sat_words.specs.Literal.{Literal, opposite, same}
use Rattle.sat_words.specs.Clause.{has, same_set, is_empty}
use Rattle.simp_base.specs.WorkState.{WorkState, lists}

-- the clause with this number, the first such one in the list
abbrev pub clause_at : List (ℕ × List Literal) → ℕ → Option (List Literal)
clause_at [] n = None
clause_at (c ∷ cs) n = if c.0 == n then Some c.1 else clause_at cs n

-- the literals of the list except for this one, in their order
abbrev pub others : Literal → List Literal → List Literal
others l c = filter (λ j. not (same l j)) c

-- the literal or its negation is in the list
abbrev pub mentions : Literal → List Literal → Bool
mentions l C = has C l || has C (opposite l)

-- a clause of just these literals is alive
abbrev pub is_alive : List (List Literal) → List Literal → Bool
is_alive G c = list_any (same_set c) G

-- the set is not empty, holds neither of the two literals nor a negation of them, and with either of them it is alive
abbrev pub is_common : List (List Literal) → Literal → Literal → List Literal → Bool
is_common G l k C = not (is_empty C) && not (mentions l C) && not (mentions k C) && is_alive G (l ∷ C) && is_alive G (k ∷ C)

-- no clause with a smaller number has the same literals
abbrev pub is_first : List (ℕ × List Literal) → ℕ → List Literal → Bool
is_first cs n c = not (list_any (λ d. nat_lt d.0 n && same_set c d.1) cs)

-- the clause is the first literal with a set that is common to both, and has the least number of its copies
abbrev pub is_counted : List (ℕ × List Literal) → Literal → Literal → ℕ → List Literal → Bool
is_counted cs l k n c = has c l && is_first cs n c && is_common (lists cs) l k (others l c)

-- the common set of a clause, if there is one and it counts
abbrev pub common_in : List (ℕ × List Literal) → Literal → Literal → ℕ → Option (List Literal) → Option (List Literal)
common_in cs l k n None = None
common_in cs l k n (Some c) = if is_counted cs l k n c then Some (others l c) else None

-- the common set that counts at this number
abbrev pub common_at : List (ℕ × List Literal) → Literal → Literal → ℕ → Option (List Literal)
common_at cs l k n = common_in cs l k n (clause_at cs n)

-- the common sets of the two literals, each once, in order of the least number of a copy of the first literal's clause
abbrev pub commons : WorkState → Literal → Literal → List (List Literal)
commons w l k = filter_map (common_at w.clauses l k) (range_with_len 0 (w.output.last + 1))
