-- Literals replaced by others that stand for them: in clauses, and on the reconstruction stack.
use Rattle.std.specs.Prelude.{◌≡◌, ℕ, ◌==◌, ◌&&◌, if◌then◌else◌, Bool, true, false, not, List, [], ◌∷◌, map, Contains}
use Rattle.std.specs.List.{list_any, filter, flat_map, range_with_len}
use Rattle.sat_words.specs.Literal.{Literal, opposite, same}
use Rattle.sat_words.specs.Clause.{has, has_opposites, clause_of}
use Rattle.model_stack.specs.declared.stack.Fix.{Fix}
use Rattle.simp_base.specs.Parts.{takes_part}

-- Clauses

-- another literal stands for this one
abbrev pub is_moved : (Literal → Literal) → Literal → Bool
is_moved stand_in l = not (same (stand_in l) l)

-- a clause that takes part has a literal for which another one stands
abbrev pub is_replaced : (Literal → Literal) → List Literal → Bool
is_replaced stand_in c = takes_part c && list_any (is_moved stand_in) c

-- the numbers of such clauses
abbrev pub to_replace : (Literal → Literal) → List (ℕ × List Literal) → List ℕ
to_replace stand_in cs = map (λ c. c.0) (filter (λ c. is_replaced stand_in c.1) cs)

-- what becomes of a clause: nothing if it is a tautology before or after, else its literals are replaced
pub data Becomes (stand_in : Literal → Literal) (c : List Literal) (H : List (List Literal)) : Type 0 where
  was_true : has_opposites c ≡ true → Becomes stand_in c H
  is_true : has_opposites (map stand_in c) ≡ true → Becomes stand_in c H
  stays : (d : List Literal) → Contains H d → ((l : Literal) → has d l ≡ has (map stand_in c) l) → Becomes stand_in c H

-- the clause is one of the others with its literals replaced
pub record Comes (stand_in : Literal → Literal) (F : List (List Literal)) (c : List Literal) : Type 0 where
  pub clause : List Literal
  pub from : Contains F clause
  pub same : (l : Literal) → has c l ≡ has (map stand_in clause) l

-- The stack

-- a literal and the one that stands for it
pub record Replacement : Type 0 where
  pub replaced : Literal
  pub by : Literal

-- the two entries of one replacement: the literal is true if the other one is, and false if that is false
abbrev pub replacement_entries : Replacement → List Fix
replacement_entries p =
    record { lit = p.replaced; clause = clause_of (p.replaced ∷ opposite p.by ∷ []) }
    ∷ record { lit = opposite p.replaced; clause = clause_of (opposite p.replaced ∷ p.by ∷ []) } ∷ []

-- the stack entries of these replacements, in order
abbrev pub replaced_entries : List Replacement → List Fix
replaced_entries ps = flat_map replacement_entries ps

-- the literal of a variable
abbrev pub positive : ℕ → Literal
positive v = record { var = v; neg = false }

-- the replacement of a variable by what stands for it
abbrev pub replacement_of : (Literal → Literal) → ℕ → Replacement
replacement_of stand_in v = record { replaced = positive v; by = stand_in (positive v) }

-- if that is another variable
abbrev pub replacement_at : (Literal → Literal) → ℕ → List Replacement
replacement_at stand_in v = if (stand_in (positive v)).var == v then [] else replacement_of stand_in v ∷ []

-- those of the variables 1 to n, ascending
abbrev pub replacements : (Literal → Literal) → ℕ → List Replacement
replacements stand_in n = flat_map (replacement_at stand_in) (range_with_len 1 n)
