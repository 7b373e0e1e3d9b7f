-- Assignments by their numbers, and what makes one a model.
use Rattle.std.specs.Prelude.{ℕ, zero, suc, Bool, true, false, not, ◌-◌, ◌/◌, ◌%◌, ◌==◌, ◌&&◌, ◌||◌, List, [], ◌∷◌, slice_set}
use Rattle.std.specs.Bool.{beq}
use Rattle.std.specs.List.{list_all}
use Rattle.model_stack.specs.declared.stack.Fix.{Fix}
use Rattle.model_stack.specs.Extend.{extend}
use Rattle.sat_words.specs.Literal.{Literal}
use Rattle.sat_words.specs.Truth.{lit_true, clause_true, formula_true}

-- this many bits of a number, the lowest first
abbrev pub bits_from : ℕ → ℕ → List Bool
bits_from zero n = []
bits_from (suc k) n = (n % 2 == 1) ∷ bits_from k (n / 2)

-- the assignment to the six variables with this number: its bits are the values
abbrev pub assignment : ℕ → List Bool
assignment n = bits_from 6 n

-- the assignment makes each clause and each unit true
abbrev pub is_model : List Bool → List (ℕ × List Literal) → List Literal → Bool
is_model a cs units = list_all (λ (c : ℕ × List Literal). clause_true a c.1) cs && list_all (lit_true a) units

-- the assignment is no model of what is left, or mended by the stack it is one of the formula
abbrev pub is_lifted : List (List Literal) → List (ℕ × List Literal) → List Literal → List Fix → List Bool → Bool
is_lifted F cs units stack a = not (is_model a cs units) || formula_true (extend stack a) F

-- each of the first n numbers passes
unfoldable pub each_below : ℕ → (ℕ → Bool) → Bool
each_below zero p = true
each_below (suc n) p = each_below n p && p n

-- one of the first n numbers passes
unfoldable pub some_below : ℕ → (ℕ → Bool) → Bool
some_below zero p = false
some_below (suc n) p = some_below n p || p n

-- each model of what is left becomes one of the formula over the stack, and what is left has a model just if the formula has one
abbrev pub models_lift : List (List Literal) → List (ℕ × List Literal) → List Literal → List Fix → Bool
models_lift F cs units stack = each_below 64 (λ n. is_lifted F cs units stack (assignment n)) && beq (some_below 64 (λ n. formula_true (assignment n) F)) (some_below 64 (λ n. is_model (assignment n) cs units))

-- the assignment under which these literals are true, one after another
abbrev pub with_units : List Bool → List Literal → List Bool
with_units a [] = a
with_units a (l ∷ ls) = with_units (slice_set a (l.var - 1) (not l.neg)) ls
