-- A value or none for each variable, the variable v at place v; place 0 is no variable's.
use Rattle.std.specs.Prelude.{ℕ, Bool, false, not, ◌&&◌, List, Option, None, Some}
use Rattle.std.specs.List.{slice_index_or, find}
use Rattle.std.proofs.Math.Bool.{beq}
use Rattle.sat_words.specs.Literal.{Literal, opposite, same}

-- the value of a variable; one past the end has none
abbrev pub value_of : List (Option Bool) → ℕ → Option Bool
value_of a v = slice_index_or a v None

-- the test whether a value is this one
abbrev pub is_value : Option Bool → Bool → Bool
is_value None b = false
is_value (Some x) b = beq x b

-- the test whether a literal is true
abbrev pub is_true : List (Option Bool) → Literal → Bool
is_true a l = is_value (value_of a l.var) (not l.neg)

-- the test whether a literal is not false, and isn't the other one
abbrev pub is_open : List (Option Bool) → Literal → Literal → Bool
is_open a other l = not (is_true a (opposite l)) && not (same l other)

-- the first such literal
abbrev pub first_open : List (Option Bool) → Literal → List Literal → Option Literal
first_open a other lits = find (is_open a other) lits
