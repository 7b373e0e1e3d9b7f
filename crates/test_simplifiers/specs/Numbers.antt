-- Clauses told by numbers, as in a file.
use Rattle.std.specs.Prelude.{ℤ, pos, unsigned_abs, int_lt, ◌==◌, if◌then◌else◌, List, [], ◌∷◌, ◌++◌}
use Rattle.sat_words.specs.Literal.{Literal}
use Rattle.sat_words.specs.Clause.{clause_of}

-- the literal of a number: of its absolute value, and negated if the number is below 0
abbrev pub literal_at : ℤ → Literal
literal_at n = record { var = unsigned_abs n; neg = int_lt n (pos 0) }

-- the clauses of numbers, each of which a 0 ends, if these literals stand in front
abbrev pub clauses_from : List Literal → List ℤ → List (List Literal)
clauses_from lits [] = []
clauses_from lits (n ∷ ns) = if unsigned_abs n == 0 then clause_of lits ∷ clauses_from [] ns else clauses_from (lits ++ literal_at n ∷ []) ns
