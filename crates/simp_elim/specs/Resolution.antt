-- Resolution on a variable: the clauses with it, and what is made of them.
use Rattle.std.specs.Prelude.{ℕ, Bool, true, false, not, ◌&&◌, ◌||◌, List, [], ◌∷◌, ◌++◌, map}
use Rattle.std.specs.List.{filter, flat_map}
use Rattle.sat_words.specs.Literal.{Literal, opposite, same}
use Rattle.sat_words.specs.Clause.{has, has_opposites, clause_of}
use Rattle.model_stack.specs.declared.stack.Fix.{Fix}

-- the literals of a variable
abbrev pub positive : ℕ → Literal
positive v = record { var = v; neg = false }

-- the negative literal of a variable
abbrev pub negative : ℕ → Literal
negative v = record { var = v; neg = true }

-- Occurrences

-- the clause holds the literal and is no tautology
abbrev pub occurs : Literal → List Literal → Bool
occurs l c = has c l && not (has_opposites c)

-- the clauses in which the literal occurs
abbrev pub occurrences : Literal → List (List Literal) → List (List Literal)
occurrences l G = filter (occurs l) G

-- the literal or its negation occurs in the clause
abbrev pub mentions : Literal → List Literal → Bool
mentions l c = occurs l c || occurs (opposite l) c

-- the clauses in which neither does
abbrev pub unmentioned : Literal → List (List Literal) → List (List Literal)
unmentioned l G = filter (λ c. not (mentions l c)) G

-- Resolvents

-- the clause without the literal
abbrev pub without : Literal → List Literal → List Literal
without l c = filter (λ k. not (same l k)) c

-- the first clause without the literal and the second one without its negation, as one clause
abbrev pub resolved : Literal → List Literal → List Literal → List Literal
resolved l c d = clause_of (without l c ++ without (opposite l) d)

-- another literal than the second clause's at hand, whose negation is in the first one
abbrev pub clashes : Literal → List Literal → Literal → Bool
clashes l c k = not (same (opposite l) k) && has c (opposite k)

-- no tautology
abbrev pub is_proper : List Literal → Bool
is_proper c = not (has_opposites c)

-- the resolvents of one clause with the others that are no tautologies
abbrev pub resolved_with : Literal → List (List Literal) → List Literal → List (List Literal)
resolved_with l N c = filter is_proper (map (resolved l c) N)

-- the resolvents of the first clauses with the second ones that are no tautologies, one for each pair
abbrev pub resolvents : Literal → List (List Literal) → List (List Literal) → List (List Literal)
resolvents l P N = flat_map (resolved_with l N) P

-- those on a literal among clauses
abbrev pub resolvents_on : Literal → List (List Literal) → List (List Literal)
resolvents_on l G = resolvents l (occurrences l G) (occurrences (opposite l) G)

-- the resolvents stand in the place of the occurrences
abbrev pub eliminated : Literal → List (List Literal) → List (List Literal)
eliminated l G = unmentioned l G ++ resolvents_on l G

-- The stack

-- if the clause is false, the literal is made true
abbrev pub fix_of : Literal → List Literal → Fix
fix_of l c = record { lit = l; clause = c }

-- the clauses with the literal, and then the unit of its negation: so the literal is false unless a clause needs it
abbrev pub fixes_of : Literal → List (List Literal) → List Fix
fixes_of l P = map (fix_of l) P ++ fix_of (opposite l) (opposite l ∷ []) ∷ []
