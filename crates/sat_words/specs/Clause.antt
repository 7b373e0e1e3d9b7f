-- A clause is a finite set of literals: a list of which only the members count.
use Rattle.std.specs.Prelude.{Bool, true, false, not, ◌&&◌, nat_lt, List, [], ◌∷◌, if◌then◌else◌}
use Rattle.std.specs.List.{list_any, list_all}
use Rattle.std.specs.List.Sorted.{IsStrictlySortedBy}
use Rattle.std.specs.Set.{is_member}
use Rattle.sat_words.specs.Literal.{Literal, opposite, same, lit_cmp, code_of}

-- the test whether a list of literals has this one
abbrev pub has : List Literal → Literal → Bool
has c l = is_member same c l

-- by variable, the positive one first, none twice
abbrev pub InOrder : List Literal → Type 0
InOrder c = IsStrictlySortedBy lit_cmp c

-- the test whether each literal of the second is in the first
abbrev pub includes : List Literal → List Literal → Bool
includes c d = list_all (has c) d

-- the test whether two lists have the same literals
abbrev pub same_set : List Literal → List Literal → Bool
same_set c d = list_all (has c) d && list_all (has d) c

-- no literal stands twice
abbrev pub distinct_lits : List Literal → Bool
distinct_lits [] = true
distinct_lits (l ∷ c) = not (has c l) && distinct_lits c

-- a literal and its negation
abbrev pub has_opposites : List Literal → Bool
has_opposites c = list_any (λ l. has c (opposite l)) c

-- no literal at all
abbrev pub is_empty : List Literal → Bool
is_empty [] = true
is_empty (l ∷ c) = false

-- one literal, however often
abbrev pub just_one : List Literal → Bool
just_one [] = false
just_one (l ∷ c) = list_all (same l) c

-- two literals or more that differ
abbrev pub two_or_more : List Literal → Bool
two_or_more [] = false
two_or_more (l ∷ c) = not (list_all (same l) c)

-- a literal put in its place in a list in order, once
abbrev pub insert_lit : Literal → List Literal → List Literal
insert_lit l [] = l ∷ []
insert_lit l (k ∷ c) = if same l k then k ∷ c else if nat_lt (code_of l) (code_of k) then l ∷ k ∷ c else k ∷ insert_lit l c

-- the literals of a list in order, none twice
abbrev pub clause_of : List Literal → List Literal
clause_of [] = []
clause_of (l ∷ c) = insert_lit l (clause_of c)
