-- Clauses that make others needless or shorter.
use Rattle.std.specs.Prelude.{◌≡◌, Bool, false, ◌&&◌, List, map, if◌then◌else◌}
use Rattle.sat_words.specs.Literal.{Literal, opposite, same}
use Rattle.sat_words.specs.Clause.{has, includes}

-- the first clause subsumes the second: each of its literals is in it
abbrev pub subsumes : List Literal → List Literal → Bool
subsumes c d = includes d c

-- the clause with its literal l negated
abbrev pub negated_at : Literal → List Literal → List Literal
negated_at l c = map (λ k. if same l k then opposite k else k) c

-- the first clause, which has l, subsumes the second once l is negated: so the resolvent of the two on l is the second
-- without the negation of l (self-subsuming resolution)
abbrev pub strengthens : List Literal → List Literal → Literal → Bool
strengthens c d l = has c l && includes d (negated_at l c)

-- the first clause is of no use to the second
pub record IsUnrelated (c d : List Literal) : Type 0 where
  pub subsumes : subsumes c d ≡ false
  pub strengthens : (l : Literal) → strengthens c d l ≡ false
