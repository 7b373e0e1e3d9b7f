-- Levels of the literals of a clause.
use Rattle.std.specs.Prelude.{ℕ, max, List, [], ◌∷◌, map, unwrap_or, nat_eq}
use Rattle.std.specs.Set.{distinct_count}
use Rattle.sat_words.specs.Literal.{Literal}
use Rattle.ring_trail.specs.declared.step.TrailStep.{TrailStep}
use Rattle.ring_trail.specs.TrailData.{level_of}

-- the greatest number of a list, 0 of none
abbrev pub greatest : List ℕ → ℕ
greatest [] = 0
greatest (n ∷ ns) = max n (greatest ns)

-- the level at which the literal's variable got its value, 0 if it has none
abbrev pub level_of_lit : List TrailStep → Literal → ℕ
level_of_lit steps l = unwrap_or (level_of steps l.var) 0

-- the levels of a clause's literals
abbrev pub levels_of : List TrailStep → List Literal → List ℕ
levels_of steps c = map (level_of_lit steps) c

-- the greatest level of a clause's literals; if the clause is false, the level at which it became so
abbrev pub clause_level : List TrailStep → List Literal → ℕ
clause_level steps c = greatest (levels_of steps c)

-- how many levels a clause's literals have
abbrev pub count_of_levels : List TrailStep → List Literal → ℕ
count_of_levels steps c = distinct_count nat_eq (levels_of steps c)
