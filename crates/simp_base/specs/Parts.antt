-- Which clauses simplifiers work on.
use Rattle.std.specs.Prelude.{Bool, not, ◌&&◌, List}
use Rattle.sat_words.specs.Literal.{Literal}
use Rattle.sat_words.specs.Clause.{has_opposites, two_or_more}

-- a clause of two literals or more without opposites: others are passed over
abbrev pub takes_part : List Literal → Bool
takes_part c = two_or_more c && not (has_opposites c)
