-- The scores of variables: how many variables there are, the score of each, and what a bump adds.
use Rattle.std.specs.Prelude.{ℕ, ◌+◌, ◌-◌, ◌^◌, min, List}
use Rattle.std.specs.List.{slice_index}

-- what contracts see of the scores: the score of each variable, and what a bump adds
pub record ScoresData : Type 0 where
  pub vars : ℕ
  pub scores : List ℕ
  pub add : ℕ

-- what a bump makes of a score, up to the greatest word
abbrev pub raised : ScoresData → ℕ → ℕ
raised s v = min (slice_index s.scores v + s.add) (2 ^ 64 - 1)
