-- What holds of the tables of scores.
use Rattle.std.specs.Prelude.{◌≡◌, ◌+◌, length}
use Rattle.ring_decide.specs.declared.scores.Scores.TheInside.{Inside}

-- each variable has a score, and there is one before them
pub record IsScores (s : Inside) : Type 0 where
  pub len : length s.scores.items ≡ s.heap.vars + 1
