-- A queue of variables: how many there are, which was bumped last, and when each was.
use Rattle.std.specs.Prelude.{ℕ, List}

-- what contracts see of a queue: the variables it is of, the one bumped last, and when each was bumped
pub record QueueData : Type 0 where
  pub vars : ℕ
  pub last : ℕ
  pub stamps : List ℕ
