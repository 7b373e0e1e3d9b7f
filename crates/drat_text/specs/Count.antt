-- How many lines stand, and the last number given.
use Rattle.std.specs.Prelude.{ℕ}

-- how many lines an output took, and the last number that it gave
pub record Count : Type 0 where
  pub entries : ℕ
  pub last : ℕ
