-- What holds of the two assignments and of the list of variables in which they differ.
use Rattle.std.specs.Prelude.{◌≡◌, ◌≤◌, ◌<◌, ◌+◌, ◌^◌, ◌-◌, length, vec_capacity}
use Rattle.ring_walk.specs.declared.kept.Kept.TheInside.{Inside}
use Rattle.ring_walk.specs.Listed.{AreListed, passing}
use Rattle.ring_walk.specs.KeptData.{differs}

-- both are of the same variables, and those in which they differ are listed
pub record IsKept (k : Inside) : Type 0 where
  pub small : length k.values < 2 ^ 32 - 1
  pub same : length k.best ≡ length k.values
  pub listed : AreListed (differs k.best k.values) (length k.values + 1) k.changed.items k.places.items
  pub many : length k.changed.items ≡ passing (differs k.best k.values) (length k.values + 1)
  pub room : length k.values + 1 ≤ vec_capacity k.changed
