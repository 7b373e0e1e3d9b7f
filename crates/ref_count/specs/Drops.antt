-- What the count that a drop found says.
use Rattle.std.specs.Prelude.{◌≡◌, ◌≢◌, ℕ}
use Rattle.ref_count.specs.declared.counts.Dropped.{Dropped}
use Rattle.ref_count.specs.declared.counts.Dropped.TheVariants.{Left, Last}

-- the last count was given up exactly if 1 was found
abbrev pub IsDropped : ℕ → Dropped → Type 0
IsDropped found Left = found ≢ 1
IsDropped found Last = found ≡ 1
