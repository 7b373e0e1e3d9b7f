use Rattle.std.proofs.Common.{◌≡◌, take}
use Rattle.share_core.specs.State.{unit_numbers}
use Rattle.share_core.proofs.openings.unit_numbers.Given as goal

abbrev pub invariant-loop-unit : goal.invariant-loop-unit
invariant-loop-unit l = l.numbers ≡ unit_numbers (take l.unit-index l.units)
