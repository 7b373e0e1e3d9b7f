use Rattle.std.proofs.Common.{◌≡◌, take}
use Rattle.share_core.specs.State.{unit_lits}
use Rattle.share_core.proofs.openings.unit_lits.Given as goal

abbrev pub invariant-loop-unit : goal.invariant-loop-unit
invariant-loop-unit l = l.lits ≡ unit_lits (take l.unit-index l.units)
