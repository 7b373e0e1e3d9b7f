use Rattle.std.proofs.Common.{◌≡◌, take}
use Rattle.ring_port.specs.PlainPort.{unit_lits}
use Rattle.ring_port.proofs.opening_units.unit_lits.Given as goal

abbrev pub invariant-loop-unit : goal.invariant-loop-unit
invariant-loop-unit l = l.lits.items ≡ unit_lits (take l.unit-index l.units)
