use Rattle.std.proofs.Common.{◌≡◌, take}
use Rattle.simp_base.specs.WorkState.{unit_lits}
use Rattle.test_simplifiers.proofs.following.lits_of.Given as goal

abbrev pub invariant-loop-unit : goal.invariant-loop-unit
invariant-loop-unit l = l.lits.items ≡ unit_lits (take l.unit-index l.units)
