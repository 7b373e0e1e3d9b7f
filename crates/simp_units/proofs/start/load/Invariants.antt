use Rattle.std.proofs.Common.{◌≡◌, take, length}
use Rattle.sat_words.specs.Literal.{Literal}
use Rattle.sat_words.specs.Clause.{has}
use Rattle.sat_words.specs.Values.{is_true}
use Rattle.simp_base.specs.WorkState.{unit_lits}
use Rattle.simp_units.proofs.start.load.Given as goal

abbrev pub invariant-loop-unit : goal.invariant-loop-unit
invariant-loop-unit l = ((k : Literal) → has (unit_lits (take l.unit-index l.units)) k ≡ is_true l.values k) × (length l.values ≡ length l.initial.values)
