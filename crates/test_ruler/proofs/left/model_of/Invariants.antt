use Rattle.std.proofs.Common.{◌≡◌, length, drop, replicate, false}
use Rattle.simp_base.specs.WorkState.{unit_lits}
use Rattle.test_ruler.specs.Models.{with_units}
use Rattle.test_ruler.proofs.left.model_of.Given as goal

abbrev pub invariant-loop-unit : goal.invariant-loop-unit
invariant-loop-unit l = record {
  long : length l.model ≡ l.fn.vars;
  set : with_units l.model (unit_lits (drop l.unit-index l.left.units.items)) ≡ with_units (replicate l.fn.vars false) (unit_lits l.left.units.items);
}
