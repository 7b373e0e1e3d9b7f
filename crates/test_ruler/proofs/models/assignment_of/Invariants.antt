use Rattle.std.proofs.Common.{◌≡◌, ◌++◌, ◌-◌, take, length}
use Rattle.test_ruler.specs.Models.{assignment, bits_from}
use Rattle.test_ruler.proofs.models.assignment_of.Given as goal

abbrev pub invariant-loop-index : goal.invariant-loop-index
invariant-loop-index l = record {
  long : length l.values ≡ 6;
  bits : take l.index l.values ++ bits_from (6 - l.index) l.rest ≡ assignment l.fn.number;
}
