use Rattle.std.proofs.Common.{◌≡◌, map, take}
use Rattle.test_simplifiers.specs.Numbers.{literal_at}
use Rattle.test_simplifiers.proofs.formulas.literals.Given as goal

abbrev pub invariant-loop-number : goal.invariant-loop-number
invariant-loop-number l = l.lits.items ≡ map literal_at (take l.number-index l.numbers)
