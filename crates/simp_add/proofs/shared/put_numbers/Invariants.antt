use Rattle.std.proofs.Common.{◌≡◌, ◌++◌, take}
use Rattle.simp_add.specs.Alike.{numbers_with}
use Rattle.simp_add.proofs.shared.put_numbers.Given as goal

abbrev pub invariant-loop-alike : goal.invariant-loop-alike
invariant-loop-alike l = l.gone.items ≡ l.initial.gone.items ++ numbers_with l.lit l.partner (take l.alike-index l.found)
