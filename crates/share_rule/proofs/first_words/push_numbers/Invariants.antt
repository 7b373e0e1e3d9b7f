use Rattle.std.proofs.Common.{◌≡◌, ◌++◌, take}
use Rattle.share_core.specs.State.{unit_numbers}
use Rattle.share_rule.proofs.first_words.push_numbers.Given as goal

abbrev pub invariant-loop-unit : goal.invariant-loop-unit
invariant-loop-unit l = l.words.items ≡ l.initial.words.items ++ unit_numbers (take l.unit-index l.units)
