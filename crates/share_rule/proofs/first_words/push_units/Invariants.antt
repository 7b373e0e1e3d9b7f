use Rattle.std.proofs.Common.{◌≡◌, ◌++◌, map, take}
use Rattle.sat_words.specs.Literal.{code_of}
use Rattle.share_rule.proofs.first_words.push_units.Given as goal

abbrev pub invariant-loop-unit : goal.invariant-loop-unit
invariant-loop-unit l = l.words.items ≡ l.initial.words.items ++ map (λ u. code_of u.0) (take l.unit-index l.units)
