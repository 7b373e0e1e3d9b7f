use Rattle.std.proofs.Common.{◌≡◌, true}
use Rattle.sat_words.specs.Clause.{has}
use Rattle.simp_add.proofs.alike.rarest.Given as goal

abbrev pub invariant-loop-lit : goal.invariant-loop-lit
invariant-loop-lit g l = has l.lits l.best ≡ true
