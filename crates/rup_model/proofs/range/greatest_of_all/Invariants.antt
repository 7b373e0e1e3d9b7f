use Rattle.std.proofs.Common.{◌≤◌, take, All, map}
use Rattle.sat_words.specs.Literal.{Literal}
use Rattle.rup_model.proofs.range.greatest_of_all.Given as goal

abbrev pub invariant-loop-clause : goal.invariant-loop-clause
invariant-loop-clause g l = All (All (λ (k : Literal). k.var ≤ l.most)) (take l.clause-index (map g.C.Literals.lits l.clauses))
