use Rattle.std.proofs.Common.{ℕ, ◌<◌, List, get_or, All}
use Rattle.sat_words.specs.Literal.{Literal, IsOn}
use Rattle.ring_walk.proofs.tests.are_on.Given as goal

abbrev pub invariant-loop-clause : goal.invariant-loop-clause
invariant-loop-clause l = (k : ℕ) (d : List Literal) → k < l.clause-index → All (IsOn l.vars) (get_or l.clauses k d)
