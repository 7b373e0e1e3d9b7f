use Rattle.std.proofs.Common.{ℕ, ◌<◌, get_or}
use Rattle.sat_words.specs.Literal.{Literal, IsOn}
use Rattle.ring_walk.proofs.tests.lits_on.Given as goal

abbrev pub invariant-loop-lit : goal.invariant-loop-lit
invariant-loop-lit l = (k : ℕ) (d : Literal) → k < l.lit-index → IsOn l.vars (get_or l.lits k d)
