use Rattle.std.proofs.Common.{ℕ, ◌<◌, get_or}
use Rattle.sat_words.specs.Literal.{Literal}
use Rattle.simp_base.specs.Tables.{IsUnit}
use Rattle.simp_base.proofs.hints.unit_among.Given as goal

abbrev pub invariant-loop-lit : goal.invariant-loop-lit
invariant-loop-lit l = (k : ℕ) (d : Literal) → k < l.lit-index → IsUnit l.clauses.clauses (get_or l.lits k d) → ⊥
