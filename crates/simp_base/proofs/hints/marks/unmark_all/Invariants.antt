use Rattle.std.proofs.Common.{◌≡◌, ◌&&◌, not, take}
use Rattle.sat_words.specs.Literal.{Literal}
use Rattle.sat_words.specs.Clause.{has}
use Rattle.simp_base.specs.Collecting.{marked}
use Rattle.simp_base.proofs.hints.marks.unmark_all.Given as goal

abbrev pub invariant-loop-lit : goal.invariant-loop-lit
invariant-loop-lit l = (k : Literal) → marked l.marks.items k ≡ (not (has (take l.lit-index l.lits) k) && marked l.fn.marks.items k)
