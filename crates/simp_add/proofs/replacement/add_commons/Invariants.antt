use Rattle.std.proofs.Common.{map, take, ◌∷◌}
use Rattle.sat_words.specs.Literal.{opposite}
use Rattle.simp_add.specs.Stages.{Grown, set_at}
use Rattle.simp_add.proofs.replacement.add_commons.Given as goal

abbrev pub invariant-loop-number : goal.invariant-loop-number
invariant-loop-number g l = Grown l.initial.work l.work (map (λ n. opposite l.fresh ∷ set_at l.initial.work.clauses l.lit n) (take l.number-index l.firsts))
