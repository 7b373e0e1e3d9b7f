use Rattle.std.proofs.Common.{[], ◌∷◌, map, subst}
use Rattle.sat_words.specs.Literal.{Literal, opposite}
use Rattle.simp_elim.specs.Resolution.{fix_of}
use Rattle.simp_elim.specs.Occurring.{clause_at}
use Rattle.simp_base.specs.Stacked.{WasStacked}
use Rattle.simp_base.proofs.Stacking.{was_stacked_after}
use Rattle.simp_elim.proofs.entries.push_all.Goals as goal

pub returns-clause-stacked : goal.returns-clause-stacked
returns-clause-stacked g c =
    let a = c.args.work.now in let b = c.push_each.new.work in let new = c.push_unit.new.work in let l = c.args.lit in
    was_stacked_after a b new (map (fix_of l) (map (clause_at a.clauses) c.args.numbers.now)) (fix_of (opposite l) (opposite l ∷ []) ∷ []) c.in_ok-push_each.ensures.stacked c.push_unit.result
    (subst (λ (k : Literal). WasStacked b new (fix_of k (k ∷ []) ∷ []) c.push_unit.result) c.not.ensures c.push_unit.ensures.stacked)
