use Rattle.std.proofs.Common.{subst, [], ◌∷◌}
use Rattle.sat_words.specs.Literal.{Literal, opposite}
use Rattle.sat_words.specs.Clause.{clause_of}
use Rattle.simp_base.specs.Stacked.{Stacked, WasStacked}
use Rattle.simp_base.proofs.Stacking.{was_stacked_after}
use Rattle.simp_equiv.proofs.entries.push_both.Goals as goal

pub returns-clause-stacked : goal.returns-clause-stacked
returns-clause-stacked g c =
    let a = c.args.work.now in let b = c.push_entry.new.work in let new = c.push_entry-2.new.work in let l = c.args.lit in let r = c.args.by in
    was_stacked_after a b new (record { lit = l; clause = clause_of (l ∷ opposite r ∷ []) } ∷ []) (record { lit = opposite l; clause = clause_of (opposite l ∷ r ∷ []) } ∷ [])
    (subst (λ (k : Literal). Stacked a b (record { lit = l; clause = clause_of (l ∷ k ∷ []) } ∷ [])) c.not.ensures c.in_ok-push_entry.ensures.stacked)
    c.push_entry-2.result
    (subst (λ (k : Literal). WasStacked b new (record { lit = k; clause = clause_of (k ∷ r ∷ []) } ∷ []) c.push_entry-2.result) c.not-2.ensures c.push_entry-2.ensures.stacked)
