use Rattle.std.proofs.Common.{subst, ℕ, Contains}
use Rattle.simp_base.proofs.Removal.{same_number}
use Rattle.simp_base.proofs.Weaken.{lifted_implied}
use Rattle.simp_base.proofs.laws.implied_clauses_lift.Goals as goal

pub returns : goal.returns
returns c = λ old new number h kept follows. lifted_implied old new number h follows
    (λ n e k same. same_number old.clauses kept.numbers number e h.clause (subst (λ (m : ℕ). Contains old.clauses (m, e)) same k) h.alive)
