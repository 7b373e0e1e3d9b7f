use Rattle.std.proofs.Common.{subst, ℕ, Contains}
use Rattle.rup_model.proofs.Lists.{Contains_In}
use Rattle.simp_base.specs.WorkState.{known}
use Rattle.simp_base.proofs.Removal.{same_number}
use Rattle.simp_base.proofs.Weaken.{lifted_deleted}
use Rattle.simp_base.proofs.laws.contained_clauses_lift.Goals as goal

pub returns : goal.returns
returns c = λ old new number h d kept among inside. lifted_deleted old new number h d (Contains_In (known new) d among) inside
    (λ n e k same. same_number old.clauses kept.numbers number e h.clause (subst (λ (m : ℕ). Contains old.clauses (m, e)) same k) h.alive)
