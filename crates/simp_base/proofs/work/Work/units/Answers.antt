use Rattle.std.proofs.Common.{sym, subst, ℕ, List}
use Rattle.sat_words.specs.Literal.{Literal}
use Rattle.simp_base.specs.WorkState.{WorkState, AreHeld}
use Rattle.simp_base.proofs.work.Work.units.Goals as goal

pub returns-clause-held : goal.returns-clause-held
returns-clause-held g c =
    subst (λ (w : WorkState). AreHeld w.clauses c.as_slice.result.now) c.self.view_is
    (subst (λ (us : List (Literal × ℕ)). AreHeld c.self.inside.clauses.clauses us) (sym c.as_slice.ensures) c.self.invariant.5)
