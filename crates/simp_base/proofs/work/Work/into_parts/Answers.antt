use Rattle.std.proofs.Common.{sym, subst, ℕ, List}
use Rattle.sat_words.specs.Literal.{Literal}
use Rattle.simp_base.specs.WorkState.{AreHeld}
use Rattle.simp_base.proofs.work.Work.into_parts.Goals as goal

pub returns-clause-held : goal.returns-clause-held
returns-clause-held g c = subst (λ (s : List (ℕ × List Literal) × List (Literal × ℕ)). AreHeld s.0 s.1) (λ k. (sym c.into_clauses.ensures k, sym c.into_list.ensures k)) c.self.invariant.5
