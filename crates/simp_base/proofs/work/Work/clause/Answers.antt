use Rattle.std.proofs.Common.{subst, List, IfNone, Contains}
use Rattle.sat_words.specs.Literal.{Literal}
use Rattle.simp_base.specs.WorkState.{WorkState}
use Rattle.simp_base.proofs.work.Work.clause.Goals as goal

pub returns-clause-none : goal.returns-clause-none
returns-clause-none g c = subst (λ (w : WorkState). IfNone c.get.result ((d : List Literal) → Contains w.clauses (c.args.number, d) → ⊥)) c.self.view_is c.get.ensures.none
