use Rattle.std.proofs.Common.{sym, subst, Contains}
use Rattle.simp_base.specs.WorkState.{WorkState}
use Rattle.simp_base.proofs.work.Work.occurrences.Goals as goal

pub returns : goal.returns
returns g c = record { every = λ n d i h. c.occurrences.ensures.every n d (subst (λ (w : WorkState). Contains w.clauses (n, d)) (sym c.self.view_is) i) h }
