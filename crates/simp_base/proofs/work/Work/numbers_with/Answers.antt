use Rattle.std.proofs.Common.{sym, subst, Contains}
use Rattle.simp_base.specs.WorkState.{WorkState}
use Rattle.simp_base.proofs.work.Work.numbers_with.Goals as goal

pub returns-in-Ok-clause-every : goal.returns-in-Ok-clause-every
returns-in-Ok-clause-every g c n d i h = c.in-Ok.ensures.every n d (subst (λ (w : WorkState). Contains w.clauses (n, d)) (sym c.self.view_is) i) h
