use Rattle.std.proofs.Common.{sym, subst, Contains, arith}
use Rattle.simp_base.specs.Tables.{ClauseData}
use Rattle.simp_base.proofs.clause_table.ClauseTable.codes.Goals as goal

pub returns-clause-within : goal.returns-clause-within
returns-clause-within c n d l i h =
    let lt = c.self.invariant.inside n d l (subst (λ (t : ClauseData). Contains t.clauses (n, d)) (sym c.self.view_is) i) h in
    omega (arith, lt, c.len.ensures, c.self.inside.alone.ok)
