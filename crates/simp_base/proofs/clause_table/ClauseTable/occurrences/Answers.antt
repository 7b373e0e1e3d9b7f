use Rattle.std.proofs.Common.{sym, subst, List, ℕ, Contains}
use Rattle.simp_base.specs.Tables.{ClauseData}
use Rattle.simp_base.proofs.clause_table.ClauseTable.occurrences.Goals as goal

pub returns : goal.returns
returns c = record {
  every = λ n d i h. subst (λ (xs : List ℕ). Contains xs n) (sym c.of.ensures)
      (c.self.invariant.noted n d c.args.lit (subst (λ (t : ClauseData). Contains t.clauses (n, d)) (sym c.self.view_is) i) h);
}
