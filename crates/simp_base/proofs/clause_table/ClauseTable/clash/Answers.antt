use Rattle.std.proofs.Common.{subst}
use Rattle.simp_base.specs.Tables.{ClauseData, IsClash}
use Rattle.simp_base.proofs.clause_table.ClauseTable.clash.Goals as goal

pub returns : goal.returns
returns c = subst (λ (t : ClauseData). IsClash t.clauses c.self.inside.clash) c.self.view_is c.self.invariant.agree
