use Rattle.simp_base.proofs.WiderClauses.{rup_wider}
use Rattle.simp_base.proofs.laws.wider_clauses_follow.Goals as goal

pub returns : goal.returns
returns x = rup_wider
