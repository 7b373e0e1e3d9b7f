use Rattle.simp_base.proofs.Widening.{continues_grows}
use Rattle.simp_base.proofs.laws.continuing_grows.Goals as goal

pub returns : goal.returns
returns c = continues_grows
