use Rattle.simp_base.proofs.Widening.{grows_along}
use Rattle.simp_base.proofs.laws.growing_composes.Goals as goal

pub returns : goal.returns
returns c = grows_along
