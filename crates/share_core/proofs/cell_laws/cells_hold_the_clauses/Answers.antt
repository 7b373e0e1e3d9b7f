use Rattle.rup_model.specs.Journal.{additions}
use Rattle.rup_model.proofs.Lists.{Contains_In}
use Rattle.share_core.proofs.Standing.{start_in, addition_in}
use Rattle.share_core.proofs.cell_laws.cells_hold_the_clauses.Goals as goal

pub returns-clause-starts : goal.returns-clause-starts
returns-clause-starts c = λ d h s i none. start_in d s h (Contains_In d.opening.starts h i) none

pub returns-clause-additions : goal.returns-clause-additions
returns-clause-additions c = λ d K x s e i two none. addition_in d s K x e (Contains_In (additions K) x i) two none
