use Rattle.std.proofs.Common.{arith}
use Rattle.rup_model.specs.Log.{alive}
use Rattle.rup_model.specs.Journal.{book, lines}
use Rattle.rup_model.proofs.Lists.{Contains_In}
use Rattle.rup_model.proofs.Numbers.{clause_below, journal_matches}
use Rattle.share_core.proofs.Standing.{start_below, next_more}
use Rattle.share_core.proofs.cell_laws.numbers_are_below_the_next.Goals as goal

pub returns-clause-cells : goal.returns-clause-cells
returns-clause-cells c = λ d a x s is. clause_below (book d.opening.formula d.journal) (alive d.opening.formula (lines d.opening.formula d.journal)) x.number x.lits (journal_matches d.opening.formula d.journal s.log.log.fits) (s.cells.alive a x is)

pub returns-clause-starts : goal.returns-clause-starts
returns-clause-starts c = λ d h s i. (let k = start_below d s h (Contains_In d.opening.starts h i) in let l = next_more d s s.log.begins.0 s.log.begins.1 in omega arith)
