use Rattle.rup_model.proofs.Parts.{ruler_part-append, rings_part-append}
use Rattle.rup_model.proofs.journal_laws.the_ruler_comes_first.Goals as goal

pub returns-clause-front : goal.returns-clause-front
returns-clause-front c = ruler_part-append

pub returns-clause-rest : goal.returns-clause-rest
returns-clause-rest c = rings_part-append
