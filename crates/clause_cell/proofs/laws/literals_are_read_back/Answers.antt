use Rattle.clause_cell.proofs.Packed.{half_is, word_inside}
use Rattle.clause_cell.proofs.laws.literals_are_read_back.Goals as goal

pub returns-clause-code : goal.returns-clause-code
returns-clause-code c = half_is

pub returns-clause-inside : goal.returns-clause-inside
returns-clause-inside c = word_inside
