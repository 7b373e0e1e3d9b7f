use Rattle.clause_cell.proofs.Packed.{low_half, high_half}
use Rattle.clause_cell.proofs.laws.words_are_read_back.Goals as goal

pub returns-clause-low : goal.returns-clause-low
returns-clause-low c = low_half

pub returns-clause-high : goal.returns-clause-high
returns-clause-high c = high_half
