use Rattle.clause_cell.proofs.Ranges.{none_largest}
use Rattle.clause_cell.proofs.Exact.{none_fits}
use Rattle.clause_cell.proofs.laws.none_fits_where_the_longest_is_shorter.Goals as goal

pub returns-clause-none : goal.returns-clause-none
returns-clause-none c = λ hs need lt. none_fits need hs lt

pub returns-clause-shorter : goal.returns-clause-shorter
returns-clause-shorter c = λ hs need some e. none_largest need hs some e
