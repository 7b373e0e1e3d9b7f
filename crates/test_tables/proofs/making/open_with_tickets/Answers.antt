use Rattle.test_tables.proofs.Trying.{no_line}
use Rattle.test_tables.proofs.making.open_with_tickets.Goals as goal

pub open_with-requires-clause-book : goal.open_with-requires-clause-book
open_with-requires-clause-book c = no_line c.in_ok-book.book c.args.problem.now.formula.clauses c.in_ok-book.ensures
