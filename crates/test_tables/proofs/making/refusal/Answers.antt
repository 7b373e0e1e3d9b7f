use Rattle.test_tables.proofs.Trying.{no_line}
use Rattle.test_tables.proofs.making.refusal.Goals as goal

pub try_over-requires-clause-book : goal.try_over-requires-clause-book
try_over-requires-clause-book c = no_line c.in_ok-book.book c.args.problem.now.formula.clauses c.in_ok-book.ensures
