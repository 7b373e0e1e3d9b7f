use Rattle.std.proofs.Common.{◌≡◌, false}
use Rattle.test_table.proofs.tests_books.add_often.Given as goal

abbrev pub invariant-loop-done : goal.invariant-loop-done
invariant-loop-done g l = l.book.log.lines.spent ≡ false
