use Rattle.std.proofs.Common.{◌≡◌, false}
use Rattle.test_table.proofs.tests_speed.put_lines.Given as goal

abbrev pub invariant-loop : goal.invariant-loop
invariant-loop l = l.book.log.lines.spent ≡ false
