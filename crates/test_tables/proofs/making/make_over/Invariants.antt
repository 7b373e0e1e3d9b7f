use Rattle.std.proofs.Common.{[]}
use Rattle.test_tables.proofs.making.make_over.Given as goal

abbrev pub ghost-make : goal.ghost-make
ghost-make g a = []
