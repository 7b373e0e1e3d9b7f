use Rattle.portfolio_run.proofs.Tabling.{with_round}
use Rattle.portfolio_run.proofs.tables.open_table.Given as goal

abbrev pub ghost-make : goal.ghost-make
ghost-make g a = with_round g.known.3 a.start.now a.units.now
