use Rattle.portfolio_run.proofs.rounds.run_noted.Given as goal

abbrev pub ghost-open_table : goal.ghost-open_table
ghost-open_table g a = g.known

abbrev pub ghost-run_table : goal.ghost-run_table
ghost-run_table g a = g.known.0
