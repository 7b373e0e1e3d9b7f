use Rattle.portfolio_run.proofs.rounds.run_table.Given as goal

abbrev pub ghost-pause : goal.ghost-pause
ghost-pause g a = g.known
