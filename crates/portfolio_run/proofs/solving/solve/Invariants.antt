use Rattle.portfolio_run.proofs.solving.solve.Given as goal

abbrev pub ghost-solve_counted : goal.ghost-solve_counted
ghost-solve_counted g a = a.sink
