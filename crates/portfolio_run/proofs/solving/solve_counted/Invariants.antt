use Rattle.portfolio_run.proofs.solving.solve_counted.Given as goal

abbrev pub ghost-solve_left : goal.ghost-solve_left
ghost-solve_left g a = g.given

abbrev pub ghost-finish : goal.ghost-finish
ghost-finish g a = g.given
