use Rattle.portfolio_run.proofs.rounds.run_round.Given as goal

abbrev pub ghost-of_pause : goal.ghost-of_pause
ghost-of_pause g a = g.known.1

abbrev pub ghost-run_noted : goal.ghost-run_noted
ghost-run_noted g a = (g.known.0, a.paused.tally.items, a.paused.done, a._journal.now.entries)
