use Rattle.restart_plan.proofs.sequence.+luby_among.Given as goal

abbrev pub decreases-luby_among : goal.decreases-luby_among
decreases-luby_among l = l.bits
