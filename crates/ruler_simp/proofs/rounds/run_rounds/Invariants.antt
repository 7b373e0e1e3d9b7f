use Rattle.std.proofs.Common.{◌-◌}
use Rattle.ruler_simp.proofs.Turning.{Turns}
use Rattle.ruler_simp.proofs.rounds.run_rounds.Given as goal

abbrev pub invariant-loop-done : goal.invariant-loop-done
invariant-loop-done g l = Turns l.schedule.additions l.schedule.rounds (l.schedule.rounds - l.done) l.initial.work l.work
