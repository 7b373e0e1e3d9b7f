use Rattle.std.proofs.Common.{◌≡◌, ◌≤◌, ◌-◌, replicate}
use Rattle.portfolio_run.specs.Held.{no_counts}
use Rattle.portfolio_run.specs.Pauses.{IsPaused}
use Rattle.portfolio_run.specs.Reached.{pause_of}
use Rattle.portfolio_run.proofs.solving.solve_left.Given as goal

abbrev pub ghost-run_round : goal.ghost-run_round
ghost-run_round g a = (g.known, pause_of g.S.Sink.written g.S.Sink.flushed g.S.Sink.target g.S.Sink.faults g.known a.plan.now a.formula.now a.paused.left a.paused.tally.items a.paused.done a.paused.book)

abbrev pub ghost-finish : goal.ghost-finish
ghost-finish g a = g.known

abbrev pub invariant-loop-next : goal.invariant-loop-next
invariant-loop-next g l = (l.paused.done ≤ l.fn.plan.conflicts)
    × IsPaused (pause_of g.S.Sink.written g.S.Sink.flushed g.S.Sink.target g.S.Sink.faults g.known l.fn.plan l.fn.formula l.paused.left l.paused.tally.items l.paused.done l.paused.book)
    × (l.paused.counts.items ≡ replicate l.fn.plan.threads no_counts)

abbrev pub decreases-loop-next : goal.decreases-loop-next
decreases-loop-next g l = l.fn.plan.conflicts - l.paused.done
