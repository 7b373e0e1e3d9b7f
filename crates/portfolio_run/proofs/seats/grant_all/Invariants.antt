use Rattle.portfolio_run.proofs.Rights.{HasFirst}
use Rattle.portfolio_run.proofs.seats.grant_all.Given as goal

abbrev pub invariant-loop-next : goal.invariant-loop-next
invariant-loop-next g l = HasFirst l.table l.fn.first.me.0 l.first l.next
