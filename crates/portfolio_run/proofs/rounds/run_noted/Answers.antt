use Rattle.std.proofs.Common.{ℕ, List, sym, subst}
use Rattle.ring_run.specs.declared.job.Counts.{Counts}
use Rattle.portfolio_run.specs.Tables.{IsOpened}
use Rattle.portfolio_run.proofs.rounds.run_noted.Goals as goal

pub run_table-requires : goal.run_table-requires
run_table-requires g c κs within =
    let q = c.requires.1.1.1.1.1.1 in
    let same = q.1.1.1.1.1.1.1.1.1.0 in
    let opened = subst (λ (x : List Counts × ℕ). IsOpened g.S.Sink.written g.S.Sink.flushed g.S.Sink.target g.S.Sink.faults g.known.0 c.args.plan.now c.args.formula.now c.args.paused.left x.0 x.1 c.limit_of-limit.result c.in-Ok.opened.0 c.in-Ok.opened.1 c.in-Ok.opened.2.items)
    (λ i. (sym same.0 i, sym same.1 i)) c.in-Ok.ensures.opened in
    (within.0, (within.1.0, (within.1.1, (c.requires.1.1.1.0, (c.requires.1.1.1.1.0, (c.requires.1.1.1.1.1.0, (q.0, (q.1.0, (q.1.1.1.1.0, (q.1.1.1.1.1.0, (q.1.1.1.1.1.1.0, (q.1.1.1.1.1.1.1.0, (opened, q.1.1.1.1.1.1.1.1.1.1)))))))))))))
