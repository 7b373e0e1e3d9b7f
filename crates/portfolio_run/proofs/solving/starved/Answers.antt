use Rattle.std.proofs.Common.{sym, subst, List, None, ℕ}
use Rattle.std.specs.declared.option.Option.{Option}
use Rattle.log_book.specs.Ended.{IsClosed}
use Rattle.log_book.proofs.Ending.{flush_closes}
use Rattle.portfolio_run.specs.Solved.{IsSolved}
use Rattle.portfolio_run.specs.declared.answer.Answer.TheVariants.{Memory}
use Rattle.portfolio_run.proofs.Ruling.{starved}
use Rattle.portfolio_run.proofs.solving.starved.Goals as goal

pub returns-clause-solved : goal.returns-clause-solved
returns-clause-solved g c =
    let before = g.S.Sink.faults c.args.sink in
    let faults = g.S.Sink.faults c.flush.new.self in
    let flushed = g.S.Sink.flushed c.flush.new.self in
    let e = c.flush.ensures in
    subst (λ (w : Option (List ℕ)). IsSolved c.args._plan.now c.args._formula.now Memory c.args.tally.items before faults flushed w None) (sym e.bytes)
    (starved c.args._plan.now c.args._formula.now c.args.tally.items before faults flushed (g.S.Sink.written c.args.sink) c.requires.few c.requires.on c.requires.threads c.requires.none c.requires.empty e.cause.later
    (subst (λ (w : Option (List ℕ)). IsClosed before faults flushed w) e.bytes (flush_closes before faults (g.S.Sink.written c.flush.new.self) (g.S.Sink.flushed c.args.sink) flushed c.flush.result e.cause e.flushed)))
