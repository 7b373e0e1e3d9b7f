use Rattle.std.specs.Option.{option_map}
use Rattle.portfolio_run.proofs.Finishing.{solved_ok, solved_err, target_stays}
use Rattle.portfolio_run.proofs.finish.finish.Goals as goal

pub returns-in-Ok-clause-solved : goal.returns-in-Ok-clause-solved
returns-in-Ok-clause-solved g c =
    let e = c.finish-finished.ensures in
    solved_ok g.S.Sink.written g.S.Sink.flushed g.S.Sink.target g.S.Sink.faults g.sink c.args._plan.now c.args._formula.now c.args.answer c.args.tally.items c.args.book c.requires.1 c.finish-finished.result.1 c.finish-finished.result.0 c.in-Ok.field-0
    (option_map (λ v. v.items) c.finish-finished.result.2) e.ended c.in-Ok.is e.kept e.whole e.cause

pub returns-in-Err-clause-solved : goal.returns-in-Err-clause-solved
returns-in-Err-clause-solved g c =
    let e = c.finish-finished.ensures in
    solved_err g.S.Sink.written g.S.Sink.flushed g.S.Sink.target g.S.Sink.faults g.sink c.args._plan.now c.args._formula.now c.args.answer c.args.tally.items c.args.book c.requires.1 c.finish-finished.result.1 c.finish-finished.result.0 c.in-Err.field-0
    c.without_proof.result e.ended c.in-Err.is c.without_proof.ensures e.front e.cause e.later

pub returns-in-Ok-clause-target : goal.returns-in-Ok-clause-target
returns-in-Ok-clause-target g c =
    target_stays g.S.Sink.written g.S.Sink.flushed g.S.Sink.target g.S.Sink.faults g.sink c.args._plan.now c.args._formula.now c.args.answer c.args.tally.items c.args.book c.requires.1 c.finish-finished.result.1 c.finish-finished.ensures.target

pub returns-in-Err-clause-target : goal.returns-in-Err-clause-target
returns-in-Err-clause-target g c =
    target_stays g.S.Sink.written g.S.Sink.flushed g.S.Sink.target g.S.Sink.faults g.sink c.args._plan.now c.args._formula.now c.args.answer c.args.tally.items c.args.book c.requires.1 c.finish-finished.result.1 c.finish-finished.ensures.target
