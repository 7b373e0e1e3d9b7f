use Rattle.log_book.proofs.Ending.{has_ended}
use Rattle.log_book.proofs.book.Book.finish.Goals as goal

pub returns-clause-ended : goal.returns-clause-ended
returns-clause-ended g c =
    let e = c.finish-written.ensures in
    let f = c.flush-flushed.ensures in
    has_ended g.S.Sink.written g.S.Sink.flushed g.S.Sink.faults c.args.self c.finish-written.result.1 c.flush-flushed.new.self c.finish-written.result.0 c.flush-flushed.result e.whole e.spent e.cause f.bytes f.flushed f.cause
