use Rattle.log_book.proofs.Filling.{filled, cut_off}
use Rattle.log_book.proofs.book.Book.has_its_log.Goals as goal

pub returns-clause-whole : goal.returns-clause-whole
returns-clause-whole g c = λ F J l f sink asked none h. filled g.S.Sink.written g.S.Sink.flushed g.S.Sink.target g.S.Sink.faults c.args.self.now f sink asked F J l none h

pub returns-clause-cut : goal.returns-clause-cut
returns-clause-cut g c = λ F J l f sink asked none h. cut_off g.S.Sink.written g.S.Sink.flushed g.S.Sink.target g.S.Sink.faults c.args.self.now f sink asked F J l none h
