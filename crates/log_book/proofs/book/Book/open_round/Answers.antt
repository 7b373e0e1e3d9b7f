use Rattle.log_book.proofs.Filling.{filled_round}
use Rattle.log_book.proofs.book.Book.open_round.Goals as goal

pub returns-clause-filled : goal.returns-clause-filled
returns-clause-filled g c = filled_round g.S.Sink.written g.S.Sink.flushed g.S.Sink.target g.S.Sink.faults _ _ c.count_entry.ensures
