use Rattle.std.proofs.Common.{codes}
use Rattle.drat_text.specs.Lrat.{numbers_text}
use Rattle.drat_text.proofs.Gathering.{breaks_longer}
use Rattle.drat_text.proofs.blocks.Blocks.append_rest.Goals as goal

pub returns-in-Err : goal.returns-in-Err
returns-in-Err g c = breaks_longer g.S.Sink.written g.S.Sink.flushed g.S.Sink.target g.S.Sink.faults c.args.self.now c.append_numbers.new.self (numbers_text c.args.hints.now) (codes "0\n") c.in-Err.ensures
