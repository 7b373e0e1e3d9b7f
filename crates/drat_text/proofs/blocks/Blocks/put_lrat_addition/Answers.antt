use Rattle.std.proofs.Common.{◌++◌, codes}
use Rattle.std.specs.Fmt.{decimal}
use Rattle.drat_text.specs.Lrat.{numbers_text}
use Rattle.drat_text.specs.Text.{lits_text}
use Rattle.drat_text.proofs.Gathering.{breaks_longer}
use Rattle.drat_text.proofs.blocks.Blocks.put_lrat_addition.Goals as goal

pub returns-in-Err : goal.returns-in-Err
returns-in-Err g c =
    let after = c.append_number.new.self in
    let first = decimal c.args.number ++ codes " " in
    let text = lits_text c.args.lits.now in
    let numbers = numbers_text c.args.hints.now in
    breaks_longer g.S.Sink.written g.S.Sink.flushed g.S.Sink.target g.S.Sink.faults c.args.self.now after (first ++ text ++ codes "0 " ++ numbers) (codes "0\n")
    (breaks_longer g.S.Sink.written g.S.Sink.flushed g.S.Sink.target g.S.Sink.faults c.args.self.now after (first ++ text ++ codes "0 ") numbers
    (breaks_longer g.S.Sink.written g.S.Sink.flushed g.S.Sink.target g.S.Sink.faults c.args.self.now after (first ++ text) (codes "0 ")
    (breaks_longer g.S.Sink.written g.S.Sink.flushed g.S.Sink.target g.S.Sink.faults c.args.self.now after first text
    (c.in-Err.ensures))))
