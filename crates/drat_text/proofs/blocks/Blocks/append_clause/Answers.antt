use Rattle.std.proofs.Common.{◌++◌, codes}
use Rattle.drat_text.specs.Lrat.{numbers_text}
use Rattle.drat_text.specs.Text.{lits_text}
use Rattle.drat_text.proofs.Gathering.{breaks_longer}
use Rattle.drat_text.proofs.blocks.Blocks.append_clause.Goals as goal

pub returns-in-Err : goal.returns-in-Err
returns-in-Err g c =
    let after = c.append_lits.new.self in
    let text = lits_text c.args.lits.now in
    let numbers = numbers_text c.args.hints.now in
    breaks_longer g.S.Sink.written g.S.Sink.flushed g.S.Sink.target g.S.Sink.faults c.args.self.now after (text ++ codes "0 " ++ numbers) (codes "0\n")
    (breaks_longer g.S.Sink.written g.S.Sink.flushed g.S.Sink.target g.S.Sink.faults c.args.self.now after (text ++ codes "0 ") numbers
    (breaks_longer g.S.Sink.written g.S.Sink.flushed g.S.Sink.target g.S.Sink.faults c.args.self.now after text (codes "0 ")
    (c.in-Err.ensures)))
