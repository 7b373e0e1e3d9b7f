use Rattle.std.proofs.Common.{rules, ◌≡◌, codes, subst}
use Rattle.sat_words.specs.Literal.{lit_text}
use Rattle.drat_text.proofs.Gathering.{then_either, breaks_longer}
use Rattle.drat_text.specs.Gathered.{Gathers, Breaks}
use Rattle.drat_text.proofs.blocks.Blocks.append_lit.Goals as goal

pub returns-in-Ok : goal.returns-in-Ok
returns-in-Ok g c =
    let text : c.as_bytes.result.now ≡ lit_text c.args.lit = search rules in
    then_either g.S.Sink.written g.S.Sink.flushed g.S.Sink.target g.S.Sink.faults c.append-in-Ok.result c.args.self.now c.append.new.self c.append-in-Ok.new.self (lit_text c.args.lit) (codes " ")
    (subst (Gathers g.S.Sink.written g.S.Sink.flushed g.S.Sink.target g.S.Sink.faults c.args.self.now c.append.new.self) text c.in-Ok.ensures) c.append-in-Ok.ensures

pub returns-in-Err : goal.returns-in-Err
returns-in-Err g c =
    let text : c.as_bytes.result.now ≡ lit_text c.args.lit = search rules in
    breaks_longer g.S.Sink.written g.S.Sink.flushed g.S.Sink.target g.S.Sink.faults c.args.self.now c.append.new.self (lit_text c.args.lit) (codes " ")
    (subst (Breaks g.S.Sink.written g.S.Sink.flushed g.S.Sink.target g.S.Sink.faults c.args.self.now c.append.new.self) text c.in-Err.ensures)
