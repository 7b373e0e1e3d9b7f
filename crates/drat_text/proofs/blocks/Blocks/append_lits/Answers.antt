use Rattle.std.proofs.Common.{◌++◌, take, drop, codes, subst, sym, ◌+◌}
use Rattle.sat_words.specs.Literal.{lit_text}
use Rattle.drat_text.specs.Text.{lits_text}
use Rattle.drat_text.specs.Gathered.{Breaks}
use Rattle.drat_text.proofs.LineText.{words_split}
use Rattle.drat_text.proofs.Gathering.{breaks_then, breaks_longer}
use Rattle.drat_text.proofs.blocks.Blocks.append_lits.Goals as goal

pub returns-in-Err : goal.returns-in-Err
returns-in-Err g c =
    let lits = c.args.lits.now in
    let i = c.loop-lit.lit-index in
    let lit = c.lit-item.result in
    subst (Breaks g.S.Sink.written g.S.Sink.flushed g.S.Sink.target g.S.Sink.faults c.args.self.now c.append_lit.new.self) (sym (words_split (λ x. lit_text x ++ codes " ") lits i lit c.loop-lit-test.true c.lit-item.is))
    (breaks_longer g.S.Sink.written g.S.Sink.flushed g.S.Sink.target g.S.Sink.faults c.args.self.now c.append_lit.new.self
    (lits_text (take i lits) ++ (lit_text lit ++ codes " ")) (lits_text (drop (i + 1) lits))
    (breaks_then g.S.Sink.written g.S.Sink.flushed g.S.Sink.target g.S.Sink.faults c.args.self.now c.loop-lit.self c.append_lit.new.self (lits_text (take i lits)) (lit_text lit ++ codes " ")
    c.loop-lit.invariant c.in-Err.ensures))
