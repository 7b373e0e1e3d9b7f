use Rattle.std.proofs.Common.{rules, ◌≡◌, ◌++◌, take, drop, subst, sym, ◌+◌}
use Rattle.drat_text.specs.Binary.{lit_bytes, lits_bytes}
use Rattle.drat_text.specs.Gathered.{Breaks}
use Rattle.drat_text.proofs.LineText.{words_split}
use Rattle.drat_text.proofs.Gathering.{breaks_then, breaks_longer}
use Rattle.drat_text.proofs.blocks.Blocks.append_codes.Goals as goal

pub returns-in-Err : goal.returns-in-Err
returns-in-Err g c =
    let lits = c.args.lits.now in
    let i = c.loop-lit.lit-index in
    let lit = c.lit-item.result in
    let word : c.as_slice.result.now ≡ lit_bytes lit = search rules in
    subst (Breaks g.S.Sink.written g.S.Sink.flushed g.S.Sink.target g.S.Sink.faults c.args.self.now c.append.new.self) (sym (words_split lit_bytes lits i lit c.loop-lit-test.true c.lit-item.is))
    (breaks_longer g.S.Sink.written g.S.Sink.flushed g.S.Sink.target g.S.Sink.faults c.args.self.now c.append.new.self
    (lits_bytes (take i lits) ++ lit_bytes lit) (lits_bytes (drop (i + 1) lits))
    (breaks_then g.S.Sink.written g.S.Sink.flushed g.S.Sink.target g.S.Sink.faults c.args.self.now c.loop-lit.self c.append.new.self (lits_bytes (take i lits)) (lit_bytes lit)
    c.loop-lit.invariant (subst (Breaks g.S.Sink.written g.S.Sink.flushed g.S.Sink.target g.S.Sink.faults c.loop-lit.self c.append.new.self) word c.in-Err.ensures)))
