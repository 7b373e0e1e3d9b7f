use Rattle.std.proofs.Common.{◌++◌, ◌+◌, get_or, take, drop, codes, subst, sym}
use Rattle.std.specs.Fmt.{decimal}
use Rattle.std.proofs.lemmas.List.{get_or_default}
use Rattle.drat_text.specs.Lrat.{numbers_text}
use Rattle.drat_text.specs.Gathered.{Breaks}
use Rattle.drat_text.proofs.LineText.{words_split}
use Rattle.drat_text.proofs.Gathering.{breaks_then, breaks_longer}
use Rattle.drat_text.proofs.blocks.Blocks.append_numbers.Goals as goal

pub returns-in-Err : goal.returns-in-Err
returns-in-Err g c =
    let numbers = c.args.numbers.now in
    let i = c.loop-number.number-index in
    let number = get_or numbers i 0 in
    let low = c.loop-number-test.true in
    subst (Breaks g.S.Sink.written g.S.Sink.flushed g.S.Sink.target g.S.Sink.faults c.args.self.now c.append_number.new.self)
    (sym (words_split (λ n. decimal n ++ codes " ") numbers i number low (get_or_default numbers i 0 number low)))
    (breaks_longer g.S.Sink.written g.S.Sink.flushed g.S.Sink.target g.S.Sink.faults c.args.self.now c.append_number.new.self
    (numbers_text (take i numbers) ++ (decimal number ++ codes " ")) (numbers_text (drop (i + 1) numbers))
    (breaks_then g.S.Sink.written g.S.Sink.flushed g.S.Sink.target g.S.Sink.faults c.args.self.now c.loop-number.self c.append_number.new.self (numbers_text (take i numbers)) (decimal number ++ codes " ")
    c.loop-number.invariant c.in-Err.ensures))
