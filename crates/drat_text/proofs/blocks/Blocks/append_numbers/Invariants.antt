use Rattle.std.proofs.Common.{take}
use Rattle.drat_text.specs.Gathered.{Gathers}
use Rattle.drat_text.specs.Lrat.{numbers_text}
use Rattle.drat_text.proofs.blocks.Blocks.append_numbers.Given as goal

abbrev pub invariant-loop-number : goal.invariant-loop-number
invariant-loop-number g l = Gathers g.S.Sink.written g.S.Sink.flushed g.S.Sink.target g.S.Sink.faults l.fn.self l.self (numbers_text (take l.number-index l.numbers))
