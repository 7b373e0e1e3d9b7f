use Rattle.std.proofs.Common.{take}
use Rattle.drat_text.specs.Gathered.{Gathers}
use Rattle.drat_text.specs.Text.{lits_text}
use Rattle.drat_text.proofs.blocks.Blocks.append_lits.Given as goal

abbrev pub invariant-loop-lit : goal.invariant-loop-lit
invariant-loop-lit g l = Gathers g.S.Sink.written g.S.Sink.flushed g.S.Sink.target g.S.Sink.faults l.fn.self l.self (lits_text (take l.lit-index l.lits))
