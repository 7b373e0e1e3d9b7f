use Rattle.std.proofs.Common.{take}
use Rattle.simp_base.specs.Tables.{Noted}
use Rattle.simp_base.proofs.occurrences.Occurrences.note_all.Given as goal

abbrev pub invariant-loop-lit : goal.invariant-loop-lit
invariant-loop-lit l = Noted l.initial.self l.self (take l.lit-index l.lits) l.number
