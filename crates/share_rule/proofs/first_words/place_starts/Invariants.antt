use Rattle.std.proofs.Common.{take}
use Rattle.share_rule.proofs.Contiguous.{Laid}
use Rattle.share_rule.proofs.first_words.place_starts.Given as goal

abbrev pub invariant-loop-clause : goal.invariant-loop-clause
invariant-loop-clause l = Laid l.layout l.initial.words.items (take l.clause-index l.start) l.words.items l.holes l.cells.items
