use Rattle.std.proofs.Common.{take}
use Rattle.share_core.specs.NextRound.{AreDeleted}
use Rattle.share_core.proofs.fitting.note_deletions.Given as goal

abbrev pub invariant-loop-line : goal.invariant-loop-line
invariant-loop-line l = AreDeleted l.clauses l.fn.journal l.kept (take l.line-index l.lines) l.journal
