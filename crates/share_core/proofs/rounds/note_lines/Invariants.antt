use Rattle.std.proofs.Common.{◌≡◌, ◌+◌, ◌++◌, ℕ, List, map, length, take}
use Rattle.rup_model.specs.declared.journal.Entry.{Entry}
use Rattle.share_core.specs.NextRound.{line_of, AreEntriesOf}
use Rattle.share_core.proofs.rounds.note_lines.Given as goal

abbrev pub invariant-loop-line : goal.invariant-loop-line
invariant-loop-line l = record {
  long : length l.journal ≡ length l.fn.journal + l.line-index;
  journal : (kept : List ℕ) (E : List Entry) → AreEntriesOf l.clauses l.fn.journal kept l.lines E → l.journal ≡ l.fn.journal ++ take l.line-index E;
  told : l.told ≡ l.fn.told ++ map line_of (take l.line-index l.lines);
}
