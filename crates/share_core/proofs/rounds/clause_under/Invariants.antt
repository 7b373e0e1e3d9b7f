use Rattle.std.proofs.Common.{◌≡◌, ◌+◌, ◌≤◌, length, take}
use Rattle.rup_model.specs.Journal.{book}
use Rattle.share_core.proofs.rounds.clause_under.Given as goal

abbrev pub invariant-loop-entry : goal.invariant-loop-entry
invariant-loop-entry l = record {
  clause : l.clause ≡ (book l.clauses (take l.entry-index l.journal)).clause l.number;
  next : l.next ≡ (book l.clauses (take l.entry-index l.journal)).next;
  small : l.next ≤ 1 + length l.clauses + l.entry-index;
}
