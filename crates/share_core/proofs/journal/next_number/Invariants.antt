use Rattle.std.proofs.Common.{◌≡◌, ◌+◌, ◌≤◌, length, take}
use Rattle.rup_model.specs.Journal.{book}
use Rattle.share_core.proofs.journal.next_number.Given as goal

abbrev pub invariant-loop-entry : goal.invariant-loop-entry
invariant-loop-entry l = (l.next ≡ (book l.clauses (take l.entry-index l.journal)).next) × (l.next ≤ 1 + length l.clauses + l.entry-index)
