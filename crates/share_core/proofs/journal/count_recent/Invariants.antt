use Rattle.std.proofs.Common.{◌≡◌, ◌≤◌, length, take}
use Rattle.rup_model.specs.Journal.{recent}
use Rattle.share_core.proofs.journal.count_recent.Given as goal

abbrev pub invariant-loop-entry : goal.invariant-loop-entry
invariant-loop-entry l = (l.count ≡ length (recent l.ring (take l.entry-index l.journal))) × (l.count ≤ l.entry-index)
