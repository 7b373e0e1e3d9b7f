use Rattle.std.proofs.Common.{◌≡◌, take}
use Rattle.std.specs.List.{list_any}
use Rattle.sat_words.specs.Clause.{includes}
use Rattle.rup_model.specs.Journal.{recent}
use Rattle.share_core.proofs.journal.repeats_recent.Given as goal

abbrev pub invariant-loop-entry : goal.invariant-loop-entry
invariant-loop-entry l = l.repeats ≡ list_any (includes l.lits) (recent l.ring (take l.entry-index l.journal))
