use Rattle.std.proofs.Common.{length}
use Rattle.share_core.proofs.knowledge.+add_units.Given as goal

-- proposed from what the function passes where it calls itself
abbrev pub decreases-add_units : goal.decreases-add_units
decreases-add_units l = length l.seen.now
