use Rattle.std.proofs.Common.{length}
use Rattle.share_core.proofs.fitting.+stand_apart.Given as goal

abbrev pub decreases-stand_apart : goal.decreases-stand_apart
decreases-stand_apart l = length l.starts.now
