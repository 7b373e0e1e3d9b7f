use Rattle.share_core.proofs.Plainly.{recent_own}
use Rattle.share_core.proofs.laws.recent_by_own_entries.Goals as goal

pub returns : goal.returns
returns c = recent_own
