use Rattle.watch_prop.proofs.DetachingLaws.{Reasons-without}
use Rattle.watch_prop.proofs.laws.detaching_keeps_reasons.Goals as goal

pub returns : goal.returns
returns c = Reasons-without
