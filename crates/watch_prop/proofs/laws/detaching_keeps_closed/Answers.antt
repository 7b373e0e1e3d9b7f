use Rattle.watch_prop.proofs.DetachingLaws.{Closed-at, Closed-without}
use Rattle.watch_prop.proofs.laws.detaching_keeps_closed.Goals as goal

pub returns-clause-at : goal.returns-clause-at
returns-clause-at c = Closed-at

pub returns-clause-below : goal.returns-clause-below
returns-clause-below c = Closed-without
