use Rattle.watch_prop.proofs.TrailLaws.{Watched-decide}
use Rattle.watch_prop.proofs.laws.a_decision_keeps_watches.Goals as goal

pub returns : goal.returns
returns c = Watched-decide
