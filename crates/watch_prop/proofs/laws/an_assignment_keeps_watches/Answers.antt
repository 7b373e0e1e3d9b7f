use Rattle.watch_prop.proofs.TrailLaws.{Watched-assign}
use Rattle.watch_prop.proofs.laws.an_assignment_keeps_watches.Goals as goal

pub returns : goal.returns
returns c = Watched-assign
