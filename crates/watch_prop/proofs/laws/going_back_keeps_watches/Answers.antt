use Rattle.watch_prop.proofs.TrailLaws.{Watched-back}
use Rattle.watch_prop.proofs.laws.going_back_keeps_watches.Goals as goal

pub returns : goal.returns
returns c = Watched-back
