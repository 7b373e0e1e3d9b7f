use Rattle.watch_prop.proofs.TrailLaws.{Watched-port}
use Rattle.watch_prop.proofs.laws.attached_clauses_keep_watches.Goals as goal

pub returns : goal.returns
returns c = Watched-port
