use Rattle.watch_prop.proofs.TrailRounds.{conflict_unfinished}
use Rattle.watch_prop.proofs.rounds.conflicts_of_rounds_are_unfinished.Goals as goal

pub returns : goal.returns
returns c = λ G A t shape. conflict_unfinished t shape G A
