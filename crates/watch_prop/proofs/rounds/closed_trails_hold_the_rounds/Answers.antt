use Rattle.watch_prop.proofs.TrailRounds.{rounds_true, closed_quiet, closed_same}
use Rattle.watch_prop.proofs.rounds.closed_trails_hold_the_rounds.Goals as goal

pub returns-clause-on_trail : goal.returns-clause-on_trail
returns-clause-on_trail c = λ G A t l shape closed given. rounds_true t shape G A closed given l

pub returns-clause-quiet : goal.returns-clause-quiet
returns-clause-quiet c = λ G A t shape closed given. closed_quiet t shape G A closed given

pub returns-clause-same : goal.returns-clause-same
returns-clause-same c = λ G A t l shape. closed_same t shape G A l
