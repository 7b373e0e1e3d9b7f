use Rattle.watch_prop.proofs.TrailRounds.{closed_or_unfinished, closed_apart, closed_with}
use Rattle.watch_prop.proofs.rounds.trails_are_closed_or_unfinished.Goals as goal

pub returns-clause-either : goal.returns-clause-either
returns-clause-either c = λ G t shape. closed_or_unfinished t shape G

pub returns-clause-apart : goal.returns-clause-apart
returns-clause-apart c = λ G t shape. closed_apart t shape G

pub returns-clause-more : goal.returns-clause-more
returns-clause-more c = λ cs units t shape. closed_with t shape cs units
