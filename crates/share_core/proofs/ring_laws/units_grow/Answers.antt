use Rattle.share_core.proofs.Others.{run_units, run_seen, run_numbers, run_seen_numbers}
use Rattle.share_core.proofs.ring_laws.units_grow.Goals as goal

pub returns-clause-listed : goal.returns-clause-listed
returns-clause-listed c = λ d es. run_units es d

pub returns-clause-seen : goal.returns-clause-seen
returns-clause-seen c = λ d r es. run_seen r es d

pub returns-clause-front : goal.returns-clause-front
returns-clause-front c = λ d r s. s.units.seen r

pub returns-clause-listed_numbers : goal.returns-clause-listed_numbers
returns-clause-listed_numbers c = λ d es. run_numbers es d

pub returns-clause-seen_numbers : goal.returns-clause-seen_numbers
returns-clause-seen_numbers c = λ d r es. run_seen_numbers r es d

pub returns-clause-front_numbers : goal.returns-clause-front_numbers
returns-clause-front_numbers c = λ d r s. s.units.numbered r
