use Rattle.watch_prop.proofs.Agreeing.{units_same, units_quiet, units_conflict}
use Rattle.watch_prop.proofs.rounds.propagation_from_units_agrees_with_rounds.Goals as goal

pub returns-clause-same : goal.returns-clause-same
returns-clause-same c = λ w s t l shape r given q. units_same w s t l shape r given q

pub returns-clause-quiet : goal.returns-clause-quiet
returns-clause-quiet c = λ w s t shape given q. units_quiet w s t shape given q

pub returns-clause-conflict : goal.returns-clause-conflict
returns-clause-conflict c = units_conflict
