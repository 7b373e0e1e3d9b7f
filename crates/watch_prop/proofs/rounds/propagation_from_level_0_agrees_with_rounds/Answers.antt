use Rattle.watch_prop.proofs.Agreeing.{fixed_same, fixed_quiet, fixed_conflict}
use Rattle.watch_prop.proofs.rounds.propagation_from_level_0_agrees_with_rounds.Goals as goal

pub returns-clause-same : goal.returns-clause-same
returns-clause-same c = λ w s t l shape r q. fixed_same w s t l shape r q

pub returns-clause-quiet : goal.returns-clause-quiet
returns-clause-quiet c = λ w s t shape q. fixed_quiet w s t shape q

pub returns-clause-conflict : goal.returns-clause-conflict
returns-clause-conflict c = fixed_conflict
