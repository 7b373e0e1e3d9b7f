use Rattle.watch_prop.proofs.Agreeing.{quiet_with, reasoned_in_rounds, reasoned_conflict, reasoned_same, reasoned_unfinished}
use Rattle.watch_prop.proofs.rounds.reasoned_trails_agree_with_rounds.Goals as goal

pub returns-clause-in_rounds : goal.returns-clause-in_rounds
returns-clause-in_rounds c = reasoned_in_rounds

pub returns-clause-conflict : goal.returns-clause-conflict
returns-clause-conflict c = reasoned_conflict

pub returns-clause-same : goal.returns-clause-same
returns-clause-same c = reasoned_same

pub returns-clause-quiet : goal.returns-clause-quiet
returns-clause-quiet c = λ seen cs t shape closed given. quiet_with cs seen t shape given closed

pub returns-clause-unfinished : goal.returns-clause-unfinished
returns-clause-unfinished c = reasoned_unfinished
