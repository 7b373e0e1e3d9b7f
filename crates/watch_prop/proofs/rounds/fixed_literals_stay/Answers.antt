use Rattle.watch_prop.proofs.Decisions.{fixed_all, fixed_true, fixed_decided, fixed_grown, fixed_back}
use Rattle.watch_prop.proofs.rounds.fixed_literals_stay.Goals as goal

pub returns-clause-whole : goal.returns-clause-whole
returns-clause-whole c = fixed_all

pub returns-clause-all_true : goal.returns-clause-all_true
returns-clause-all_true c = fixed_true

pub returns-clause-decided : goal.returns-clause-decided
returns-clause-decided c = fixed_decided

pub returns-clause-grown : goal.returns-clause-grown
returns-clause-grown c = fixed_grown

pub returns-clause-back : goal.returns-clause-back
returns-clause-back c = fixed_back
