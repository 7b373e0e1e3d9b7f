use Rattle.watch_prop.proofs.Decisions.{decisions_none, decisions_true, decisions_decided, decisions_grown}
use Rattle.watch_prop.proofs.rounds.decisions_are_those_made.Goals as goal

pub returns-clause-none : goal.returns-clause-none
returns-clause-none c = decisions_none

pub returns-clause-all_true : goal.returns-clause-all_true
returns-clause-all_true c = decisions_true

pub returns-clause-decided : goal.returns-clause-decided
returns-clause-decided c = decisions_decided

pub returns-clause-grown : goal.returns-clause-grown
returns-clause-grown c = decisions_grown
