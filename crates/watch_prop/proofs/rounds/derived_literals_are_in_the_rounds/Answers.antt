use Rattle.watch_prop.proofs.TrailRounds.{derived_in_rounds, derived_conflict, derived_refuted}
use Rattle.watch_prop.proofs.rounds.derived_literals_are_in_the_rounds.Goals as goal

pub returns-clause-in_rounds : goal.returns-clause-in_rounds
returns-clause-in_rounds c = derived_in_rounds

pub returns-clause-conflict : goal.returns-clause-conflict
returns-clause-conflict c = derived_conflict

pub returns-clause-refuted : goal.returns-clause-refuted
returns-clause-refuted c = derived_refuted
