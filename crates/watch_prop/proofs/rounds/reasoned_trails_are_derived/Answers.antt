use Rattle.watch_prop.proofs.TrailRounds.{derived_more}
use Rattle.watch_prop.proofs.Agreeing.{attached_in}
use Rattle.watch_prop.proofs.Decisions.{reasoned_derived, derived_seen, derived_fixed, derived_known}
use Rattle.watch_prop.proofs.rounds.reasoned_trails_are_derived.Goals as goal

pub returns-clause-given : goal.returns-clause-given
returns-clause-given c = reasoned_derived

pub returns-clause-seen : goal.returns-clause-seen
returns-clause-seen c = derived_seen

pub returns-clause-fixed : goal.returns-clause-fixed
returns-clause-fixed c = derived_fixed

pub returns-clause-known : goal.returns-clause-known
returns-clause-known c = derived_known

pub returns-clause-attached : goal.returns-clause-attached
returns-clause-attached c = attached_in

pub returns-clause-more : goal.returns-clause-more
returns-clause-more c = derived_more
