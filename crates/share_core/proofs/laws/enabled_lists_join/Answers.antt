use Rattle.share_core.proofs.Leaving.{enabled_front, enabled_rest, enabled_both}
use Rattle.share_core.proofs.laws.enabled_lists_join.Goals as goal

pub returns-clause-front : goal.returns-clause-front
returns-clause-front c = enabled_front

pub returns-clause-rest : goal.returns-clause-rest
returns-clause-rest c = enabled_rest

pub returns-clause-join : goal.returns-clause-join
returns-clause-join c = enabled_both
