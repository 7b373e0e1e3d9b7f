use Rattle.watch_prop.proofs.Reasons.{attached_some}
use Rattle.watch_prop.proofs.laws.attached_clauses_may_be_reasons.Goals as goal

pub returns : goal.returns
returns c = attached_some
