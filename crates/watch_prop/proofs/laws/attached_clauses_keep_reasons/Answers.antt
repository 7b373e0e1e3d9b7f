use Rattle.watch_prop.proofs.TrailLaws.{Reasons-more}
use Rattle.watch_prop.proofs.laws.attached_clauses_keep_reasons.Goals as goal

pub returns : goal.returns
returns c = Reasons-more
