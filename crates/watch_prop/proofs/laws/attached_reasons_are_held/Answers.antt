use Rattle.watch_prop.proofs.TrailLaws.{Reasons-held}
use Rattle.watch_prop.proofs.laws.attached_reasons_are_held.Goals as goal

pub returns : goal.returns
returns c = Reasons-held
