use Rattle.ring_port.proofs.Holdings.{seen_is_known}
use Rattle.ring_port.proofs.laws.seen_units_are_known.Goals as goal

pub returns : goal.returns
returns c = seen_is_known
