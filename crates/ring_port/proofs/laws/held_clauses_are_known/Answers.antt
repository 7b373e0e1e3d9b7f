use Rattle.ring_port.proofs.Holdings.{held_is_known}
use Rattle.ring_port.proofs.laws.held_clauses_are_known.Goals as goal

pub returns : goal.returns
returns c = held_is_known
