use Rattle.ring_port.proofs.Holdings.{held_is_kept}
use Rattle.ring_port.proofs.laws.held_clauses_are_long.Goals as goal

pub returns-clause-long : goal.returns-clause-long
returns-clause-long c = λ s a port h. (held_is_kept s a port h).0

pub returns-clause-on : goal.returns-clause-on
returns-clause-on c = λ s a port h. (held_is_kept s a port h).1
