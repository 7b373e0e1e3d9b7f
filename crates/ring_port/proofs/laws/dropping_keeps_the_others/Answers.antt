use Rattle.ring_port.proofs.PlainLemmas.{dropped_others}
use Rattle.ring_port.proofs.laws.dropping_keeps_the_others.Goals as goal

pub returns : goal.returns
returns c = dropped_others
