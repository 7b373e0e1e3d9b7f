use Rattle.ring_trail.proofs.Causes.{IsClosed-back}
use Rattle.ring_trail.proofs.laws.going_back_keeps_closed.Goals as goal

pub returns : goal.returns
returns c = λ cs t j k shape le closed. IsClosed-back cs t j k shape le closed
