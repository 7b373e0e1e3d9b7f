use Rattle.ring_trail.proofs.Causes.{IsClosed-grown}
use Rattle.ring_trail.proofs.laws.an_assignment_keeps_closed_below.Goals as goal

pub returns : goal.returns
returns c = λ cs t l r k lt closed. IsClosed-grown cs t.steps (record { lit = l; level = t.level; reason = r }) k lt closed
