use Rattle.std.proofs.Common.{◌+◌, None, arith}
use Rattle.ring_trail.proofs.Causes.{IsClosed-grown}
use Rattle.ring_trail.proofs.laws.a_decision_keeps_closed_below.Goals as goal

pub returns : goal.returns
returns c = λ cs t l k le closed. IsClosed-grown cs t.steps (record { lit = l; level = t.level + 1; reason = None }) k (omega arith) closed
