use Rattle.ring_trail.proofs.Causes.{IsReasoned-decided}
use Rattle.ring_trail.proofs.laws.a_decision_keeps_reasons.Goals as goal

pub returns : goal.returns
returns c = λ held seen t l shape r. IsReasoned-decided held seen t l shape r
