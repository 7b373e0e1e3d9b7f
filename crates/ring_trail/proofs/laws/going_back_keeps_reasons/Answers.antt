use Rattle.ring_trail.proofs.Causes.{IsReasoned-back}
use Rattle.ring_trail.proofs.laws.going_back_keeps_reasons.Goals as goal

pub returns : goal.returns
returns c = λ held seen t k shape r. IsReasoned-back held seen t k shape r
