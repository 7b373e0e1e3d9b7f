use Rattle.ring_trail.proofs.Causes.{IsReasoned-forced}
use Rattle.ring_trail.proofs.laws.a_forced_literal_keeps_reasons.Goals as goal

pub returns : goal.returns
returns c = λ held seen t l a d r is f. IsReasoned-forced held seen t l a d r is f
