use Rattle.ring_trail.proofs.Causes.{IsReasoned-held}
use Rattle.ring_trail.proofs.laws.more_held_keeps_reasons.Goals as goal

pub returns : goal.returns
returns c = λ held more seen told steps r keeps grows. IsReasoned-held held more seen told steps r keeps grows
