use Rattle.ring_trail.proofs.Causes.{IsReasoned-seen}
use Rattle.ring_trail.proofs.laws.a_seen_unit_keeps_reasons.Goals as goal

pub returns : goal.returns
returns c = λ held seen t l o r z is. IsReasoned-seen held seen t l o r z is
