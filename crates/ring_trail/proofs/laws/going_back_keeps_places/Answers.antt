use Rattle.ring_trail.proofs.Causes.{back-kept, back-only}
use Rattle.ring_trail.proofs.laws.going_back_keeps_places.Goals as goal

pub returns-clause-kept : goal.returns-clause-kept
returns-clause-kept c = λ t k p shape lt le. back-kept t k p shape lt le

pub returns-clause-only : goal.returns-clause-only
returns-clause-only c = λ t k p shape lt. back-only t k p shape lt
