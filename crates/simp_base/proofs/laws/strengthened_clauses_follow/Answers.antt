use Rattle.rup_model.proofs.Lists.{Contains_In, In_has}
use Rattle.simp_base.proofs.Weaken.{strengthened_follows}
use Rattle.simp_base.proofs.laws.strengthened_clauses_follow.Goals as goal

pub returns : goal.returns
returns x = λ G c d r l inC inD hasl others rest. strengthened_follows G c d r l (Contains_In G c inC) (Contains_In G d inD) hasl (λ k i. others k (In_has c k i)) (λ k i. rest k (In_has d k i))
