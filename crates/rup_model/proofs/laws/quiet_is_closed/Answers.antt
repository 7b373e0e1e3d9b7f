use Rattle.rup_model.proofs.Lists.{In_has, has_In, Contains_In}
use Rattle.rup_model.proofs.Quietly.{quiet_closed}
use Rattle.rup_model.proofs.laws.quiet_is_closed.Goals as goal

pub returns : goal.returns
returns c = λ G S d l q inG hasl others. quiet_closed G S q d (Contains_In G d inG) l (has_In d l hasl) (λ k i. others k (In_has d k i))
