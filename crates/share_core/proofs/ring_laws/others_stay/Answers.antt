use Rattle.share_core.proofs.Others.{others_in, run_else, run_grant}
use Rattle.share_core.proofs.ring_laws.others_stay.Goals as goal

pub returns-clause-part : goal.returns-clause-part
returns-clause-part c = λ d r es h. run_else r es d (others_in r es h)

pub returns-clause-grant : goal.returns-clause-grant
returns-clause-grant c = λ d r es h. run_grant r es d (others_in r es h)
