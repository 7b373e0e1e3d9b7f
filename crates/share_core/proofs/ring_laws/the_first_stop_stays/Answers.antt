use Rattle.share_core.proofs.Others.{run_stop, stop_set}
use Rattle.share_core.proofs.ring_laws.the_first_stop_stays.Goals as goal

pub returns-clause-stays : goal.returns-clause-stays
returns-clause-stays c = λ d s es is. run_stop s es d is

pub returns-clause-set : goal.returns-clause-set
returns-clause-set c = stop_set
