use Rattle.share_core.proofs.Others.{run_shared}
use Rattle.share_core.proofs.ring_laws.shares_are_counted.Goals as goal

pub returns : goal.returns
returns c = λ d r es. run_shared r es d
