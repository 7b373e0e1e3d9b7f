use Rattle.share_core.proofs.Opened.{run_grows, run_opening}
use Rattle.share_core.proofs.laws.journals_grow.Goals as goal

pub returns-clause-journal : goal.returns-clause-journal
returns-clause-journal c = λ d es. run_grows es d

pub returns-clause-opening : goal.returns-clause-opening
returns-clause-opening c = λ d es. run_opening es d
