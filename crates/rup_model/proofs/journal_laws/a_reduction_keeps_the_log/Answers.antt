use Rattle.rup_model.proofs.JournalSteps.{log_reduces}
use Rattle.rup_model.proofs.journal_laws.a_reduction_keeps_the_log.Goals as goal

pub returns : goal.returns
returns c = λ F J r h going. log_reduces F J h r going
