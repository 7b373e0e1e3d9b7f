use Rattle.rup_model.proofs.JournalSteps.{log_rounds}
use Rattle.rup_model.proofs.journal_laws.a_round_keeps_the_log.Goals as goal

pub returns : goal.returns
returns c = λ F J x h going. log_rounds F J h x going
