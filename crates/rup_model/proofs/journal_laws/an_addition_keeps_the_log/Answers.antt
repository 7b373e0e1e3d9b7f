use Rattle.rup_model.proofs.JournalSteps.{log_adds_valid, log_adds}
use Rattle.rup_model.proofs.journal_laws.an_addition_keeps_the_log.Goals as goal

pub returns-clause-valid : goal.returns-clause-valid
returns-clause-valid c = λ F J x h going number valid. log_adds_valid F J h x number valid going

pub returns-clause-rup : goal.returns-clause-rup
returns-clause-rup c = λ F J x h going number follows. log_adds F J h x number follows going
