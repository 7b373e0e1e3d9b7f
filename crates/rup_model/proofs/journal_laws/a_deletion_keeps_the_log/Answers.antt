use Rattle.rup_model.proofs.JournalSteps.{log_dels}
use Rattle.rup_model.proofs.journal_laws.a_deletion_keeps_the_log.Goals as goal

pub returns : goal.returns
returns c = λ F J r n d h going is two. log_dels F J h r n d is two going
