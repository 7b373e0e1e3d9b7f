use Rattle.rup_model.proofs.ProgramOpening.{program_opens}
use Rattle.rup_model.proofs.journal_laws.the_program_opens.Goals as goal

pub returns : goal.returns
returns c = program_opens
