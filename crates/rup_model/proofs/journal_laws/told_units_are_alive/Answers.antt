use Rattle.rup_model.proofs.Told.{told_alive}
use Rattle.rup_model.proofs.journal_laws.told_units_are_alive.Goals as goal

pub returns : goal.returns
returns c = told_alive
