use Rattle.rup_model.proofs.Refuting.{added_empty_refutes}
use Rattle.rup_model.proofs.journal_laws.a_log_with_the_empty_clause_refutes.Goals as goal

pub returns : goal.returns
returns c = added_empty_refutes
