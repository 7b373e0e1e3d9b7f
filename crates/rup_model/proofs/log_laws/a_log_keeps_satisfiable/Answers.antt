use Rattle.rup_model.proofs.LogLaw.{accepted_keeps}
use Rattle.rup_model.proofs.log_laws.a_log_keeps_satisfiable.Goals as goal

pub returns : goal.returns
returns c = λ F L h on a t. accepted_keeps F L h on (a, t)
