use Rattle.rup_model.proofs.LogLaw.{refutes_none, none_true}
use Rattle.rup_model.proofs.log_laws.refuted_is_never_true.Goals as goal

pub returns : goal.returns
returns c = λ F L r on. none_true F (refutes_none F L r on)
