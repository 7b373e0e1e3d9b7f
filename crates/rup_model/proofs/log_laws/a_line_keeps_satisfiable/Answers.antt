use Rattle.rup_model.proofs.LogLaw.{valid_keeps}
use Rattle.rup_model.proofs.log_laws.a_line_keeps_satisfiable.Goals as goal

pub returns : goal.returns
returns c = λ G x v on a t. valid_keeps G x v on (a, t)
