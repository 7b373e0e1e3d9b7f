use Rattle.rup_model.proofs.Hinting.{hint_last}
use Rattle.rup_model.proofs.hint_laws.a_false_clause_hints.Goals as goal

pub returns : goal.returns
returns c = hint_last
