use Rattle.rup_model.proofs.Hinting.{hint_first}
use Rattle.rup_model.proofs.hint_laws.a_forced_literal_hints.Goals as goal

pub returns : goal.returns
returns c = hint_first
