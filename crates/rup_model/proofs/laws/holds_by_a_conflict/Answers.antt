use Rattle.rup_model.proofs.Covers.{rup_from_conflict}
use Rattle.rup_model.proofs.laws.holds_by_a_conflict.Goals as goal

pub returns : goal.returns
returns c = rup_from_conflict
