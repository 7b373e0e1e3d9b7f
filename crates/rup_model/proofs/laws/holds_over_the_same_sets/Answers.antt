use Rattle.rup_model.proofs.Lists.{Contains_In, In_Contains}
use Rattle.rup_model.proofs.Covers.{rup_covered}
use Rattle.rup_model.proofs.laws.holds_over_the_same_sets.Goals as goal

pub returns : goal.returns
returns c = λ G H d cover. rup_covered G H d (λ e h. let t = cover e (In_Contains G e h) in (t.0, Contains_In H t.0 t.1, t.2))
