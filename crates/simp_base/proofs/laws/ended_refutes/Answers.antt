use Rattle.std.proofs.Common.{sym, ◌∙◌}
use Rattle.rup_model.proofs.Refuting.{added_empty_refutes}
use Rattle.simp_base.specs.Log.{journal_of}
use Rattle.simp_base.proofs.laws.ended_refutes.Goals as goal

pub returns : goal.returns
returns c = λ o mine w h end. added_empty_refutes o.formula (journal_of o mine) h.sound (sym h.ended ∙ end)
