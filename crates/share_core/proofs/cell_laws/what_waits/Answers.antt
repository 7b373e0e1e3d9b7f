use Rattle.rup_model.proofs.Lists.{Contains_In, In_Contains}
use Rattle.share_core.proofs.ClauseLists.{in_at}
use Rattle.share_core.proofs.Holding.{copy_is, waiting_copy, waiting_open, waiting_alive}
use Rattle.share_core.proofs.cell_laws.what_waits.Goals as goal

pub returns-clause-address : goal.returns-clause-address
returns-clause-address c = λ d r a h. (let t = in_at a (d.part r).waiting h in (t.0, In_Contains (d.part r).waiting t.0 t.1, t.2))

pub returns-clause-clause : goal.returns-clause-clause
returns-clause-clause c = λ d r h s lt i. copy_is d h (waiting_copy d r h s lt (Contains_In (d.part r).waiting h i))

pub returns-clause-cell : goal.returns-clause-cell
returns-clause-cell c = λ d r h s lt i. waiting_open d r h s lt (Contains_In (d.part r).waiting h i)

pub returns-clause-alive : goal.returns-clause-alive
returns-clause-alive c = λ d r h s lt i. waiting_alive d r h s lt (Contains_In (d.part r).waiting h i)
