use Rattle.rup_model.proofs.Lists.{Contains_In, In_Contains}
use Rattle.share_core.proofs.ClauseLists.{in_at}
use Rattle.share_core.proofs.Holding.{copy_is, making_copy, making_built, making_alive}
use Rattle.share_core.proofs.cell_laws.what_a_ring_builds.Goals as goal

pub returns-clause-address : goal.returns-clause-address
returns-clause-address c = λ d r a h. (let t = in_at a (d.part r).making h in (t.0, In_Contains (d.part r).making t.0 t.1, t.2))

pub returns-clause-clause : goal.returns-clause-clause
returns-clause-clause c = λ d r h s lt i. copy_is d h (making_copy d r h s lt (Contains_In (d.part r).making h i))

pub returns-clause-cell : goal.returns-clause-cell
returns-clause-cell c = λ d r h s lt i. making_built d r h s lt (Contains_In (d.part r).making h i)

pub returns-clause-alive : goal.returns-clause-alive
returns-clause-alive c = λ d r h s lt i. making_alive d r h s lt (Contains_In (d.part r).making h i)
