use Rattle.std.proofs.Common.{◌-◌, arith}
use Rattle.analyze.specs.Levels.{clause_level}
use Rattle.analyze.proofs.Freshness.{contains_none}
use Rattle.analyze.proofs.laws.contains_no_closed.Goals as goal

pub returns : goal.returns
returns c = λ s t conflict lits back glue cs d shape pos i closed there sub.
    contains_none s t conflict lits back glue shape pos i d (closed (clause_level t.steps conflict - 1) (omega arith) d there) sub
