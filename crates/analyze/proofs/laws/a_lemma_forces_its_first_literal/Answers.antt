use Rattle.analyze.proofs.Freshness.{back_lower, first_open, first_forced}
use Rattle.analyze.proofs.laws.a_lemma_forces_its_first_literal.Goals as goal

pub returns-clause-lower : goal.returns-clause-lower
returns-clause-lower c = λ s t conflict lits back glue shape pos i. back_lower s t conflict lits back glue shape pos i

pub returns-clause-open_first : goal.returns-clause-open_first
returns-clause-open_first c = λ s t conflict lits back glue shape pos i. first_open s t conflict lits back glue shape pos i

pub returns-clause-forces : goal.returns-clause-forces
returns-clause-forces c = λ s t conflict lits back glue shape pos i. first_forced s t conflict lits back glue shape pos i
