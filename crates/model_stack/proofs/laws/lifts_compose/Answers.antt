use Rattle.model_stack.proofs.Walk.{lifts_along}
use Rattle.model_stack.proofs.laws.lifts_compose.Goals as goal

pub returns-clause-both : goal.returns-clause-both
returns-clause-both c = lifts_along

pub returns-clause-none : goal.returns-clause-none
returns-clause-none c = λ F a h. h
