use Rattle.model_stack.proofs.Walk.{extend-append}
use Rattle.model_stack.proofs.laws.stacks_follow.Goals as goal

pub returns : goal.returns
returns c = extend-append
