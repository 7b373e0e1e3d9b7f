use Rattle.top_call.proofs.Models.{TakenBelow}
use Rattle.top_call.proofs.occurring.without_idle.Given as goal

abbrev pub invariant-loop-var : goal.invariant-loop-var
invariant-loop-var l = TakenBelow l.var l.fn.occurring l.from l.model
