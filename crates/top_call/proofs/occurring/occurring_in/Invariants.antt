use Rattle.std.proofs.Common.{take}
use Rattle.top_call.specs.Occurring.{IsOccurring}
use Rattle.top_call.proofs.occurring.occurring_in.Given as goal

abbrev pub invariant-loop-clause : goal.invariant-loop-clause
invariant-loop-clause l = IsOccurring (take l.clause-index l.clauses) l.vars l.occurring
