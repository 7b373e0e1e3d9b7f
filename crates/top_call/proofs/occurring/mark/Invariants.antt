use Rattle.std.proofs.Common.{take}
use Rattle.top_call.specs.Occurring.{Marks}
use Rattle.top_call.proofs.occurring.mark.Given as goal

abbrev pub invariant-loop-lit : goal.invariant-loop-lit
invariant-loop-lit l = Marks (take l.lit-index l.clause) l.fn.occurring l.occurring
