use Rattle.std.proofs.Common.{◌≡◌, length, take}
use Rattle.portfolio_run.proofs.decision.cut.Given as goal

abbrev pub invariant-loop-taken : goal.invariant-loop-taken
invariant-loop-taken l = (length l.values ≡ l.fn.vars) × (take l.taken l.values ≡ take l.taken l.model)
