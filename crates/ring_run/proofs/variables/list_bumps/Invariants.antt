use Rattle.std.proofs.Common.{All, length}
use Rattle.analyze.specs.AnalysisData.{IsVariable}
use Rattle.ring_run.specs.declared.variables.Bump.{Bump}
use Rattle.ring_run.proofs.variables.list_bumps.Given as goal

abbrev pub invariant-loop-var : goal.invariant-loop-var
invariant-loop-var l = All (λ (b : Bump). IsVariable (length l.decider.active) b.var) l.bumps.items
