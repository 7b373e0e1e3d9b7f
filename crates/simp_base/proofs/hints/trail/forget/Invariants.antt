use Rattle.simp_base.proofs.TrailTables.{AreLeft}
use Rattle.simp_base.proofs.hints.trail.forget.Given as goal

abbrev pub invariant-loop-step : goal.invariant-loop-step
invariant-loop-step l = AreLeft l.steps l.step-index l.places
