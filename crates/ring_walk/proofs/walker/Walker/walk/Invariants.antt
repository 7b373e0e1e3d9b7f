use Rattle.ring_walk.specs.Walk.{MakesSteps}
use Rattle.ring_walk.proofs.walker.Walker.walk.Given as goal

abbrev pub invariant-loop-step : goal.invariant-loop-step
invariant-loop-step l = MakesSteps l.fn.self l.fn.generator l._step l.least l.self l.generator
