use Rattle.test_search.specs.Sampled.{IsSampled}
use Rattle.test_search.proofs.watches.take_all.Given as goal

abbrev pub invariant-loop-step : goal.invariant-loop-step
invariant-loop-step l = IsSampled l.sampled.watches l.sampled.trail
