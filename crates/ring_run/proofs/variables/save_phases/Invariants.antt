use Rattle.std.proofs.Common.{◌≡◌, ◌+◌, drop}
use Rattle.ring_trail.specs.TrailData.{start_of}
use Rattle.ring_run.specs.Strategy.{saved}
use Rattle.ring_run.proofs.variables.save_phases.Given as goal

abbrev pub invariant-loop-place : goal.invariant-loop-place
invariant-loop-place l = record {
  active : l.decider.active ≡ l.fn.decider.active;
  rest : saved l.decider.phase (drop l.place l.trail.steps) ≡ saved l.fn.decider.phase (drop (start_of l.trail.steps (l.level + 1)) l.trail.steps);
}
