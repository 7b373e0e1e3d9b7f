use Rattle.std.proofs.Common.{◌≤◌, length}
use Rattle.ring_decide.proofs.queue.Queue.found.Given as goal

abbrev pub invariant-loop-step : goal.invariant-loop-step
invariant-loop-step l = l.at ≤ length l.active
