use Rattle.std.proofs.Common.{take}
use Rattle.share_core.specs.Machine.{data_of, state_of, Kept}
use Rattle.share_core.specs.Steps.{Runs}
use Rattle.share_core.proofs.progress.Progress.run.Given as goal

abbrev pub invariant-loop-event : goal.invariant-loop-event
invariant-loop-event l = record {
  kept : Kept (data_of l.origin l.self);
  runs : Runs (state_of (data_of l.fn.origin l.fn.self)) (take l.event-index l.events) l.all (state_of (data_of l.origin l.self));
}
