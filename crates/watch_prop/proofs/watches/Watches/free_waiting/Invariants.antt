use Rattle.std.proofs.Common.{◌≤◌, ◌<◌, ℕ, Some, ◌≢◌}
use Rattle.watch_prop.specs.declared.watch.Watch.{Watch}
use Rattle.watch_prop.specs.Watched.{At}
use Rattle.watch_prop.specs.Detaching.{Freed}
use Rattle.watch_prop.proofs.watches.Watches.free_waiting.Given as goal

abbrev pub invariant-loop-index : goal.invariant-loop-index
invariant-loop-index l = record {
  freed : Freed l.fn.self l.self l.c.address;
  gone : (i : ℕ) (s : Watch) → l.fn.self.settled ≤ i → i < l.index → At l.self.slots i (Some s) → s.clause.address ≢ l.c.address;
}
