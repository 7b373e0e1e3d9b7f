use Rattle.std.proofs.Common.{◌≤◌, length}
use Rattle.watch_prop.specs.WatchData.{list_at}
use Rattle.watch_prop.specs.Detaching.{Freed}
use Rattle.watch_prop.proofs.Detaching.{IsLeft}
use Rattle.watch_prop.proofs.watches.Watches.free_at.Given as goal

abbrev pub invariant-loop-left : goal.invariant-loop-left
invariant-loop-left l = record {
  freed : Freed l.fn.self l.self l.c.address;
  inside : l.left ≤ length (list_at l.fn.self.lists l.lit);
  to_visit : IsLeft l.fn.self l.self l.c.address l.lit l.left;
}

abbrev pub decreases-loop-left : goal.decreases-loop-left
decreases-loop-left l = l.left
