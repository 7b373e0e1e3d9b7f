use Rattle.std.proofs.Common.{◌≡◌, ◌<◌, ℕ, Some, false}
use Rattle.watch_prop.specs.declared.watch.Watch.{Watch}
use Rattle.watch_prop.specs.WatchData.{is_among}
use Rattle.watch_prop.specs.Watched.{At}
use Rattle.watch_prop.specs.Detaching.{FreedAll}
use Rattle.watch_prop.proofs.watches.Watches.detach_all.Given as goal

abbrev pub invariant-loop-index : goal.invariant-loop-index
invariant-loop-index l = record {
  freed : FreedAll l.fn.self l.self l.gone;
  none : (i : ℕ) (s : Watch) → i < l.index → At l.self.slots i (Some s) → is_among l.gone s.clause.address ≡ false;
}
