use Rattle.std.proofs.Common.{◌≤◌, Option}
use Rattle.sat_words.specs.declared.shared.Cref.{Cref}
use Rattle.watch_prop.specs.WatchData.{Lits}
use Rattle.watch_prop.specs.Aside.{but}
use Rattle.watch_prop.specs.Visiting.{IsVisiting}
use Rattle.watch_prop.proofs.watches.Watches.pass_satisfied.Given as goal

abbrev pub invariant-loop-left : goal.invariant-loop-left
invariant-loop-left l = record {
  below : l.left ≤ l.place;
  visiting : (o : Option Cref) (h : Lits) → IsVisiting (but o l.self) h l.trail l.lit l.place → IsVisiting (but o l.self) h l.trail l.lit l.left;
}

abbrev pub decreases-loop-left : goal.decreases-loop-left
decreases-loop-left l = l.left
