use Rattle.std.proofs.Common.{◌≡◌, ◌≤◌, length}
use Rattle.ring_port.specs.PortState.{lits_at}
use Rattle.watch_prop.specs.WatchData.{list_at}
use Rattle.watch_prop.specs.Advancing.{HasAdvanced}
use Rattle.watch_prop.specs.Aside.{but, PassesOver}
use Rattle.watch_prop.specs.Visiting.{IsVisiting}
use Rattle.watch_prop.proofs.watches.Watches.walk.Given as goal

abbrev pub invariant-loop-place : goal.invariant-loop-place
invariant-loop-place g l = record {
  same : g.P.Port.state l.port ≡ g.P.Port.state l.fn.port;
  kept : HasAdvanced (g.P.Port.state l.fn.port) (but l.fn.aside l.fn.self) (but l.fn.aside l.self) l.fn.trail l.trail;
  passed : PassesOver l.fn.aside (lits_at (g.P.Port.state l.fn.port)) l.fn.self l.self;
  settled : l.self.settled ≡ l.fn.self.settled;
  len : length l.self.slots ≡ length l.fn.self.slots;
  done : l.trail.done ≡ l.fn.trail.done;
  visiting : IsVisiting (but l.fn.aside l.self) (lits_at (g.P.Port.state l.fn.port)) l.trail l.lit l.place;
  inside : l.place ≤ length (list_at l.self.lists l.lit);
}

abbrev pub decreases-loop-place : goal.decreases-loop-place
decreases-loop-place g l = l.place
