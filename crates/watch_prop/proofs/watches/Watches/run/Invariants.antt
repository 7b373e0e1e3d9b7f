use Rattle.std.proofs.Common.{◌≡◌, ◌-◌, length}
use Rattle.ring_port.specs.PortState.{lits_at}
use Rattle.watch_prop.specs.Aside.{but, PassesOver}
use Rattle.watch_prop.specs.Advancing.{HasAdvanced}
use Rattle.watch_prop.proofs.watches.Watches.run.Given as goal

abbrev pub invariant-loop-lit : goal.invariant-loop-lit
invariant-loop-lit g l = record {
  same : g.P.Port.state l.port ≡ g.P.Port.state l.fn.port;
  kept : HasAdvanced (g.P.Port.state l.fn.port) (but l.fn.aside l.fn.self) (but l.fn.aside l.self) l.fn.trail l.trail;
  passed : PassesOver l.fn.aside (lits_at (g.P.Port.state l.fn.port)) l.fn.self l.self;
  settled : l.self.settled ≡ l.fn.self.settled;
  len : length l.self.slots ≡ length l.fn.self.slots;
}

abbrev pub decreases-loop-lit : goal.decreases-loop-lit
decreases-loop-lit g l = l.trail.vars - l.trail.done
