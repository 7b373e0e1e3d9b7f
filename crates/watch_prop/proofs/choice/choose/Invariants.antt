use Rattle.std.proofs.Common.{◌≡◌, length}
use Rattle.ring_port.specs.PortState.{lits_at}
use Rattle.watch_prop.specs.Choice.{IsBest}
use Rattle.watch_prop.proofs.choice.choose.Given as goal

abbrev pub invariant-loop-i : goal.invariant-loop-i
invariant-loop-i g l = record {
  same : g.P.Port.state l.port ≡ g.P.Port.state l.fn.port;
  size : l.size ≡ length (lits_at (g.P.Port.state l.fn.port) l.clause.address);
  best : IsBest l.trail (lits_at (g.P.Port.state l.fn.port) l.clause.address) l.i l.best;
}
