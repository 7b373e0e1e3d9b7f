use Rattle.std.proofs.Common.{◌≡◌, length}
use Rattle.ring_port.specs.PortState.{lits_at, clause_at}
use Rattle.analyze.specs.Minimising.{IsScanned}
use Rattle.analyze.proofs.minimise.scan_reason.Given as goal

abbrev pub invariant-loop-i : goal.invariant-loop-i
invariant-loop-i g l = record {
  same : g.P.Port.state l.port ≡ g.P.Port.state l.fn.port;
  size : l.size ≡ length (lits_at (g.P.Port.state l.fn.port) l.reason.address);
  scanned : IsScanned (clause_at (g.P.Port.state l.fn.port)) l.trail.steps l.marks l.table l.frame.place l.i;
}
