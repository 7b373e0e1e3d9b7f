use Rattle.std.proofs.Common.{◌≡◌, ◌++◌, take}
use Rattle.ring_port.specs.PortState.{lits_at}
use Rattle.ring_trail.specs.TrailData.{TrailData}
use Rattle.watch_prop.specs.WatchData.{attached}
use Rattle.watch_prop.specs.Watched.{Watched}
use Rattle.ring_run.proofs.run.attach_all.Given as goal

abbrev pub invariant-loop-clause : goal.invariant-loop-clause
invariant-loop-clause g l = record {
  same : g.P.Port.state l.port ≡ g.P.Port.state l.fn.port;
  vars : l.watches.vars ≡ l.fn.watches.vars;
  clauses : attached l.watches ≡ attached l.fn.watches ++ take l.clause-index l.clauses;
  watched : (t : TrailData) → Watched l.fn.watches (lits_at (g.P.Port.state l.fn.port)) t → Watched l.watches (lits_at (g.P.Port.state l.fn.port)) t;
}
