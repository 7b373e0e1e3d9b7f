use Rattle.std.proofs.Common.{◌≡◌, ◌++◌, take}
use Rattle.ring_port.specs.PortState.{lits_at}
use Rattle.watch_prop.specs.WatchData.{attached}
use Rattle.watch_prop.specs.Watched.{Watched}
use Rattle.test_ring.proofs.stepping.Stepping.attach.Given as goal

abbrev pub invariant-loop-clause : goal.invariant-loop-clause
invariant-loop-clause g l = record {
  same : g.P.Port.state l.port ≡ g.P.Port.state l.fn.port;
  trail : l.self.trail ≡ l.fn.self.trail;
  vars : l.self.watches.vars ≡ l.fn.self.watches.vars;
  clauses : attached l.self.watches ≡ attached l.fn.self.watches ++ take l.clause-index l.clauses;
  watched : Watched l.self.watches (lits_at (g.P.Port.state l.fn.port)) l.fn.self.trail;
}
