use Rattle.std.proofs.Common.{◌≡◌}
use Rattle.analyze.proofs.Spreading.{IsSpread}
use Rattle.analyze.proofs.tracer.note_all.Given as goal

abbrev pub invariant-loop-i : goal.invariant-loop-i
invariant-loop-i g l = record {
  same : g.P.Port.state l.port ≡ g.P.Port.state l.fn.port;
  spread : IsSpread (g.P.Port.state l.fn.port) l.trail.steps l.trail.vars l.fn.table l.table l.i;
}
