use Rattle.std.proofs.Common.{◌≡◌, ◌∷◌, take}
use Rattle.ring_port.specs.PortState.{clause_at}
use Rattle.analyze.specs.Marks.{IsMarking}
use Rattle.analyze.specs.ReasonSide.{HasMarkedReasons}
use Rattle.analyze.proofs.reason_side.mark_reason_side.Given as goal

abbrev pub invariant-loop-place : goal.invariant-loop-place
invariant-loop-place g l = record {
  same : g.P.Port.state l.port ≡ g.P.Port.state l.fn.port;
  marking : IsMarking l.trail.steps l.trail.vars l.level l.marks;
  marks : HasMarkedReasons (clause_at (g.P.Port.state l.fn.port)) l.trail.steps l.fn.marks.values l.marks.values (l.point ∷ take l.place-index l.kept_places);
}
