use Rattle.std.proofs.Common.{◌≡◌, ◌≤◌, length}
use Rattle.ring_port.specs.PortState.{IsPort}
use Rattle.ring_run.specs.Searching.{OffersNothing, KeepsOn}
use Rattle.ring_run.specs.Course.{HasLemmas}
use Rattle.ring_run.specs.Renewal.{AreUnmixed, point, IsResting}
use Rattle.ring_run.proofs.Turns.{AreTurned}
use Rattle.ring_run.proofs.vivification.vivify_lemmas.Given as goal

abbrev pub invariant-loop-search_step : goal.invariant-loop-search_step
invariant-loop-search_step g l = record {
  keeps : KeepsOn (g.P.Port.state l.fn.port) (g.P.Port.state l.port);
  resting : IsResting (g.P.Port.state l.port) l.ring;
  listed : HasLemmas (g.P.Port.state l.port) l.ring;
  unmixed : AreUnmixed l.ring;
  turned : AreTurned (point (g.P.Port.state l.fn.port) l.fn.ring) (point (g.P.Port.state l.port) l.ring) l.fn.ring.lemmas.items l.ring.lemmas.items l._search_step l.place;
  steps : length l.fn.ring.trail.steps ≤ length l.ring.trail.steps;
  vars : l.ring.trail.vars ≡ l.fn.ring.trail.vars;
  analysis : l.analysis.vars ≡ l.fn.analysis.vars;
  same : l.ring ≡ record l.fn.ring { trail = l.ring.trail; watches = l.ring.watches; written = l.ring.written; lemmas = l.ring.lemmas };
  looks : (g.P.Port.state l.port).looks ≡ (g.P.Port.state l.fn.port).looks;
  nothing : OffersNothing (g.P.Port.state l.fn.port) (g.P.Port.state l.port);
  port : IsPort (g.P.Port.state l.port);
}
