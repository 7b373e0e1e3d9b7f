use Rattle.std.proofs.Common.{◌≡◌, ◌≤◌, ◌-◌, ◌*◌, length}
use Rattle.ring_port.specs.PortState.{IsPort}
use Rattle.ring_run.specs.Searching.{OffersNothing, KeepsOn}
use Rattle.ring_run.specs.Course.{HasLemmas}
use Rattle.ring_run.specs.Renewal.{point, IsResting}
use Rattle.ring_run.proofs.Codes.{codes_from, GoesRound}
use Rattle.ring_run.proofs.probing.probe_literals.Given as goal

abbrev pub invariant-loop-turn : goal.invariant-loop-turn
invariant-loop-turn g l = record {
  keeps : KeepsOn (g.P.Port.state l.fn.port) (g.P.Port.state l.port);
  resting : IsResting (g.P.Port.state l.port) l.ring;
  listed : HasLemmas (g.P.Port.state l.port) l.ring;
  vars : l.ring.trail.vars ≡ l.fn.ring.trail.vars;
  analysis : l.analysis.vars ≡ l.fn.analysis.vars;
  round : GoesRound (point (g.P.Port.state l.fn.port) l.fn.ring) (point (g.P.Port.state l.port) l.ring) l.fn.ring.next_probe l.left (codes_from l.fn.ring.trail.vars l.ring.next_probe (2 * l.fn.ring.trail.vars - l._turn)) l.ring.next_probe;
  steps : length l.fn.ring.trail.steps ≤ length l.ring.trail.steps;
  same : l.ring ≡ record l.fn.ring { trail = l.ring.trail; watches = l.ring.watches; written = l.ring.written; next_probe = l.ring.next_probe };
  looks : (g.P.Port.state l.port).looks ≡ (g.P.Port.state l.fn.port).looks;
  nothing : OffersNothing (g.P.Port.state l.fn.port) (g.P.Port.state l.port);
  port : IsPort (g.P.Port.state l.port);
}
