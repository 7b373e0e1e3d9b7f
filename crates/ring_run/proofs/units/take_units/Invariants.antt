use Rattle.std.proofs.Common.{◌≡◌, ℕ, ◌<◌, ◌≤◌, List, None, length}
use Rattle.sat_words.specs.declared.shared.Cref.{Cref}
use Rattle.ring_port.specs.PortState.{IsPort}
use Rattle.ring_trail.specs.TrailData.{HasGrown, IsTrail, reason_at}
use Rattle.watch_prop.specs.WatchData.{WatchData, Lits}
use Rattle.watch_prop.specs.Watched.{Watched}
use Rattle.watch_prop.specs.Propagation.{HasReasons}
use Rattle.ring_run.specs.Searching.{AddedSeen, OnlySaw, Stands, KeepsOn}
use Rattle.ring_run.proofs.units.take_units.Given as goal

abbrev pub invariant-loop-lit : goal.invariant-loop-lit
invariant-loop-lit g l = record {
  saw : OnlySaw (g.P.Port.state l.fn.port) (g.P.Port.state l.port);
  caught_up : (g.P.Port.state l.port).caught_up ≡ (g.P.Port.state l.fn.port).caught_up;
  keeps : KeepsOn (g.P.Port.state l.fn.port) (g.P.Port.state l.port);
  added : AddedSeen (g.P.Port.state l.port);
  grown : HasGrown l.fn.trail l.trail;
  stands : Stands (g.P.Port.state l.port) l.trail;
  reasons : (cs : List Cref) → HasReasons cs (g.P.Port.state l.fn.port) l.fn.trail.steps → HasReasons cs (g.P.Port.state l.port) l.trail.steps;
  bare : (p : ℕ) → length l.fn.trail.steps ≤ p → p < length l.trail.steps → reason_at l.trail.steps p ≡ None;
  watched : (w : WatchData) (lits : Lits) → Watched w lits l.fn.trail → Watched w lits l.trail;
  trail : IsTrail l.trail;
  port : IsPort (g.P.Port.state l.port);
}

abbrev pub decreases-loop-lit : goal.decreases-loop-lit
decreases-loop-lit g l = (g.P.Port.state l.port).coming
