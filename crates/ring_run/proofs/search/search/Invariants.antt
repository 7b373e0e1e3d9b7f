use Rattle.std.proofs.Common.{◌≡◌, false, ℕ, [], length}
use Rattle.ring_run.specs.Ended.{IsInTime}
use Rattle.ring_run.specs.Searching.{GoesOn}
use Rattle.ring_run.specs.Strategy.{Decides, IsPaced}
use Rattle.ring_run.specs.Course.{HasLemmas, IsOffering, IsPolling, IsImporting, InSearch, IsLooking}
use Rattle.ring_port.specs.PortState.{PortState}
use Rattle.ring_run.specs.Turn.{CameTo}
use Rattle.ring_run.specs.Walked.{IsFound}
use Rattle.ring_run.proofs.Turning.{left_to_do}
use Rattle.ring_run.proofs.search.search.Given as goal

abbrev pub invariant-loop-end : goal.invariant-loop-end
invariant-loop-end g l = record {
  search : InSearch (g.P.Port.state l.port) l.ring;
  goes : GoesOn (g.P.Port.state l.fn.port) (g.P.Port.state l.port) l.ring.learned;
  looks : (base : ℕ) → IsLooking base (g.P.Port.state l.fn.port) l.fn.ring → IsLooking base (g.P.Port.state l.port) l.ring;
  decides : Decides (g.P.Port.state l.port) l.ring.decider;
  offering : IsOffering (g.P.Port.state l.port) l.ring;
  polling : IsPolling (g.P.Port.state l.port) l.ring;
  imports : (start : PortState) → IsImporting start (g.P.Port.state l.fn.port) l.fn.ring → IsImporting start (g.P.Port.state l.port) l.ring;
  tidied : (g.P.Port.state l.fn.port).waiting ≡ [] → (g.P.Port.state l.port).waiting ≡ [];
  in_time : IsInTime (g.P.Port.state l.fn.port) l.fn.ring.restarts.since → l.ring.import_due ≡ false → IsInTime (g.P.Port.state l.port) l.ring.restarts.since;
  listed : HasLemmas (g.P.Port.state l.port) l.ring;
  came : CameTo l.job (g.P.Port.state l.fn.port) (g.P.Port.state l.port) l.fn.ring l.ring;
  paced : IsPaced l.ring.restarts l.ring.learned;
  odd : l.ring.restarts.odd ≡ l.fn.ring.restarts.odd;
  vars : l.analysis.vars ≡ l.ring.trail.vars;
  found : IsFound (g.P.Port.state l.port) l.model;
}

abbrev pub decreases-loop-end : goal.decreases-loop-end
decreases-loop-end g l = left_to_do (g.P.Port.state l.fn.port).limit (g.P.Port.state l.port).found l.ring.trail.vars l.ring.import_due (length l.ring.trail.steps)
