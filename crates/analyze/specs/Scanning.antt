-- What the scan of a reason asks for.
use Rattle.std.specs.Prelude.{◌≡◌, ◌<◌, ◌≤◌, Bool, List, length}
use Rattle.ring_port.specs.PortState.{PortState, clause_at}
use Rattle.ring_trail.specs.TrailData.{TrailData, IsTrail, level_at}
use Rattle.ring_trail.specs.Reasoned.{IsReasoned}
use Rattle.analyze.specs.declared.minimise.Removability.{Removability}
use Rattle.analyze.specs.declared.minimise.Frame.{Frame}
use Rattle.analyze.specs.Minimising.{IsScanned}

-- the trail has reasons, the tables have an entry for each place, and the frame's place is above level 0, with the first literals of
-- its reason settled
pub record CanScan (s : PortState) (t : TrailData) (ms : List Bool) (vs : List Removability) (f : Frame) : Type 0 where
  pub shape : IsTrail t
  pub reasoned : IsReasoned (clause_at s) s.seen t.steps
  pub marks : length ms ≡ t.vars
  pub table : length vs ≡ t.vars
  pub in_range : f.place < length t.steps
  pub above : 1 ≤ level_at t.steps f.place
  pub scanned : IsScanned (clause_at s) t.steps ms vs f.place f.next
