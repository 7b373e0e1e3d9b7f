-- How the rings ended, and whose end counts.
use Rattle.std.specs.Prelude.{◌≡◌, ◌≢◌, ⊤, ℕ, ◌<◌, List, length, slice_index_or, Option, Some, None}
use Rattle.std.specs.Option.{option_map}
use mathlib.Core.Option.{some}
use lib.ListN.{get_elem?}
use Rattle.share_core.specs.declared.event.Stop.{Stop}
use Rattle.share_rule.specs.declared.view.RingPart.{RingPart}
use Rattle.share_rule.specs.declared.view.View.{View}
use Rattle.ring_run.specs.declared.job.Counts.{Counts}
use Rattle.ring_run.specs.declared.job.End.{End}
use Rattle.ring_run.specs.declared.job.End.TheVariants.{Stopped}
use Rattle.ring_run.specs.Ended.{stop_kind}

-- the stop that a ring with this end has set
abbrev pub set_of : ℕ → End → Option Stop
set_of r end = option_map (λ (kind : ℕ). record { kind = kind; ring = r }) (stop_kind end)

-- the ring saw the stop of another
abbrev pub IsStopped : End → Type 0
IsStopped (Stopped x) = ⊤
IsStopped _ = ⊥

-- at its place the pass has the ring's part, which has set the stop of this end; if the pass knows no stop, the ring was
-- not stopped
pub record IsEndAt (v : View) (ring : ℕ) (end : End) : Type 0 where
  pub part : RingPart
  pub there : get_elem? v.parts ring ≡ some part
  pub ring_is : part.core.ring ≡ ring
  pub set : part.set ≡ set_of ring end
  pub unstopped : v.stop ≡ None → IsStopped end → ⊥

-- so each of the rings ended
abbrev pub AreEndsOf : View → List (End × Counts) → Type 0
AreEndsOf v ends = (i : ℕ) (d : End × Counts) → i < length ends → IsEndAt v i (slice_index_or ends i d).0

-- the stop that stands is this ring's, of the kind of its end; each other ring is spent, or was stopped
pub record IsWonBy (v : View) (ends : List (End × Counts)) (ring : ℕ) : Type 0 where
  pub kind : ℕ
  pub stop : v.stop ≡ Some (record { kind = kind; ring = ring })
  pub below : ring < length ends
  pub decided : (d : End × Counts) → stop_kind (slice_index_or ends ring d).0 ≡ Some kind
  pub others : (i : ℕ) (d : End × Counts) → i < length ends → i ≢ ring → stop_kind (slice_index_or ends i d).0 ≡ None
