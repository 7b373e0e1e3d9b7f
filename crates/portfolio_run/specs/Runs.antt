-- What is known of a ring's pass once the ring has run.
use Rattle.std.specs.Prelude.{◌≡◌, ℕ, ◌<◌, true, false, List, [], ◌∷◌, length, slice_index_or, Option, Some, None}
use Rattle.atomic_table.specs.declared.shared.Seat.{Seat}
use Rattle.share_core.specs.declared.event.Stop.{Stop}
use Rattle.share_rule.specs.declared.Shared.{Shared}
use Rattle.share_rule.specs.declared.view.RingPart.{RingPart}
use Rattle.share_rule.specs.declared.view.View.{View}
use Rattle.share_rule.specs.Views.{only}
use Rattle.ring_port.specs.Port.{is_usable}
use Rattle.ring_port.specs.PortState.{PortState}
use Rattle.ring_pass.specs.Refusals.{last_refusal}
use Rattle.ring_pass.specs.RingState.{Own, port_of, port_with}
use Rattle.ring_run.specs.declared.job.Counts.{Counts}
use Rattle.ring_run.specs.declared.job.End.{End}
use Rattle.portfolio_run.specs.declared.plan.Plan.{Plan}
use Rattle.portfolio_run.specs.Ends.{set_of}
use Rattle.portfolio_run.specs.Jobs.{RanTo}
use Rattle.portfolio_run.specs.Ports.{begun_at, job_at}
use Rattle.portfolio_run.specs.Seats.{IsAtRest, HasRing, IsSettled}

-- the pass shows what its port did, the ring is settled, and the end is the ring's
pub record Shows {B : Type 0} (t : Shared B) (s : PortState) (end : Option (End × Counts)) (p : Seat (Option B) View) (e : End × Counts) : Type 0 where
  pub pass : IsAtRest t p
  pub one : p.me.0.parts ≡ only p.me.0 ∷ []
  pub free : (only p.me.0).turn ≡ None
  pub own : Own
  pub state : port_of p.me.0 own ≡ s
  pub ended_is : s.ended ≡ true → (only p.me.0).ended ≡ true
  pub refused_is : s.refused ≡ last_refusal (only p.me.0)
  pub faulty_is : is_usable s.refused ≡ false → (only p.me.0).failed ≡ true
  pub alone_is : p.me.0.opening.rings ≡ 1 → (only p.me.0).failed ≡ true → is_usable s.refused ≡ false
  pub settled : IsSettled (only p.me.0)
  pub end_is : end ≡ Some e

-- the ring ran over the table that was opened so, and came to this end; its part is what its port shows, with what the port
-- kept beside it, the stop that its pass has seen and how often that had looked for one; the port was refused last what the part
-- notes
pub record RanAs (v : View) (home : List ℕ) (plan : Plan) (ring : ℕ) (seen : Option Stop) (part : RingPart) (end : End) (counts : Counts) : Type 0 where
  pub own : Own
  pub looks : ℕ
  pub ran : RanTo (begun_at v home ring) (job_at v plan ring) (port_with (record v { stop = seen; looks = looks }) part own) end counts
  pub ended_is : own.ended ≡ true → part.ended ≡ true
  pub refused_is : own.refused ≡ last_refusal part
  pub faulty_is : is_usable own.refused ≡ false → part.failed ≡ true
  pub alone_is : v.opening.rings ≡ 1 → part.failed ≡ true → is_usable own.refused ≡ false
  pub set : part.set ≡ set_of ring end

-- the pass has the ring alone, which ran so
pub record IsRun {B : Type 0} (t : Shared B) (v : View) (home : List ℕ) (plan : Plan) (ring : ℕ) (p : Seat (Option B) View) (e : End × Counts) : Type 0 where
  pub has : HasRing t ring p
  pub ran : RanAs v home plan ring p.me.0.stop (only p.me.0) e.0 e.1

-- each of them is the ring of its place
abbrev pub AreRun : {B : Type 0} → Shared B → View → List ℕ → Plan → List (Seat (Option B) View) → List (End × Counts) → Type 0
AreRun {B} t v home plan ps ends = (i : ℕ) (d : Seat (Option B) View) (e : End × Counts) → i < length ps → IsRun t v home plan i (slice_index_or ps i d) (slice_index_or ends i e)
