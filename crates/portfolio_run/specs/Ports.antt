-- Ports of rings, as they begin, with their jobs.
use Rattle.std.specs.Prelude.{◌≡◌, ℕ, ◌<◌, true, List, [], length, slice_index_or, None}
use Rattle.share_rule.specs.declared.view.View.{View}
use Rattle.share_rule.specs.FirstWords.{addresses}
use Rattle.ring_port.specs.Port.{is_usable}
use Rattle.ring_port.specs.PortState.{PortState}
use Rattle.ring_pass.specs.RingState.{begun_as}
use Rattle.ring_run.specs.declared.job.Job.{Job}
use Rattle.portfolio_run.specs.declared.jobs.RingJob.{RingJob}
use Rattle.portfolio_run.specs.declared.plan.Plan.{Plan}

-- the ring's port over a table that was opened so and has this name: it has its grant, has done nothing, and has not looked for a stop
abbrev pub begun_at : View → List ℕ → ℕ → PortState
begun_at v home ring = begun_as (record v { stop = None; looks = 0 }) ring home

-- what the ring is known
abbrev pub job_at : View → Plan → ℕ → Job
job_at v plan ring = record { ring = ring; rings = v.opening.rings; vars = v.layout.vars; start = addresses v.opening.starts; seed = plan.seed; walk = plan.walk }

-- the ring's port and its job are those
pub record IsMade (v : View) (home : List ℕ) (plan : Plan) (ring : ℕ) (made : RingJob PortState) : Type 0 where
  pub port : made.port ≡ begun_at v home ring
  pub job : made.job ≡ job_at v plan ring

-- each of them is the ring of its place
abbrev pub AreMade : View → List ℕ → Plan → List (RingJob PortState) → Type 0
AreMade v home plan made = (i : ℕ) (d : RingJob PortState) → i < length made → IsMade v home plan i (slice_index_or made i d)

-- the port is the ring's, over what has this name, has written nothing and was refused for no fault
pub record IsAt (home : List ℕ) (ring : ℕ) (s : PortState) : Type 0 where
  pub home_is : s.home ≡ home
  pub ring_is : s.ring ≡ ring
  pub idle : s.mine ≡ []
  pub usable : is_usable s.refused ≡ true
