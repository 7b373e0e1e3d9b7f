-- Runs of rings, each as the contract of a run says.
use Rattle.std.specs.Prelude.{◌≡◌, ◌<◌, ◌+◌, ◌↔◌, [], All, Option, Some, None}
use Rattle.ring_port.specs.PortState.{PortState, IsPort, HoldsStart}
use Rattle.ring_run.specs.declared.job.Counts.{Counts}
use Rattle.ring_run.specs.declared.job.End.{End}
use Rattle.ring_run.specs.declared.job.End.TheVariants.{Spent}
use Rattle.ring_run.specs.declared.job.Job.{Job}
use Rattle.ring_run.specs.Ended.{IsJobOf, IsUntouched, Stays, IsOwn, IsCounted, HasRestarted, HasDrawnFor, TicketsAt, HasPolled, ImportsBy, IsTidy, ReducesBy, AreNew, AreNewLines, AreSpaced, AreTimely, HoldsGlued, HoldsRecent, HasLooked, last_looks, Ends}
use Rattle.ring_run.specs.Turn.{HasRun as RingHasRun}

-- the job is this port's, which has done nothing yet
pub record IsReady (s : PortState) (job : Job) : Type 0 where
  pub job_is : IsJobOf s job
  pub untouched : IsUntouched s
  pub port : IsPort s

-- what a run leaves of the port, with its end and its counts
pub record RanTo (old : PortState) (job : Job) (new : PortState) (end : End) (counts : Counts) : Type 0 where
  pub stays : Stays old new
  pub held : HoldsStart new
  pub wrote : All (IsOwn old.ring old.vars) new.mine
  pub each_new : AreNew new
  pub new_lines : AreNewLines new
  pub spaced : AreSpaced new
  pub timely : AreTimely new
  pub glued : HoldsGlued old new
  pub lately : HoldsRecent new
  pub looked : HasLooked (old.looks + counts.learned + last_looks end) new
  pub counted : IsCounted new counts
  pub restarted : HasRestarted old.ring counts
  pub polled : HasPolled new counts.restarts end
  pub imported : ImportsBy old new counts.restarts end
  pub tidied : old.waiting ≡ [] → IsTidy new end
  pub in_time : ReducesBy new counts end
  pub drawn : HasDrawnFor new counts.learned
  pub tickets : TicketsAt new end
  pub spent : (end ≡ Spent) ↔ (new.limit < new.found)
  pub ends : Ends new end
  pub ran : RingHasRun old new job end counts
  pub port : IsPort new

-- the ring has run
abbrev pub HasRun : PortState → Job → PortState → Option (End × Counts) → Type 0
HasRun old job new None = ⊥
HasRun old job new (Some e) = RanTo old job new e.0 e.1
