-- What a ring does in a turn: it propagates, and then learns, renews or decides; and turn by turn in a search.
use Rattle.std.specs.Prelude.{◌≡◌, ◌⊎◌, ◌<◌, ◌%◌, ◌==◌, Bool, true, false, List, [], ◌∷◌, length, Option, Some, ⊤}
use Rattle.sat_words.specs.Literal.{Literal}
use Rattle.sat_words.specs.Truth.{lit_true}
use Rattle.sat_words.specs.declared.shared.Cref.{Cref}
use Rattle.sat_words.specs.declared.shared.Stop.{Stop}
use Rattle.ring_port.specs.PortState.{PortState, lits_at}
use Rattle.ring_trail.specs.TrailData.{IsTrail, HasGrown, IsTrueOn}
use Rattle.watch_prop.specs.WatchData.{attached}
use Rattle.watch_prop.specs.Propagation.{IsQuiet, IsConflict, HasReasons}
use Rattle.ring_decide.specs.Phases.{first_phases}
use Rattle.ring_decide.specs.DeciderData.{DeciderData, AllValued}
use Rattle.restart_plan.specs.Plan.{begun}
use Rattle.ring_run.specs.Strategy.{Decides}
use Rattle.ring_run.specs.Searching.{HasTold, SeenTrue, SeesFixed}
use Rattle.ring_run.specs.Ended.{stop_kind}
use Rattle.ring_run.specs.Ending.{EndsRefused, SetsStop}
use Rattle.ring_run.specs.Halting.{HaltsImporting, HaltsRenewing}
use Rattle.ring_run.specs.Course.{CountsAlike, DecidedNext, LearnsFrom, last_of}
use Rattle.ring_run.specs.Renewal.{Renews, TookImport}
use Rattle.ring_run.specs.Walked.{Walks, IsWalkedModel}
use Rattle.ring_run.specs.declared.job.Job.{Job}
use Rattle.ring_run.specs.declared.job.Counts.{Counts}
use Rattle.ring_run.specs.declared.job.End.{End}
use Rattle.ring_run.specs.declared.job.End.TheVariants.{Sat, Spent, Stopped, Memory}
use Rattle.ring_run.specs.declared.ring.Ring.{Ring}
use Rattle.ring_run.specs.declared.course.Next.{Next}
use Rattle.ring_run.specs.declared.course.Next.TheVariants.{Go, Finish}

-- if all is propagated the ring renewed if an import was yet to be, and else decided
abbrev pub ActedAtQuiet : PortState → PortState → Ring → Ring → Type 0
ActedAtQuiet s u old new = ((old.import_due ≡ true) × Renews s u old new) ⊎ ((old.import_due ≡ false) × DecidedNext s u old new)

-- a clause is false on the trail, and so much came of the conflict
pub record MetConflict (s u : PortState) (old new : Ring) (course : Next) : Type 0 where
  pub conflict : Cref
  pub false_there : IsConflict old.watches (lits_at s) old.trail conflict
  pub lits : List Literal
  pub learned : LearnsFrom s u old new conflict lits course

-- a step after propagation: from a conflict the ring learned; if there is none it renewed or decided
abbrev pub Acted : PortState → PortState → Ring → Ring → Type 0
Acted s u old new = MetConflict s u old new Go ⊎ (IsQuiet old.watches (lits_at s) old.trail × ActedAtQuiet s u old new)

-- propagation changes the trail and the watches alone: the same clauses are attached, and the trail grows by literals that one of them
-- forces, or at level 0 by units that are seen
pub record HasPropagated (s : PortState) (old new : Ring) : Type 0 where
  pub same : new ≡ record old { trail = new.trail; watches = new.watches }
  pub grown : HasGrown old.trail new.trail
  pub shape : IsTrail new.trail
  pub clauses : attached new.watches ≡ attached old.watches
  pub reasons : HasReasons (attached old.watches) s new.trail.steps

-- a turn after which the search goes on
pub record TookTurn (s u : PortState) (old new : Ring) : Type 0 where
  pub middle : Ring
  pub propagated : HasPropagated s old middle
  pub acted : Acted s u middle new

-- a turn at whose conflict all tickets had been drawn
pub record SpentTurn (s u : PortState) (old new : Ring) : Type 0 where
  pub middle : Ring
  pub propagated : HasPropagated s old middle
  pub learned : MetConflict s u middle new (Finish Spent)

-- each variable that is decided has a value, and the assignment makes the literals of the trail true; a variable without a value is
-- false
pub record IsModelFound (ring : Ring) (a : List Bool) : Type 0 where
  pub valued : AllValued ring.decider ring.trail.steps
  pub long : length a ≡ ring.trail.vars
  pub true_there : (l : Literal) → IsTrueOn ring.trail.steps l → lit_true a l ≡ true
  pub rest : (l : Literal) → l.neg ≡ false → lit_true a l ≡ true → IsTrueOn ring.trail.steps l

-- a model: there is nothing to decide, or a walk found it and nothing is decided
abbrev pub HasModel : PortState → Ring → List Bool → Type 0
HasModel s ring a = IsModelFound ring a ⊎ IsWalkedModel s ring a

-- what a decision comes to: it was made, or there was a model, for which there may be no memory
abbrev pub EndsDeciding : PortState → Ring → Ring → Next → Type 0
EndsDeciding s old new Go = ⊤
EndsDeciding s old new (Finish (Sat a)) = HasModel s old a × (new ≡ old)
EndsDeciding s old new (Finish Memory) = ⊤
EndsDeciding s old new (Finish end) = ⊥

-- no import is yet to be, a look and the lines of units came, of which none is missing, and then there was a model
pub record FoundModel (s u : PortState) (old new : Ring) (a : List Bool) : Type 0 where
  pub settled : old.import_due ≡ false
  pub told : HasTold s u
  pub seen : SeesFixed u old.trail
  pub found : HasModel u old a
  pub same : new ≡ record old { written = new.written }

-- how a run came to its end where nothing was left to propagate: after a look and lines of units, all of literals at level 0, the next line
-- was refused, or there was no memory for the model; or none of these lines is missing, an import was yet to be, and it was cut short or
-- what comes before it
abbrev pub HaltsQuietly : PortState → PortState → Ring → Ring → End → Type 0
HaltsQuietly s u old new end =
    CountsAlike old new × (m : PortState) × HasTold s m × SeenTrue m old.trail.steps × (EndsRefused m u end ⊎ (SeesFixed m old.trail × (old.import_due ≡ true) × (ring : Ring) × (ring ≡ record old { written = ring.written }) × HaltsRenewing m u ring end))

-- what a step comes to that doesn't learn: a model may be found, or the look found a stop and nothing was done
abbrev pub EndsQuietly : PortState → PortState → Ring → Ring → Next → Type 0
EndsQuietly s u old new Go = ⊤
EndsQuietly s u old new (Finish Spent) = ⊥
EndsQuietly s u old new (Finish (Sat a)) = FoundModel s u old new a
EndsQuietly s u old new (Finish (Stopped x)) = (u ≡ record s { stop = Some x }) × (new ≡ old)
EndsQuietly s u old new (Finish end) = HaltsQuietly s u old new end

-- a turn that found a model: nothing was left to propagate
pub record ModelTurn (s u : PortState) (old new : Ring) (a : List Bool) : Type 0 where
  pub middle : Ring
  pub propagated : HasPropagated s old middle
  pub quiet : IsQuiet middle.watches (lits_at s) middle.trail
  pub found : FoundModel s u middle new a

-- a turn that saw the stop of another: nothing was left to propagate, and nothing was done
pub record StoppedTurn (s u : PortState) (old new : Ring) (x : Stop) : Type 0 where
  pub propagated : HasPropagated s old new
  pub quiet : IsQuiet new.watches (lits_at s) new.trail
  pub seen : u ≡ record s { stop = Some x }

-- what came after propagation, or that there was no memory for it
abbrev pub HaltsThen : PortState → PortState → Ring → Ring → End → Type 0
HaltsThen s u old new end =
    ((u ≡ s) × (end ≡ Memory) × CountsAlike old new) ⊎ (MetConflict s u old new (Finish end) ⊎ (IsQuiet old.watches (lits_at s) old.trail × HaltsQuietly s u old new end))

-- a turn that was cut short by a refusal, or that refuted the clauses: nothing was done after the call that did
pub record HaltedTurn (s u : PortState) (old new : Ring) (end : End) : Type 0 where
  pub middle : Ring
  pub propagated : HasPropagated s old middle
  pub halts : HaltsThen s u middle new end

-- what a turn comes to
abbrev pub TakesTurn : PortState → PortState → Ring → Ring → Next → Type 0
TakesTurn s u old new Go = TookTurn s u old new
TakesTurn s u old new (Finish Spent) = SpentTurn s u old new
TakesTurn s u old new (Finish (Sat a)) = ModelTurn s u old new a
TakesTurn s u old new (Finish (Stopped x)) = StoppedTurn s u old new x
TakesTurn s u old new (Finish end) = HaltedTurn s u old new end

-- Searches

-- turns that lead from one state and ring to others, one after the other; those reached on the way stand in the list, the last first
abbrev pub TookTurns : PortState → Ring → List (PortState × Ring) → PortState → Ring → Type 0
TookTurns s old [] u new = (u ≡ s) × (new ≡ old)
TookTurns s old (last ∷ earlier) u new = TookTurns s old earlier last.0 last.1 × TookTurn last.0 u last.1 new

-- an import, a walk if the job says so, and then turns
pub record CameTo (job : Job) (s u : PortState) (old new : Ring) : Type 0 where
  pub imported_port : PortState
  pub imported : Ring
  pub first : TookImport s imported_port old imported
  pub walked : DeciderData
  pub model : Option (List Bool)
  pub walk : Walks imported_port job imported.trail.steps imported.decider walked model
  pub states : List (PortState × Ring)
  pub turns : TookTurns imported_port (record imported { decider = walked }) states u new

-- an import, and then no memory for the walk
pub record HaltsWalking (job : Job) (s u : PortState) (old new : Ring) (end : End) : Type 0 where
  pub imported : Ring
  pub first : TookImport s u old imported
  pub some : 0 < job.walk
  pub counts : CountsAlike old new
  pub is : end ≡ Memory

-- a search imports and walks, and then takes turns until one comes to its end; or the import or the walk does
abbrev pub Searched : Job → PortState → PortState → Ring → Ring → End → Type 0
Searched job s u old new end =
    (HaltsImporting s u end × CountsAlike old new) ⊎ (HaltsWalking job s u old new end ⊎ ((m : PortState) × (middle : Ring) × CameTo job s m old middle × TakesTurn m u middle new (Finish end)))

-- Runs

-- the ring that a job begins with: nothing has a value, the start clauses are attached, the first phases come of the seed and the
-- ring's number, nothing was learned, listed, told or offered, the import at the start is yet to be, and probing begins with the least code
pub record IsFirstRing (s : PortState) (job : Job) (ring : Ring) : Type 0 where
  pub trail : ring.trail ≡ record { vars = job.vars; level = 0; steps = []; done = 0 }
  pub clauses : attached ring.watches ≡ job.start
  pub decider : Decides s ring.decider
  pub phases : ring.decider.phase ≡ first_phases job.seed job.ring job.vars
  pub restarts : ring.restarts ≡ begun (job.ring % 2 == 1)
  pub learned : ring.learned ≡ 0
  pub lemmas : ring.lemmas.items ≡ []
  pub imports : ring.imports.items ≡ []
  pub last_start : ring.last_start ≡ last_of job.start
  pub reductions : ring.reductions ≡ 0
  pub reduced_at : ring.reduced_at ≡ 0
  pub written : ring.written ≡ 0
  pub exported : ring.exported ≡ 0
  pub offered : ring.offered ≡ 0
  pub place : ring.place ≡ record { ring = job.ring; rings = job.rings }
  pub import_due : ring.import_due ≡ true
  pub next_probe : ring.next_probe ≡ 2

-- a run of a job is a search that begins with such a ring, and counts what that has counted at last; if there was no memory for a
-- ring nothing was done
abbrev pub RanJob : PortState → PortState → Job → End → Counts → Type 0
RanJob s u job end counts =
    ((u ≡ s) × (end ≡ Memory)) ⊎ ((first : Ring) × (last : Ring) × IsFirstRing s job first × Searched job s u first last end × (counts.learned ≡ last.learned) × (counts.exported ≡ last.exported) × (counts.offered ≡ last.offered) × (counts.restarts ≡ last.restarts.made))

-- the job was run to an end, and then the stop of that end was set
pub record HasRun (s u : PortState) (job : Job) (end : End) (counts : Counts) : Type 0 where
  pub before : PortState
  pub found : End
  pub ran : RanJob s before job found counts
  pub set : SetsStop before u (stop_kind found) found end
