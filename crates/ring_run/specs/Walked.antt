-- The walk after the first import: over the start clauses and the units that are seen, from the first phases.
use Rattle.std.specs.Prelude.{◌≡◌, ◌⊎◌, ℕ, ◌+◌, ◌<◌, ◌==◌, Bool, true, List, map, length, Contains, Option, None, Some, if◌then◌else◌}
use Rattle.rand_pcg.specs.Lcg.{Lcg}
use Rattle.random_bits.specs.Bits.{generator_of}
use Rattle.sat_words.specs.Literal.{Literal}
use Rattle.sat_words.specs.Clause.{clause_of}
use Rattle.sat_words.specs.Truth.{lit_true, clause_true}
use Rattle.ring_port.specs.PortState.{PortState, Holding}
use Rattle.ring_trail.specs.declared.step.TrailStep.{TrailStep}
use Rattle.ring_trail.specs.TrailData.{TrailData, IsTrueOn}
use Rattle.ring_walk.specs.WalkData.{WalkData, IsNew}
use Rattle.ring_walk.specs.Walk.{HasWalked}
use Rattle.ring_decide.specs.DeciderData.{DeciderData}
use Rattle.ring_run.specs.declared.job.Job.{Job}
use Rattle.ring_run.specs.declared.job.End.TheVariants.{Sat, Memory}
use Rattle.ring_run.specs.declared.ring.Ring.{Ring}
use Rattle.ring_run.specs.declared.course.Next.{Next}
use Rattle.ring_run.specs.declared.course.Next.TheVariants.{Finish}

-- the clauses of a walk: the literals of each start clause, as a set
abbrev pub walked_clauses : PortState → List (List Literal)
walked_clauses s = map (λ (h : Holding). clause_of h.lits) s.start

-- the literals that are true on a trail
abbrev pub lits_of : List TrailStep → List Literal
lits_of steps = map (λ (x : TrailStep). x.lit) steps

-- so many steps were walked from the phases, by the ring's own generator; the best assignment is the phases then, and it is kept if no
-- clause is false under it
pub record WalkedFrom (s : PortState) (job : Job) (steps : List TrailStep) (old new : DeciderData) (model : Option (List Bool)) : Type 0 where
  pub start : WalkData
  pub begins : IsNew s.vars (walked_clauses s) (lits_of steps) old.phase start
  pub count : ℕ
  pub over : WalkData
  pub generator : Lcg
  pub walked : HasWalked start (generator_of job.seed (16 + job.ring)) job.walk count over generator
  pub phases : new ≡ record old { phase = over.best }
  pub kept : model ≡ (if count == 0 then Some over.best else None)

-- with no step to walk nothing is made and the phases are as they were
abbrev pub Walks : PortState → Job → List TrailStep → DeciderData → DeciderData → Option (List Bool) → Type 0
Walks s job steps old new model = ((job.walk ≡ 0) × (new ≡ old) × (model ≡ None)) ⊎ ((0 < job.walk) × WalkedFrom s job steps old new model)

-- an assignment of the variables makes each start clause true
pub record IsStartModel (s : PortState) (a : List Bool) : Type 0 where
  pub long : length a ≡ s.vars
  pub clauses : (h : Holding) → Contains s.start h → clause_true a h.lits ≡ true

-- nothing is decided, and each literal that is true on the trail is so under the assignment
pub record Agrees (t : TrailData) (a : List Bool) : Type 0 where
  pub level : t.level ≡ 0
  pub true_there : (l : Literal) → IsTrueOn t.steps l → lit_true a l ≡ true

-- the assignment makes each start clause true, and each literal that is true without a decision
pub record IsWalkedModel (s : PortState) (ring : Ring) (a : List Bool) : Type 0 where
  pub start : IsStartModel s a
  pub agrees : Agrees ring.trail a

-- the end with the assignment that a walk found, or that for want of memory
abbrev pub EndsFound : Option (List Bool) → Next → Type 0
EndsFound model course = (course ≡ Finish Memory) ⊎ ((a : List Bool) × (model ≡ Some a) × (course ≡ Finish (Sat a)))

-- if there is an assignment, it makes each start clause true
abbrev pub IsFound : PortState → Option (List Bool) → Type 0
IsFound s model = (a : List Bool) → model ≡ Some a → IsStartModel s a
