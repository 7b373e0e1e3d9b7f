-- How a run comes to its end.
use Rattle.std.specs.Prelude.{◌≡◌, ◌⊎◌, ℕ, List, length, Option, None, Some, IfSome, ⊤}
use Rattle.ring_port.specs.PortState.{PortState}
use Rattle.sat_words.specs.declared.shared.Set.{Set}
use Rattle.sat_words.specs.declared.shared.Set.TheVariants.{Won, Lost}
use Rattle.ring_port.specs.Port.{EndedLog, Refused, SetStop}
use Rattle.ring_port.specs.Deleting.{TidiedUpTo, TidiedSome}
use Rattle.ring_port.specs.declared.stops.PortStop.{PortStop}
use Rattle.ring_port.specs.declared.stops.PortStop.TheVariants as answer
use Rattle.ring_run.specs.Ended.{Cause, HasDrawnFor, TicketsAt, stop_kind}
use Rattle.ring_trail.specs.declared.step.TrailStep.{TrailStep}
use Rattle.ring_run.specs.Searching.{Runs, GoesOn, ToldUnits, SeenTrue}
use Rattle.ring_run.specs.declared.job.End.{End}
use Rattle.ring_run.specs.declared.job.End.TheVariants.{Sat, Refuted, Spent, Stopped, NoHole, ProofFault, Memory}

-- the end of a ring whose port has refused a call
abbrev pub end_refused : PortStop → End
end_refused answer.Ended = Refuted
end_refused answer.Broken = ProofFault
end_refused answer.ProofFault = ProofFault
end_refused (answer.NoHole lack) = NoHole lack
end_refused answer.Memory = Memory

-- the ring has found no model, is not spent, and ends for no stop of another
abbrev pub IsRefusal : End → Type 0
IsRefusal (Sat a) = ⊥
IsRefusal Refuted = ⊤
IsRefusal Spent = ⊥
IsRefusal (Stopped x) = ⊥
IsRefusal (NoHole lack) = ⊤
IsRefusal ProofFault = ⊤
IsRefusal Memory = ⊤

-- no stop stands that keeps the end from setting its own
abbrev pub IsUnset : PortState → End → Type 0
IsUnset s end = IfSome (stop_kind end) (λ kind. s.stop ≡ None)

-- a run has come to this end, and has not set its stop yet
pub record ComesTo (start s : PortState) (count : ℕ) (end : End) : Type 0 where
  pub runs : Runs start s count
  pub cause : Cause s end
  pub unset : IsUnset s end
  pub tickets : TicketsAt s end
  pub drawn : HasDrawnFor s count

-- a run that goes on in one state has come to this end in the other
abbrev pub EndsBy : PortState → ℕ → PortState → ℕ → End → Type 0
EndsBy old before new count end = (start : PortState) → GoesOn start old before → ComesTo start new count end

-- the same of a step that learns nothing
abbrev pub EndsAt : PortState → PortState → End → Type 0
EndsAt old new end = (count : ℕ) → EndsBy old count new count end

-- a call was refused, which is the end, and nothing else was done; want of memory leaves the port as it was
abbrev pub EndsRefused : PortState → PortState → End → Type 0
EndsRefused old new end = (stop : PortStop) × Refused old new stop × (end ≡ end_refused stop)

-- the call that writes the empty clause was made, and nothing else; if it was refused that is the end
abbrev pub WroteEmpty : PortState → PortState → End → Type 0
WroteEmpty old new end = (EndedLog old new × (end ≡ Refuted)) ⊎ EndsRefused old new end

-- lines of units were written, all of literals that these steps make true without a decision; then the call that writes the next was
-- refused, and nothing else was done
abbrev pub HaltsTelling : PortState → PortState → List TrailStep → End → Type 0
HaltsTelling old new steps end = (middle : PortState) × ToldUnits old middle × SeenTrue middle steps × EndsRefused middle new end

-- the call that deletes what waited was made, and nothing else: it was refused, or there was no memory left after it
abbrev pub HaltsDeleting : PortState → PortState → End → Type 0
HaltsDeleting old new end = ((stop : PortStop) × TidiedSome old new stop × (end ≡ end_refused stop)) ⊎ (TidiedUpTo old new (length old.waiting) × (end ≡ Memory))

-- every run goes on as it was
abbrev pub KeepsRuns : PortState → PortState → Type 0
KeepsRuns old new = (start : PortState) (count : ℕ) → Runs start old count → Runs start new count

-- the end once its stop was to be set: another ring's that stands is the end
abbrev pub end_set : End → Set → End
end_set end Won = end
end_set end (Lost x) = Stopped x

-- the stop of an end was set, if it sets one, and nothing else was done; if another ring's stands, that is the end
abbrev pub SetsStop : PortState → PortState → Option ℕ → (found end : End) → Type 0
SetsStop old new None found end = (new ≡ old) × (end ≡ found)
SetsStop old new (Some kind) found end = (answered : Set) × SetStop old new kind answered × (end ≡ end_set found answered)
