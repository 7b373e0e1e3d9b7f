-- What a probe of a literal comes to.
use Rattle.std.specs.Prelude.{◌≡◌, ◌⊎◌, Bool, true, false, List, [], ◌∷◌, map, None}
use Rattle.sat_words.specs.Literal.{Literal, opposite}
use Rattle.sat_words.specs.declared.shared.Cref.{Cref}
use Rattle.rup_model.specs.Rup.{conflicts}
use Rattle.rup_model.specs.declared.journal.Kind.TheVariants.{UnitLine}
use Rattle.ring_port.specs.PortState.{PortState, IsPort, lits_at}
use Rattle.ring_port.specs.Log.{KeepsLog}
use Rattle.ring_port.specs.Port.{WroteUnit, EndedLog, Refused}
use Rattle.ring_port.specs.declared.stops.PortStop.{PortStop}
use Rattle.ring_port.specs.declared.stops.PortStop.TheVariants.{Memory}
use Rattle.ring_trail.specs.declared.step.TrailStep.{TrailStep}
use Rattle.ring_trail.specs.TrailData.{TrailData, HasGrown, assigned}
use Rattle.analyze.specs.HintOrder.{AreInTrailOrder, AreTraced}
use Rattle.watch_prop.specs.WatchData.{WatchData}
use Rattle.watch_prop.specs.Propagation.{IsConflict, IsQuiet}
use Rattle.watch_prop.specs.Rounds.{fixed_of, with_units, AllTrueOn}
use Rattle.ring_probe.specs.declared.probing.Probed.{Probed}
use Rattle.ring_probe.specs.declared.probing.Probed.TheVariants.{Holds, Unit, Empty}

-- whether a literal fails: propagation from it alone, over the clauses at some addresses and the literals true at level 0, falsifies a
-- clause
abbrev pub fails : PortState → List Cref → List TrailStep → Literal → Bool
fails s cs steps l = conflicts (with_units (map (λ (c : Cref). lits_at s c.address) cs) (fixed_of steps)) (l ∷ [])

-- the literal doesn't fail, and nothing was done
pub record DidNotFail (old new : PortState) (cs : List Cref) (t u : TrailData) (l : Literal) : Type 0 where
  pub quiet : fails old cs t.steps l ≡ false
  pub state : new ≡ old
  pub trail : u ≡ t

-- the line of the literal's negation was written, with hints in the order of a trail if the log has any
pub record WroteNegation (old new : PortState) (steps : List TrailStep) (l : Literal) : Type 0 where
  pub wrote : WroteUnit old new (opposite l) UnitLine old.last
  pub order : old.hinted ≡ true → AreTraced old steps (opposite l ∷ []) wrote.hints

-- the literal fails: the line of its negation was written, which was made true at level 0, and the trail grew from there
pub record HasFailed (old new : PortState) (cs : List Cref) (t u : TrailData) (l : Literal) : Type 0 where
  pub failed : fails old cs t.steps l ≡ true
  pub line : WroteNegation old new t.steps l
  pub grown : HasGrown (assigned t (opposite l) None) u

-- the literal fails and its negation doesn't: that is true now, and nothing is left to propagate
pub record FailedAlone (old new : PortState) (cs : List Cref) (w : WatchData) (t u : TrailData) (l k : Literal) : Type 0 where
  pub negation : k ≡ opposite l
  pub after : HasFailed old new cs t u l
  pub quiet : IsQuiet w (lits_at new) u
  pub other : fails old cs t.steps (opposite l) ≡ false

-- the literal fails, and once its negation was true a clause was false: the empty clause was written, with hints in the order of the
-- trail, that clause last, if the log has any; so the negation fails too, if each unit seen was true before; between the two lines and
-- after them the log stands as it did
pub record FailedBoth (old new : PortState) (cs : List Cref) (w : WatchData) (t u : TrailData) (l : Literal) : Type 0 where
  pub middle : PortState
  pub after : HasFailed old middle cs t u l
  pub clause : Cref
  pub conflict : IsConflict w (lits_at middle) u clause
  pub other : AllTrueOn t.steps old.seen → fails old cs t.steps (opposite l) ≡ true
  pub ended : EndedLog middle new
  pub order : middle.hinted ≡ true → AreInTrailOrder middle u.steps (lits_at middle clause.address) ended.hints
  pub log : KeepsLog old middle
  pub port : IsPort middle
  pub log_after : KeepsLog middle new

-- what a probe over the clauses at some addresses came to
abbrev pub IsProbed : PortState → PortState → List Cref → WatchData → TrailData → TrailData → Literal → Probed → Type 0
IsProbed old new cs w t u l Holds = DidNotFail old new cs t u l
IsProbed old new cs w t u l (Unit k) = FailedAlone old new cs w t u l k
IsProbed old new cs w t u l Empty = FailedBoth old new cs w t u l

-- a call was refused: nothing was written before it, or the line of the negation was; the literal fails, or there was no memory to see
-- whether it does, and nothing was done; before that call and after it the log stands as it did
pub record WasCutShort (old new : PortState) (cs : List Cref) (t : TrailData) (l : Literal) (stop : PortStop) : Type 0 where
  pub middle : PortState
  pub before : (middle ≡ old) ⊎ WroteNegation old middle t.steps l
  pub refused : Refused middle new stop
  pub log : KeepsLog old middle
  pub port : IsPort middle
  pub log_after : KeepsLog middle new
  pub cause : (fails old cs t.steps l ≡ true) ⊎ ((stop ≡ Memory) × (middle ≡ old))
