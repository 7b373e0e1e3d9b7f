-- What vivification comes to.
use Rattle.std.specs.Prelude.{◌≡◌, ℕ, ◌-◌, ◌<◌, ◌⊎◌, true, min, List, [], ◌∷◌, ◌++◌, length}
use Rattle.std.specs.Option.{option_map_or}
use Rattle.sat_words.specs.Literal.{Literal}
use Rattle.sat_words.specs.declared.shared.Cref.{Cref}
use Rattle.rup_model.specs.declared.journal.Kind.TheVariants.{Derive, UnitLine}
use Rattle.ring_port.specs.PortState.{PortState, Holding, lits_at, held_at}
use Rattle.ring_port.specs.declared.stops.PortStop.{PortStop}
use Rattle.ring_port.specs.Port.{AddedClause, WroteUnit, Refused}
use Rattle.ring_trail.specs.declared.step.TrailStep.{TrailStep}
use Rattle.analyze.specs.HintOrder.{AreTraced}
use Rattle.watch_prop.specs.WatchData.{WatchData, attached, without}
use Rattle.ring_port.specs.Deleting.{DroppedOnce}
use Rattle.vivify.specs.Walk.{left_of, others}
use Rattle.vivify.specs.declared.shorten.Vivified.{Vivified}
use Rattle.vivify.specs.declared.shorten.Vivified.TheVariants.{Kept, Shorter, Unit, Empty}

-- the glue of the clause at an address
abbrev pub glue_at : PortState → ℕ → ℕ
glue_at s a = option_map_or (λ (h : Holding). h.glue) (held_at s a) 0

-- the literals of the clause that are left
abbrev pub left_at : PortState → List Cref → List TrailStep → ℕ → List Literal
left_at s cs steps a = left_of (others s cs a steps) (lits_at s a)

-- all literals are left: nothing is written, and what is attached stays
pub record WasKept (old new : PortState) (v w : WatchData) (steps : List TrailStep) (c : Cref) : Type 0 where
  pub left : left_at old (attached v) steps c.address ≡ lits_at old c.address
  pub state : new ≡ old
  pub attached_now : attached w ≡ attached v

-- fewer are left: their clause was derived, with hints in the order of a trail if the log has any, and is attached, and then the clause
-- was dropped
pub record WasShortened (old new : PortState) (v w : WatchData) (steps : List TrailStep) (c d : Cref) : Type 0 where
  pub fewer : length (left_at old (attached v) steps c.address) < length (lits_at old c.address)
  pub middle : PortState
  pub derived : AddedClause old middle (left_at old (attached v) steps c.address) (min (glue_at old c.address) (length (left_at old (attached v) steps c.address) - 1)) Derive d
  pub order : old.hinted ≡ true → AreTraced old steps (left_at old (attached v) steps c.address) derived.hints
  pub dropped : DroppedOnce middle new c.address
  pub attached_now : attached w ≡ without (attached v) c.address ++ d ∷ []

-- one is left: its line was written, with hints in the order of a trail if the log has any, and then the clause was dropped
pub record BecameUnit (old new : PortState) (v w : WatchData) (steps : List TrailStep) (c : Cref) (l : Literal) : Type 0 where
  pub left : left_at old (attached v) steps c.address ≡ l ∷ []
  pub middle : PortState
  pub wrote : WroteUnit old middle l UnitLine old.last
  pub order : old.hinted ≡ true → AreTraced old steps (l ∷ []) wrote.hints
  pub dropped : DroppedOnce middle new c.address
  pub attached_now : attached w ≡ without (attached v) c.address

-- what it came to; something is always left
abbrev pub IsVivified : PortState → PortState → WatchData → WatchData → List TrailStep → Cref → Vivified → Type 0
IsVivified old new v w steps c Kept = WasKept old new v w steps c
IsVivified old new v w steps c (Shorter d) = WasShortened old new v w steps c d
IsVivified old new v w steps c (Unit l) = BecameUnit old new v w steps c l
IsVivified old new v w steps c Empty = ⊥

-- the line of what is left was written, of a clause or of a unit, with hints in the order of a trail if the log has any
abbrev pub WroteLeft : PortState → PortState → WatchData → List TrailStep → Cref → Type 0
WroteLeft old new v steps c =
    ((d : Cref) × (added : AddedClause old new (left_at old (attached v) steps c.address) (min (glue_at old c.address) (length (left_at old (attached v) steps c.address) - 1)) Derive d)
    × (old.hinted ≡ true → AreTraced old steps (left_at old (attached v) steps c.address) added.hints))
    ⊎ ((l : Literal) × (left_at old (attached v) steps c.address ≡ l ∷ []) × (wrote : WroteUnit old new l UnitLine old.last) × (old.hinted ≡ true → AreTraced old steps (l ∷ []) wrote.hints))

-- a call of the port was refused: nothing was done before it, or the line of what is left was written
pub record WasCutShort (old new : PortState) (v : WatchData) (steps : List TrailStep) (c : Cref) (stop : PortStop) : Type 0 where
  pub middle : PortState
  pub before : (middle ≡ old) ⊎ WroteLeft old middle v steps c
  pub refused : Refused middle new stop
