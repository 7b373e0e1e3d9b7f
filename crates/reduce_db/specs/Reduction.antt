-- What a reduction comes to.
use Rattle.std.specs.Prelude.{◌≡◌, ◌⊎◌, List, [], ◌++◌, All, Contains, Result, Ok, Err}
use Rattle.sat_words.specs.declared.shared.Cref.{Cref}
use Rattle.ring_port.specs.declared.stops.PortStop.{PortStop}
use Rattle.ring_port.specs.declared.stops.PortStop.TheVariants.{Memory}
use Rattle.ring_port.specs.PortState.{PortState}
use Rattle.ring_trail.specs.declared.step.TrailStep.{TrailStep}
use Rattle.watch_prop.specs.WatchData.{WatchData, attached, without_all}
use Rattle.reduce_db.specs.Choice.{IsChoice}
use Rattle.reduce_db.specs.Dropping.{DroppedAll}

-- some of the lemmas were chosen; they were dropped, and are attached no longer; the others are left
pub record WasReduced (old new : PortState) (v w : WatchData) (steps : List TrailStep) (lemmas left : List Cref) : Type 0 where
  pub dropped : List Cref
  pub choice : IsChoice old steps lemmas left dropped
  pub port : DroppedAll old new dropped
  pub attached_now : attached w ≡ without_all (attached v) dropped

-- these are the first ones of those that a choice drops
pub record IsFrontOfChoice (s : PortState) (steps : List TrailStep) (lemmas dropped : List Cref) : Type 0 where
  pub left : List Cref
  pub more : List Cref
  pub choice : IsChoice s steps lemmas left (dropped ++ more)

-- memory ran out if none of the lemmas was dropped yet, or the first ones of those that were chosen
pub record WasCutShort (old new : PortState) (steps : List TrailStep) (lemmas : List Cref) (stop : PortStop) : Type 0 where
  pub memory : stop ≡ Memory
  pub dropped : List Cref
  pub among : All (Contains lemmas) dropped
  pub front : (dropped ≡ []) ⊎ IsFrontOfChoice old steps lemmas dropped
  pub port : DroppedAll old new dropped

-- what `reduce` did
abbrev pub Reduced : PortState → PortState → WatchData → WatchData → List TrailStep → List Cref → List Cref → Result (Unit {0}) PortStop → Type 0
Reduced old new v w steps lemmas left (Ok done) = WasReduced old new v w steps lemmas left
Reduced old new v w steps lemmas left (Err stop) = WasCutShort old new steps lemmas stop
