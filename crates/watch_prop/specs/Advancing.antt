-- What each part of propagation keeps, also if memory runs out on the way.
use Rattle.std.specs.Prelude.{◌≡◌}
use Rattle.ring_port.specs.PortState.{PortState, lits_at}
use Rattle.ring_trail.specs.TrailData.{TrailData, HasGrown}
use Rattle.watch_prop.specs.WatchData.{WatchData, attached}
use Rattle.watch_prop.specs.Watched.{Watched}
use Rattle.watch_prop.specs.Layout.{HaveGrown}
use Rattle.watch_prop.specs.Propagation.{HasReasons, IsQuiet}

-- over this port the same clauses are attached, the trail has grown, if at all, by literals with reasons, the watches hold, and lists have at least twice the room or as much; where nothing was left to propagate, the trail is the same
pub record HasAdvanced (s : PortState) (old new : WatchData) (t u : TrailData) : Type 0 where
  pub clauses : attached new ≡ attached old
  pub vars : new.vars ≡ old.vars
  pub grown : HasGrown t u
  pub reasons : HasReasons (attached old) s u.steps
  pub watched : Watched new (lits_at s) u
  pub rooms : HaveGrown old.rooms new.rooms
  pub still : IsQuiet old (lits_at s) t → u ≡ t
