-- Watches and a trail between the steps of a search, over any port.
use Rattle.std.specs.Prelude.{ℕ, []}
use Rattle.ring_port.specs.PortState.{PortState, lits_at}
use Rattle.ring_trail.specs.TrailData.{TrailData, IsTrail}
use Rattle.watch_prop.specs.WatchData.{WatchData, attached}
use Rattle.watch_prop.specs.Watched.{Watched}
use Rattle.watch_prop.specs.Propagation.{HasReasons, IsClosedBelow}

-- nothing is true
abbrev pub empty_trail : ℕ → TrailData
empty_trail vars = record { vars = vars; level = 0; steps = []; done = 0 }

-- the clauses attached are watched, closed below the present level, and the only reasons
pub record IsStepping (s : PortState) (w : WatchData) (t : TrailData) : Type 0 where
  pub trail : IsTrail t
  pub watched : Watched w (lits_at s) t
  pub closed : IsClosedBelow w (lits_at s) t
  pub reasons : HasReasons (attached w) s t.steps
