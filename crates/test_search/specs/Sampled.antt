-- Watches and a trail at level 0 over the small port.
use Rattle.std.specs.Prelude.{◌≡◌, ℕ, zero, suc, Bool, false, List, [], ◌∷◌, Some, None}
use Rattle.sat_words.specs.declared.shared.Cref.{Cref}
use Rattle.ring_port.specs.PortState.{lits_at}
use Rattle.ring_trail.specs.declared.step.TrailStep.{TrailStep as Step}
use Rattle.ring_trail.specs.TrailData.{TrailData}
use Rattle.test_ports.specs.Sample.{lit, sample_state}
use Rattle.watch_prop.specs.WatchData.{WatchData, attached, without}
use Rattle.watch_prop.specs.Watched.{Watched}
use Rattle.watch_prop.specs.Propagation.{HasReasons}
use Rattle.test_search.specs.declared.sampled.SampleClause.{SampleClause}
use Rattle.test_search.specs.declared.sampled.SampleClause.TheVariants.{First, Second, Third}

-- the steps to a conflict over the small port, if the variable 5 gets this value from the clause at an address
abbrev pub sample_steps : Bool → ℕ → List Step
sample_steps n a =
    record { lit = lit 1 false; level = 1; reason = None }
    ∷ record { lit = lit 2 false; level = 1; reason = Some (record { address = 1 }) }
    ∷ record { lit = lit 4 false; level = 2; reason = None }
    ∷ record { lit = lit 5 n; level = 2; reason = Some (record { address = a }) }
    ∷ []

-- if the small port holds a clause
abbrev pub place_of : SampleClause → ℕ
place_of First = 1
place_of Second = 2
place_of Third = 3

-- its address
abbrev pub cref_of : SampleClause → Cref
cref_of clause = record { address = place_of clause }

-- the clauses that stay where the third one comes and goes this often: it is not among them, unless it never came
abbrev pub left_by : ℕ → List Cref → List Cref
left_by zero cs = cs
left_by (suc n) cs = without cs 3

-- the clauses attached are watched, and each literal is true at level 0, by one of them or by a unit that was seen
pub record IsSampled (w : WatchData) (t : TrailData) : Type 0 where
  pub clause_vars : w.vars ≡ 5
  pub vars : t.vars ≡ 5
  pub level : t.level ≡ 0
  pub watched : Watched w (lits_at sample_state) t
  pub reasons : HasReasons (attached w) sample_state t.steps
