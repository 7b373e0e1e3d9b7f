-- What a ring knows of the variables that it decides, and counts for its restarts.
use Rattle.std.specs.Prelude.{◌≡◌, ◌⊎◌, ℕ, ◌+◌, ◌-◌, Bool, true, false, not, nat_lt, List, [], ◌∷◌, map, length, filter, slice_set, Contains}
use Rattle.std.specs.List.{slice_index_or}
use Rattle.sat_words.specs.Literal.{Literal}
use Rattle.sat_words.specs.Clause.{has}
use Rattle.ring_port.specs.PortState.{PortState, Holding}
use Rattle.ring_trail.specs.declared.step.TrailStep.{TrailStep}
use Rattle.ring_decide.specs.DeciderData.{DeciderData, IsActive}
use Rattle.restart_plan.specs.Plan.{Restarting, IsExact}

-- what is marked stays so
abbrev pub AreMore : List Bool → List Bool → Type 0
AreMore old new = (i : ℕ) → slice_index_or old i false ≡ true → slice_index_or new i false ≡ true

-- the variable of each literal is marked
abbrev pub AreMarked : List Bool → List Literal → Type 0
AreMarked marks c = (l : Literal) → has c l ≡ true → slice_index_or marks (l.var - 1) false ≡ true

-- a literal of the clause has the variable
pub record IsVariableOf (c : List Literal) (v : ℕ) : Type 0 where
  pub lit : Literal
  pub has_lit : has c lit ≡ true
  pub var : lit.var ≡ v

-- the variable occurs in one of the clauses
pub record OccursIn (cs : List (List Literal)) (v : ℕ) : Type 0 where
  pub clause : List Literal
  pub member : Contains cs clause
  pub occurs : IsVariableOf clause v

-- what is marked was so before, or is a variable of the clause
abbrev pub AreMarkedBy : (old new : List Bool) → List Literal → Type 0
AreMarkedBy old new c = (i : ℕ) → slice_index_or new i false ≡ true → (slice_index_or old i false ≡ true) ⊎ IsVariableOf c (i + 1)

-- each variable that is marked occurs in one of the clauses
abbrev pub OccurMarked : List Bool → List (List Literal) → Type 0
OccurMarked marks cs = (i : ℕ) → slice_index_or marks i false ≡ true → OccursIn cs (i + 1)

-- the decider is made for the port's variables, and active are those that occur in the start clauses
pub record Decides (s : PortState) (d : DeciderData) : Type 0 where
  pub vars : length d.active ≡ s.vars
  pub active : (h : Holding) (l : Literal) → Contains s.start h → has h.lits l ≡ true → IsActive d l.var
  pub only : (v : ℕ) → IsActive d v → OccursIn (map (λ (h : Holding). h.lits) s.start) v

-- the phases after the values of the steps were saved, one after the other
abbrev pub saved : List Bool → List TrailStep → List Bool
saved phases [] = phases
saved phases (s ∷ steps) = saved (slice_set phases (s.lit.var - 1) (not s.lit.neg)) steps

-- the steps above a level, which are lost where the trail goes back to it
abbrev pub steps_above : ℕ → List TrailStep → List TrailStep
steps_above k steps = filter (λ s. nat_lt k s.level) steps

-- the decider after the values above a level were saved
abbrev pub saved_above : DeciderData → List TrailStep → ℕ → DeciderData
saved_above d steps k = record d { phase = saved d.phase (steps_above k steps) }

-- each lemma was noted; by a ring of odd number each was followed by the question whether a restart is due
pub record IsPaced (r : Restarting) (learned : ℕ) : Type 0 where
  pub count : r.count ≡ learned
  pub exact : r.odd ≡ true → IsExact r
