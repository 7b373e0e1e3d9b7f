-- What holds between watches, the clauses held and the trail: the invariant of two watched literals.
use Rattle.std.specs.Prelude.{◌≡◌, ◌≢◌, ℕ, ◌<◌, ◌≤◌, Bool, true, List, Some, Contains, All, length}
use Rattle.std.specs.List.{slice_index_or}
use Rattle.sat_words.specs.Literal.{Literal, opposite}
use Rattle.sat_words.specs.Clause.{has}
use Rattle.rup_model.specs.Opening.{IsLong}
use Rattle.ring_port.specs.PortState.{IsOn}
use Rattle.ring_trail.specs.declared.step.TrailStep.{TrailStep}
use Rattle.ring_trail.specs.TrailData.{TrailData, lit_at, level_at}
use Rattle.ring_trail.specs.Closed.{HasTrue}
use Rattle.watch_prop.specs.declared.watch.Watch.{Watch}
use Rattle.watch_prop.specs.declared.watch.Watcher.{Watcher}
use Rattle.watch_prop.specs.WatchData.{WatchData, Lits, watchers_at, list_at}

-- this element stands at the place
abbrev pub At : {X : Type 0} → List X → ℕ → X → Type 0
At xs i x = (i < length xs) × (slice_index_or xs i x ≡ x)

-- a clause that may be attached: two literals or more without repeats or opposites, on the variables
pub record IsAttachable (vars : ℕ) (c : List Literal) : Type 0 where
  pub shape : IsLong c
  pub on : All (IsOn vars) c

-- two literals of the clause, which has no others if it is noted as binary
pub record IsPairOf (c : List Literal) (k l : Literal) (binary : Bool) : Type 0 where
  pub first : has c k ≡ true
  pub second : has c l ≡ true
  pub apart : k ≢ l
  pub only : binary ≡ true → length c ≡ 2

-- two literals of the clause watch it
abbrev pub IsPair : List Literal → Watch → Type 0
IsPair c s = IsPairOf c s.first s.second s.binary

-- if one of the first n steps made the literal false, a literal of the clause is true at a level of at most that step's
abbrev pub IsGuarded : List TrailStep → ℕ → List Literal → Literal → Type 0
IsGuarded steps n c l = (p : ℕ) → p < n → lit_at steps p ≡ opposite l → HasTrue steps (level_at steps p) c

-- the watch at place i is listed at both its literals, and both are guarded
pub record IsSettled (lists : List (List Watcher)) (steps : List TrailStep) (n : ℕ) (c : List Literal) (i : ℕ) (s : Watch) : Type 0 where
  pub first_listed : Contains (list_at lists s.first) i
  pub second_listed : Contains (list_at lists s.second) i
  pub first_guarded : IsGuarded steps n c s.first
  pub second_guarded : IsGuarded steps n c s.second

-- the steps that were not propagated are of the present level
abbrev pub IsFresh : TrailData → Type 0
IsFresh t = (p : ℕ) → t.done ≤ p → p < length t.steps → level_at t.steps p ≡ t.level

-- there is such a slot, and the blocker is on the variables, and a literal of the clause whose watch is in the slot, if any
pub record IsBlocking (w : WatchData) (lits : Lits) (x : Watcher) : Type 0 where
  pub slot : x.slot < length w.slots
  pub on : x.blocker.var ≤ w.vars
  pub inside : (s : Watch) → At w.slots x.slot (Some s) → has (lits s.clause.address) x.blocker ≡ true

-- each attached clause is watched by two of its literals, and each watch that is settled is guarded from the steps propagated
pub record Watched (w : WatchData) (lits : Lits) (t : TrailData) : Type 0 where
  pub vars : t.vars ≡ w.vars
  pub few : w.settled ≤ length w.slots
  pub clauses : (i : ℕ) (s : Watch) → At w.slots i (Some s) → IsAttachable w.vars (lits s.clause.address)
  pub pairs : (i : ℕ) (s : Watch) → At w.slots i (Some s) → IsPair (lits s.clause.address) s
  pub settled : (i : ℕ) (s : Watch) → i < w.settled → At w.slots i (Some s) → IsSettled w.lists t.steps t.done (lits s.clause.address) i s
  pub blocking : (l : Literal) (x : Watcher) → Contains (watchers_at w.lists l) x → IsBlocking w lits x
  pub fresh : IsFresh t
