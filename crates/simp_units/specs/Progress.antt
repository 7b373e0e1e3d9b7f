-- How far propagation has come.
use Rattle.std.specs.Prelude.{◌≡◌, ◌⊎◌, ℕ, ◌+◌, ◌≤◌, Bool, true, false, not, List, [], ◌∷◌, length, drop, Contains, Option, Some, Result, Ok, Err}
use Rattle.std.specs.List.{list_any, slice_set}
use Rattle.sat_words.specs.Literal.{Literal, opposite}
use Rattle.sat_words.specs.Clause.{has}
use Rattle.sat_words.specs.Values.{is_true}
use Rattle.rup_model.specs.Rounds.{Rounds}
use Rattle.rup_model.specs.Rup.{conflicts, rup}
use Rattle.rup_model.specs.Status.{IsSettled}
use Rattle.rup_model.proofs.Reaches.{Reaches}
use Rattle.drat_text.specs.declared.stop.LineStop.{LineStop}
use Rattle.simp_base.specs.WorkState.{WorkState, IsWork, known, is_alive_unit}
use Rattle.simp_base.specs.Log.{KeepsLog}
use Rattle.simp_base.specs.Calls.{IsListed}
use Rattle.simp_base.specs.Causes.{HasCause}
use Rattle.simp_units.specs.Demand.{IsFalsifiedAt, IsForcedAt, IsSettledAt}
use Rattle.simp_units.specs.declared.propagate.Propagation.{Propagation}
use Rattle.simp_units.specs.declared.propagate.Propagation.TheVariants.{Conflict, Quiet}

-- the true literals are the units, and the work can go on
pub record IsSet (w : WorkState) (a : List (Option Bool)) : Type 0 where
  pub same : (l : Literal) → has w.units l ≡ is_true a l
  pub range : length a ≡ w.vars + 1
  pub going : w.ended ≡ false
  pub unspent : w.output.spent ≡ false
  pub work : IsWork w

-- the clause is that of a unit
pub record IsUnitsClause (units : List Literal) (c : List Literal) : Type 0 where
  pub lit : Literal
  pub listed : has units lit ≡ true
  pub alone : c ≡ lit ∷ []

-- from the work at the start: what is true was reached by unit propagation, the clauses of the start are alive, clauses came
-- for units alone, and nothing else has changed
pub record Progress (start now : WorkState) (a : List (Option Bool)) : Type 0 where
  pub reaches : Reaches (known start) [] a
  pub vars : now.vars ≡ start.vars
  pub stack : now.stack ≡ start.stack
  pub quiet : now.output.faults ≡ start.output.faults
  pub stay : (n : ℕ) (c : List Literal) → Contains start.clauses (n, c) → Contains now.clauses (n, c)
  pub came : (n : ℕ) (c : List Literal) → Contains now.clauses (n, c) → Contains start.clauses (n, c) ⊎ IsUnitsClause now.units c
  pub units : (l : Literal) → has start.units l ≡ true → has now.units l ≡ true

-- a unit from this place on makes a literal of the clause false
abbrev pub waits : List Literal → ℕ → List Literal → Bool
waits units i c = list_any (λ u. has c (opposite u)) (drop i units)

-- why a clause needs no look but those to come: it is settled, or a unit from place i on is to be looked at, or the clause
-- itself is
pub data IsKnown (units : List Literal) (a : List (Option Bool)) (i : ℕ) (numbers : List ℕ) (n : ℕ) (c : List Literal) : Type 0 where
  settled : IsSettled a c → IsKnown units a i numbers n c
  waiting : waits units i c ≡ true → IsKnown units a i numbers n c
  coming : Contains numbers n → IsKnown units a i numbers n c

-- so it is with each clause of the start
abbrev pub Ready : WorkState → WorkState → List (Option Bool) → ℕ → List ℕ → Type 0
Ready start now a i numbers = (n : ℕ) (c : List Literal) → Contains start.clauses (n, c) → IsKnown now.units a i numbers n c

-- one more literal, which the clause with this number forces, is a unit
pub record ForcedStep (old : WorkState) (a : List (Option Bool)) (new : WorkState) (b : List (Option Bool)) (number : ℕ) : Type 0 where
  pub lit : Literal
  pub forced : IsForcedAt old a number lit
  pub values : b ≡ slice_set a lit.var (Some (not lit.neg))
  pub listed : IsListed (has old.units lit) (is_alive_unit old lit) old new lit

-- nothing was asked for
pub record IdleStep (old : WorkState) (a : List (Option Bool)) (new : WorkState) (b : List (Option Bool)) (number : ℕ) : Type 0 where
  pub settled : IsSettledAt old a number
  pub work : new ≡ old
  pub values : b ≡ a

-- the clause is falsified
pub record FalseStep (old : WorkState) (a : List (Option Bool)) (new : WorkState) (b : List (Option Bool)) (number : ℕ) : Type 0 where
  pub falsified : IsFalsifiedAt old a number
  pub work : new ≡ old
  pub values : b ≡ a

-- what looking at a clause does
abbrev pub WasLookedAt : WorkState → List (Option Bool) → WorkState → List (Option Bool) → ℕ → Result Propagation LineStop → Type 0
WasLookedAt old a new b number (Ok Conflict) = FalseStep old a new b number
WasLookedAt old a new b number (Ok Quiet) = IdleStep old a new b number ⊎ ForcedStep old a new b number
WasLookedAt old a new b number (Err stop) = HasCause old new stop

-- Clauses one after another

-- those before the rest were looked at, and propagation may go on
pub record Passed (old : WorkState) (a : List (Option Bool)) (new : WorkState) (b : List (Option Bool)) (numbers rest : List ℕ) : Type 0 where
  pub set : IsSet new b
  pub quiet : new.output.faults ≡ old.output.faults
  pub units : length old.units ≤ length new.units
  pub vars : new.vars ≡ old.vars
  pub goes : (start : WorkState) → Progress start old a → Progress start new b
  pub ready : (start : WorkState) (i : ℕ) → i ≤ length old.units → Progress start old a → Ready start old a i numbers → Ready start new b i rest
  pub log : KeepsLog old new

-- one of them is falsified
pub record Stuck (old : WorkState) (a : List (Option Bool)) (new : WorkState) (b : List (Option Bool)) : Type 0 where
  pub set : IsSet new b
  pub quiet : new.output.faults ≡ old.output.faults
  pub empty : rup (known new) [] ≡ true
  pub falsified : (start : WorkState) → Progress start old a → conflicts (known start) [] ≡ true
  pub log : KeepsLog old new

-- what visiting clauses by their numbers did, by its answer
abbrev pub WasVisited : WorkState → List (Option Bool) → WorkState → List (Option Bool) → List ℕ → Result Propagation LineStop → Type 0
WasVisited old a new b numbers (Ok Quiet) = Passed old a new b numbers []
WasVisited old a new b numbers (Ok Conflict) = Stuck old a new b
WasVisited old a new b numbers (Err stop) = HasCause old new stop × KeepsLog old new

-- The queue of units

-- the units before this place were looked at
pub record Spread (old : WorkState) (a : List (Option Bool)) (new : WorkState) (b : List (Option Bool)) (next : ℕ) : Type 0 where
  pub set : IsSet new b
  pub quiet : new.output.faults ≡ old.output.faults
  pub vars : new.vars ≡ old.vars
  pub within : next ≤ length new.units
  pub goes : (start : WorkState) → Progress start old a → Progress start new b
  pub ready : (start : WorkState) → Progress start old a → Ready start old a 0 [] → Ready start new b next []
  pub log : KeepsLog old new

-- what one unit's visits did, by its answer
abbrev pub WasSpread : WorkState → List (Option Bool) → WorkState → List (Option Bool) → Result Propagation LineStop → Type 0
WasSpread old a new b (Ok Quiet) = Spread old a new b (length new.units)
WasSpread old a new b (Ok Conflict) = Stuck old a new b
WasSpread old a new b (Err stop) = HasCause old new stop × KeepsLog old new

-- Propagation as a whole

-- the rounds falsify no clause, and the units are what they give; no clause asks for more
pub record Propagated (old new : WorkState) (b : List (Option Bool)) : Type 0 where
  pub set : IsSet new b
  pub open_yet : conflicts (known old) [] ≡ false
  pub units : (l : Literal) → has new.units l ≡ Rounds (known old) [] l
  pub progress : Progress old new b
  pub settled : (n : ℕ) (c : List Literal) → Contains new.clauses (n, c) → IsSettled b c
  pub log : KeepsLog old new

-- they falsify a clause, and the empty clause may be added
pub record Falsified (old new : WorkState) : Type 0 where
  pub going : new.ended ≡ false
  pub unspent : new.output.spent ≡ false
  pub work : IsWork new
  pub quiet : new.output.faults ≡ old.output.faults
  pub falsified : conflicts (known old) [] ≡ true
  pub empty : rup (known new) [] ≡ true
  pub log : KeepsLog old new

-- what propagating all units did, by its answer
abbrev pub WasPropagated : WorkState → WorkState → List (Option Bool) → Result Propagation LineStop → Type 0
WasPropagated old new b (Ok Quiet) = Propagated old new b
WasPropagated old new b (Ok Conflict) = Falsified old new
WasPropagated old new b (Err stop) = HasCause old new stop × KeepsLog old new
