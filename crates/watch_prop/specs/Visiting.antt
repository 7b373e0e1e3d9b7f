-- The walk down the list of a literal that became false.
use Rattle.std.specs.Prelude.{◌≡◌, ◌≢◌, ℕ, ◌<◌, ◌≤◌, ◌+◌, ◌⊎◌, true, List, Some, Contains, length, take, slice_set}
use Rattle.sat_words.specs.Literal.{Literal}
use Rattle.sat_words.specs.Clause.{has}
use Rattle.sat_words.specs.declared.shared.Cref.{Cref}
use Rattle.ring_trail.specs.declared.step.TrailStep.{TrailStep}
use Rattle.ring_trail.specs.TrailData.{TrailData, IsTrueOn, IsFalseOn, HasNoPlace}
use Rattle.ring_trail.specs.Reasoned.{ForcesAt}
use Rattle.ring_trail.specs.Closed.{HasTrue}
use Rattle.watch_prop.specs.declared.watch.Watch.{Watch}
use Rattle.watch_prop.specs.declared.watch.Watcher.{Watcher}
use Rattle.watch_prop.specs.declared.watch.ListEntry.{ListEntry}
use Rattle.watch_prop.specs.declared.watch.ClauseState.{ClauseState}
use Rattle.watch_prop.specs.declared.watch.ClauseState.TheVariants.{Stale, Settled, Blocked, Moves, Forced, False}
use Rattle.watch_prop.specs.declared.watch.Visit.{Visit}
use Rattle.watch_prop.specs.declared.watch.Visit.TheVariants.{Done, Falsified}
use Rattle.watch_prop.specs.declared.propagated.Propagated.{Propagated}
use Rattle.watch_prop.specs.declared.propagated.Propagated.TheVariants.{Quiet, Conflict}
use Rattle.watch_prop.specs.WatchData.{WatchData, Lits, watchers_at, list_at}
use Rattle.watch_prop.specs.Watched.{At, Watched}
use Rattle.watch_prop.specs.Propagation.{IsConflict}
use Rattle.watch_prop.specs.Lists.{Added, Removed}

-- the literal is not false
abbrev pub NotFalse : List TrailStep → Literal → Type 0
NotFalse steps l = IsFalseOn steps l → ⊥

-- a literal of the clause beside these two that isn't false
pub record IsOpenIn (steps : List TrailStep) (c : List Literal) (l other k : Literal) : Type 0 where
  pub inside : has c k ≡ true
  pub not_l : k ≢ l
  pub not_other : k ≢ other
  pub not_false : NotFalse steps k

-- each literal of the clause beside these two is false
abbrev pub AllFalseBut : List TrailStep → List Literal → Literal → Literal → Type 0
AllFalseBut steps c l other = (k : Literal) → has c k ≡ true → (k ≡ l) ⊎ ((k ≡ other) ⊎ IsFalseOn steps k)

-- those watches of the literal that are not below this place in its list are satisfied
pub record IsVisiting (w : WatchData) (lits : Lits) (t : TrailData) (l : Literal) (place : ℕ) : Type 0 where
  pub watched : Watched w lits t
  pub left : (i : ℕ) (s : Watch) → i < w.settled → At w.slots i (Some s) → (s.first ≡ l) ⊎ (s.second ≡ l) → Contains (take place (list_at w.lists l)) i ⊎ HasTrue t.steps t.level (lits s.clause.address)

-- the watch at the index, seen from one of its literals
pub record IsEntry (w : WatchData) (index : ℕ) (l : Literal) (e : ListEntry) : Type 0 where
  pub at_index : e.index ≡ index
  pub watch : Watch
  pub there : At w.slots index (Some watch)
  pub clause : watch.clause ≡ e.clause
  pub binary : watch.binary ≡ e.binary
  pub sides : ((watch.first ≡ l) × (watch.second ≡ e.other)) ⊎ ((watch.second ≡ l) × (watch.first ≡ e.other))

-- the watch at the index is not one of the literal
abbrev pub IsStale : WatchData → ℕ → Literal → Type 0
IsStale w index l = (s : Watch) → At w.slots index (Some s) → (s.first ≢ l) × (s.second ≢ l)

-- a new literal watches, and its list has the watch
pub record Replaced (old new : WatchData) (e : ListEntry) (l k : Literal) (place : ℕ) : Type 0 where
  pub vars : new.vars ≡ old.vars
  pub settled : new.settled ≡ old.settled
  pub slots : new.slots ≡ slice_set old.slots e.index (Some record { clause = e.clause; first = e.other; second = k; binary = e.binary })
  pub between : List (List Watcher)
  pub added : Added old.lists between k record { slot = e.index; blocker = e.other }
  pub removed : Removed between new.lists l place

-- the watch at the index may be moved to another literal of its clause
pub record CanMove (w : WatchData) (lits : Lits) (t : TrailData) (l : Literal) (index : ℕ) (e : ListEntry) (k : Literal) : Type 0 where
  pub entry : IsEntry w index l e
  pub is_open : IsOpenIn t.steps (lits e.clause.address) l e.other k

-- a watch of the clause at this index
pub record WatchOf (w : WatchData) (index : ℕ) (c : Cref) : Type 0 where
  pub watch : Watch
  pub there : At w.slots index (Some watch)
  pub clause : watch.clause ≡ c

-- the clause of the watch at the index forces the literal, which has no value
pub record IsForcing (w : WatchData) (lits : Lits) (t : TrailData) (index : ℕ) (k : Literal) (c : Cref) : Type 0 where
  pub at : WatchOf w index c
  pub free : HasNoPlace t.steps k.var
  pub forces : ForcesAt t.steps (length t.steps) k (lits c.address)

-- a literal of the clause whose watch is at the index, if any, is true
abbrev pub IsSatisfied : WatchData → Lits → TrailData → ℕ → Type 0
IsSatisfied w lits t index = (s : Watch) → At w.slots index (Some s) → HasTrue t.steps t.level (lits s.clause.address)

-- the literal is true, and one of the clause whose watch is at the index
pub record CanBlock (w : WatchData) (lits : Lits) (t : TrailData) (l : Literal) (index : ℕ) (k : Literal) : Type 0 where
  pub e : ListEntry
  pub entry : IsEntry w index l e
  pub inside : has (lits e.clause.address) k ≡ true
  pub is_true : IsTrueOn t.steps k

-- what the literals say of a clause
abbrev pub IsVerdict : WatchData → Lits → TrailData → Literal → ℕ → ClauseState → Type 0
IsVerdict w lits t l index Stale = IsStale w index l
IsVerdict w lits t l index Settled = IsSatisfied w lits t index
IsVerdict w lits t l index (Blocked k) = CanBlock w lits t l index k
IsVerdict w lits t l index (Moves e k) = CanMove w lits t l index e k
IsVerdict w lits t l index (Forced k c) = IsForcing w lits t index k c
IsVerdict w lits t l index (False c) = IsConflict w lits t c

-- what a visit of an entry did
abbrev pub IsVisited : WatchData → Lits → TrailData → Literal → ℕ → Visit → Type 0
IsVisited w lits t l place Done = IsVisiting w lits t l place × (place ≤ length (list_at w.lists l))
IsVisited w lits t l place (Falsified c) = IsConflict w lits t c

-- what a walk down a list did
abbrev pub IsWalked : WatchData → Lits → TrailData → Literal → Propagated → Type 0
IsWalked w lits t l Quiet = IsVisiting w lits t l 0
IsWalked w lits t l (Conflict c) = IsConflict w lits t c

-- at Quiet every step is propagated
abbrev pub IsEnd : WatchData → Lits → TrailData → Propagated → Type 0
IsEnd w lits t Quiet = t.done ≡ length t.steps
IsEnd w lits t (Conflict c) = IsConflict w lits t c

-- Clauses that wait

-- more watchers of the first slot that waits may be in the lists, each with this blocker, and nothing else changed
pub record ListsMore (old new : WatchData) (k : Literal) : Type 0 where
  pub vars : new.vars ≡ old.vars
  pub slots : new.slots ≡ old.slots
  pub settled : new.settled ≡ old.settled
  pub len : length new.lists ≡ length old.lists
  pub kept : (m : Literal) (j : ℕ) → Contains (list_at old.lists m) j → Contains (list_at new.lists m) j
  pub only : (m : Literal) (y : Watcher) → Contains (watchers_at new.lists m) y → Contains (watchers_at old.lists m) y ⊎ ((y.slot ≡ old.settled) × (y.blocker ≡ k))

-- the first clause that waits is listed at these literals
pub record Listed (old new : WatchData) (s : Watch) (k l : Literal) : Type 0 where
  pub vars : new.vars ≡ old.vars
  pub settled : new.settled ≡ old.settled + 1
  pub slots : new.slots ≡ slice_set old.slots old.settled (Some record { clause = s.clause; first = k; second = l; binary = s.binary })
  pub between : List (List Watcher)
  pub added : Added old.lists between k record { slot = old.settled; blocker = l }
  pub added_too : Added between new.lists l record { slot = old.settled; blocker = k }

-- what choosing the watches of one clause did
abbrev pub IsSettledTo : WatchData → WatchData → Lits → TrailData → Visit → Type 0
IsSettledTo old w lits t Done = w.settled ≡ old.settled + 1
IsSettledTo old w lits t (Falsified c) = IsConflict w lits t c

-- what choosing the watches of all waiting clauses did
abbrev pub IsAllSettled : WatchData → Lits → TrailData → Propagated → Type 0
IsAllSettled w lits t Quiet = w.settled ≡ length w.slots
IsAllSettled w lits t (Conflict c) = IsConflict w lits t c
