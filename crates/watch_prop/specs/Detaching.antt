-- What is kept while clauses are detached, and while slots are compacted.
use Rattle.std.specs.Prelude.{◌≡◌, ◌≢◌, ℕ, ◌⊎◌, List, [], Some, Contains, length, sum}
use Rattle.sat_words.specs.Literal.{Literal}
use Rattle.sat_words.specs.declared.shared.Cref.{Cref}
use Rattle.watch_prop.specs.declared.watch.Watch.{Watch}
use Rattle.watch_prop.specs.WatchData.{WatchData, attached, watchers_at, list_at, without, without_all}
use Rattle.watch_prop.specs.Watched.{At}

-- some slots were freed, and nothing else has changed
pub record Thinned (old new : WatchData) : Type 0 where
  pub vars : new.vars ≡ old.vars
  pub settled : new.settled ≡ old.settled
  pub len : length new.slots ≡ length old.slots
  pub only : (i : ℕ) (s : Watch) → At new.slots i (Some s) → At old.slots i (Some s)
  pub lists : new.lists ≡ old.lists

-- some slots of the clauses at this address were freed
pub record Freed (old new : WatchData) (a : ℕ) : Type 0 where
  pub thinned : Thinned old new
  pub others : without (attached new) a ≡ without (attached old) a

-- some slots of the clauses at the addresses of these were freed
pub record FreedAll (old new : WatchData) (gone : List Cref) : Type 0 where
  pub thinned : Thinned old new
  pub others : without_all (attached new) gone ≡ without_all (attached old) gone

-- no watch of a clause at this address is left of those that were listed at the literal, which they watch
abbrev pub IsGoneFrom : WatchData → WatchData → ℕ → Literal → Type 0
IsGoneFrom old new a l = (i : ℕ) (s : Watch) → At new.slots i (Some s) → (s.first ≡ l) ⊎ (s.second ≡ l) → Contains (list_at old.lists l) i → s.clause.address ≢ a

-- the slots are those that were in use before, and all wait; nothing is listed, and the vector has no more than the lists' rooms
pub record Compacted (old new : WatchData) : Type 0 where
  pub vars : new.vars ≡ old.vars
  pub settled : new.settled ≡ 0
  pub empty : (l : Literal) → watchers_at new.lists l ≡ []
  pub closed : new.size ≡ sum new.rooms
  pub full : length new.slots ≡ length (attached new)
  pub attached : attached new ≡ attached old
  pub only : (i : ℕ) (s : Watch) → At new.slots i (Some s) → Contains old.slots (Some s)
