-- Lists of watchers, one for each literal, and their changes.
use Rattle.std.specs.Prelude.{◌≡◌, ◌≢◌, ℕ, ◌⊎◌, List, Contains, length, take}
use Rattle.std.specs.List.{slice_index}
use Rattle.sat_words.specs.Literal.{Literal}
use Rattle.watch_prop.specs.declared.watch.Watcher.{Watcher}
use Rattle.watch_prop.specs.WatchData.{watchers_at, list_at}

-- the list of the literal has gained the watcher, and no other list changed
pub record Added (old new : List (List Watcher)) (l : Literal) (x : Watcher) : Type 0 where
  pub len : length new ≡ length old
  pub there : Contains (list_at new l) x.slot
  pub kept : (m : Literal) (j : ℕ) → Contains (list_at old m) j → Contains (list_at new m) j
  pub same : (m : Literal) → m ≢ l → list_at new m ≡ list_at old m
  pub only : (m : Literal) (y : Watcher) → Contains (watchers_at new m) y → Contains (watchers_at old m) y ⊎ (y ≡ x)

-- the list of the literal has lost its watcher at the place
pub record Removed (old new : List (List Watcher)) (l : Literal) (place : ℕ) : Type 0 where
  pub len : length new ≡ length old
  pub kept : (j : ℕ) → Contains (list_at old l) j → j ≢ slice_index (list_at old l) place → Contains (list_at new l) j
  pub same : (m : Literal) → m ≢ l → list_at new m ≡ list_at old m
  pub before : take place (list_at new l) ≡ take place (list_at old l)
  pub only : (m : Literal) (y : Watcher) → Contains (watchers_at new m) y → Contains (watchers_at old m) y

-- the watcher at the place has another blocker
pub record Reblocked (old new : List (List Watcher)) (l : Literal) (place : ℕ) (k : Literal) : Type 0 where
  pub len : length new ≡ length old
  pub same : (m : Literal) → list_at new m ≡ list_at old m
  pub only : (m : Literal) (y : Watcher) → Contains (watchers_at new m) y → Contains (watchers_at old m) y ⊎ ((y.slot ≡ slice_index (list_at old l) place) × (y.blocker ≡ k))
