-- Lists of watchers in one vector, each in a stretch of it.
use Rattle.std.specs.Prelude.{◌≡◌, ◌≢◌, ℕ, ◌<◌, ◌≤◌, ◌+◌, ◌*◌, ◌⊎◌, max, nat_lt, if◌then◌else◌, List, [], length, take, drop, slice_set}
use Rattle.std.specs.List.{slice_index_or, sum_by}
use Rattle.watch_prop.specs.declared.watch.Watcher.{Watcher}
use Rattle.watch_prop.specs.declared.stretches.Stretch.{Stretch}
use Rattle.watch_prop.specs.Watched.{At}

-- the lists, for how many watchers each has room, and how long the vector is
pub record ListData : Type 0 where
  pub rows : List (List Watcher)
  pub rooms : List ℕ
  pub size : ℕ

-- the watchers in a stretch
abbrev pub row_of : List Watcher → Stretch → List Watcher
row_of xs s = take s.len (drop s.start xs)

-- each stretch is inside the vector and has room for its watchers, and no two have a place in common
pub record AreLaid (xs : List Watcher) (ss : List Stretch) : Type 0 where
  pub few : (i : ℕ) (s : Stretch) → At ss i s → s.len ≤ s.room
  pub inside : (i : ℕ) (s : Stretch) → At ss i s → s.start + s.room ≤ length xs
  pub apart : (i j : ℕ) (s r : Stretch) → At ss i s → At ss j r → i ≢ j → (s.start + s.room ≤ r.start) ⊎ (r.start + r.room ≤ s.start)

-- the list at this code has room for one more watcher
abbrev pub HasRoom : ListData → ℕ → Type 0
HasRoom x code = length (slice_index_or x.rows code []) < slice_index_or x.rooms code 0

-- the room of a list that gets one more watcher: as before if that is more than it has, else twice as much, and at least four
abbrev pub grown_room : (len room : ℕ) → ℕ
grown_room len room = if nat_lt len room then room else max (2 * room) 4

-- the rooms after the list at this code got room for one more watcher; those of the others stay
abbrev pub grown_rooms : ListData → ℕ → List ℕ
grown_rooms x code = slice_set x.rooms code (grown_room (length (slice_index_or x.rows code [])) (slice_index_or x.rooms code 0))

-- each list's room is as it was, or it is at least twice as much, and at least four
abbrev pub HaveGrown : (old new : List ℕ) → Type 0
HaveGrown old new = (code : ℕ) → (slice_index_or new code 0 ≡ slice_index_or old code 0) ⊎ (max (2 * slice_index_or old code 0) 4 ≤ slice_index_or new code 0)

-- the first n stretches are empty, stand one after the other and end here, which is the sum of their rooms
pub record AreLaidOut (ss : List Stretch) (n end : ℕ) : Type 0 where
  pub empty : (i : ℕ) (s : Stretch) → i < n → At ss i s → s.len ≡ 0
  pub before : (i : ℕ) (s : Stretch) → i < n → At ss i s → s.start + s.room ≤ end
  pub in_order : (i j : ℕ) (s r : Stretch) → i < j → j < n → At ss i s → At ss j r → s.start + s.room ≤ r.start
  pub total : end ≡ sum_by (λ (s : Stretch). s.room) (take n ss)
