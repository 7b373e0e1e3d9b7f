-- Propagation with a clause set aside: its watches are passed over, and stay listed.
use Rattle.std.specs.Prelude.{◌≡◌, ℕ, Bool, false, ◌==◌, if◌then◌else◌, List, map, Option, None, Some}
use Rattle.sat_words.specs.declared.shared.Cref.{Cref}
use Rattle.ring_trail.specs.TrailData.{TrailData}
use Rattle.watch_prop.specs.declared.watch.Watch.{Watch}
use Rattle.watch_prop.specs.WatchData.{WatchData, Lits, attached}
use Rattle.watch_prop.specs.Watched.{Watched}

-- the watch in a slot, unless its clause is at the address
abbrev pub unless_at : ℕ → Option Watch → Option Watch
unless_at a None = None
unless_at a (Some s) = if s.clause.address == a then None else Some s

-- the watch in a slot, if its clause is at the address
abbrev pub if_at : ℕ → Option Watch → Option Watch
if_at a None = None
if_at a (Some s) = if s.clause.address == a then Some s else None

-- whether the clause set aside, if one is, is at the address
abbrev pub is_at : Option Cref → ℕ → Bool
is_at None a = false
is_at (Some c) a = a == c.address

-- the slots, without the watches of the clause set aside, if one is
abbrev pub other_slots : Option Cref → List (Option Watch) → List (Option Watch)
other_slots None slots = slots
other_slots (Some c) slots = map (unless_at c.address) slots

-- the watches without those of the clause set aside, if one is
abbrev pub but : Option Cref → WatchData → WatchData
but aside w = record { vars = w.vars; slots = other_slots aside w.slots; lists = w.lists; rooms = w.rooms; size = w.size; settled = w.settled }

-- the watches of this clause alone
abbrev pub only : Cref → WatchData → WatchData
only c w = record { vars = w.vars; slots = map (if_at c.address) w.slots; lists = w.lists; rooms = w.rooms; size = w.size; settled = w.settled }

-- the same clauses are attached, and the one set aside, if any, is as well watched as it was, over any trail
pub record PassesOver (aside : Option Cref) (lits : Lits) (old new : WatchData) : Type 0 where
  pub clauses : attached new ≡ attached old
  pub watched : (c : Cref) (t : TrailData) → aside ≡ Some c → Watched (only c old) lits t → Watched (only c new) lits t
