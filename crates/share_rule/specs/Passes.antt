-- A pass of a table.
use mathlib.Core.Option.{some}
use lib.ListN.{get_elem?}
use Rattle.std.specs.Prelude.{◌≡◌, ◌<◌, ℕ, Bool, true, ⊤, List, [], ◌∷◌, map, Option, None}
use Rattle.atomic_table.specs.declared.shared.Seat.{Seat}
use Rattle.share_rule.specs.declared.view.View.{View}
use Rattle.share_rule.specs.declared.view.RingPart.{RingPart}
use Rattle.share_rule.specs.Views.{times_in, is_ready}
use Rattle.share_rule.specs.Seen.{Seen}
use Rattle.share_rule.specs.Shown.{SomeTold, ring_of}
use Rattle.share_rule.specs.declared.Shared.{Shared}

-- it is an open pass of this table, and enabled events leave a state with its parts
abbrev pub IsPassOf : {B : Type 0} → Shared B → Seat (Option B) View → Type 0
IsPassOf t p = (p.table_id ≡ t.table.shared.table_id) × (is_ready p.me.0.stage ≡ true) × (p.me.0.layout ≡ t.layout) × Seen p.me.0

-- the seat stays, with its slots
abbrev pub IsSamePass : {B : Type 0} → Seat (Option B) View → Seat (Option B) View → Type 0
IsSamePass old new = (new.id ≡ old.id) × (new.me.1 ≡ old.me.1)

-- a write has failed exactly if one of the rings was known so
pub record TellsFaults (ps : List RingPart) (fault : Bool) : Type 0 where
  pub told : (i : ℕ) (p : RingPart) → get_elem? ps i ≡ some p → p.failed ≡ true → fault ≡ true
  pub teller : fault ≡ true → SomeTold ps

-- it has the parts of all rings
abbrev pub IsWhole : View → Type 0
IsWhole v = (r : ℕ) → r < v.opening.rings → 0 < times_in r (map ring_of v.parts)

-- none of the rings has the turn
abbrev pub NoTurns : List RingPart → Type 0
NoTurns [] = ⊤
NoTurns (p ∷ ps) = (p.turn ≡ None) × NoTurns ps
