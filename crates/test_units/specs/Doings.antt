-- What rings did in their turns, and what they were known.
use Rattle.io_edge.specs.declared.edge.Sink.{Ghosts}
use Rattle.std.specs.Prelude.{◌≡◌, ◌≢◌, ◌⊎◌, ◌≤◌, ◌<◌, ◌+◌, ◌-◌, ◌^◌, ℕ, true, List, [], ◌∷◌, ◌++◌, length, map, min, sum, nat_lt, Some}
use Rattle.sat_words.specs.Literal.{Literal}
use Rattle.rup_model.specs.Basics.{one_if}
use Rattle.rup_model.specs.declared.journal.Kind.TheVariants.{UnitLine}
use Rattle.rup_model.specs.declared.journal.Entry.{Entry}
use Rattle.rup_model.specs.declared.journal.Entry.TheVariants.{Add, Del}
use Rattle.share_core.specs.declared.part.Part.{Part}
use Rattle.share_core.specs.declared.part.Placed.{Placed}
use Rattle.share_core.specs.Events.{buried_part, dropped_part, seen_part}
use Rattle.share_rule.specs.declared.view.Op.TheVariants.{Store}
use Rattle.share_rule.specs.declared.view.View.{View}
use Rattle.share_rule.specs.Views.{only, clause_of}
use Rattle.test_units.specs.declared.writers.Writer.{Writer}

-- the last step gave the turn back
abbrev pub GaveTurn : View → Type 0
GaveTurn v = (n : ℕ) × (v.last ≡ Some (record { word = 0; op = Store n; found = n }))

-- the turn was taken and given back, and nothing was written in it
abbrev pub WroteNone : View → View → Type 0
WroteNone v w = ((only w).core ≡ (only v).core) × GaveTurn w

-- Drawing

-- the ring drew a ticket
pub record DrewTicket (v w : View) : Type 0 where
  pub found : ℕ
  pub left : found ≤ v.opening.limit
  pub core_is : (only w).core ≡ record (only v).core { ticket = true; found = found }

-- Deleting

-- the last count of the cell was given up, and in the turn its clause was deleted
pub record Buried (a : ℕ) (v w : View) : Type 0 where
  pub place : ℕ
  pub core_is : (only w).core ≡ buried_part a place (Del (only v).core.ring (clause_of a v).number) (dropped_part (clause_of a v) 1 (only v).core)
  pub gave : GaveTurn w

-- the clause has not two literals, and nothing was done; or a count was given up: where it was the last, the turn was taken and
-- given back, and nothing was written in it
abbrev pub NotBuried : ℕ → View → View → Type 0
NotBuried a v w = ((length (clause_of a v).lits ≢ 2) × ((only w).core ≡ (only v).core))
    ⊎ ((found : ℕ) × ((only w).core ≡ dropped_part (clause_of a v) found (only v).core) × (found ≡ 1 → GaveTurn w))

-- Listing

-- in the turn no unit was listed that the ring had not seen, and it listed this one with this number
pub record ListedOne (lit : Literal) (number : ℕ) (v w : View) : Type 0 where
  pub none : (only w).caught_up ≡ (only v).caught_up + 1
  pub core_is : (only w).core ≡ seen_part lit number (only v).core
  pub gave : GaveTurn w

-- in the turn one was listed, which the ring read
pub record ReadOne (v w : View) : Type 0 where
  pub lit : Literal
  pub number : ℕ
  pub some : (only w).caught_up ≡ (only v).caught_up
  pub core_is : (only w).core ≡ seen_part lit number (only v).core
  pub gave : GaveTurn w

-- Writing

-- the line of a unit, by this ring under this number
abbrev pub unit_line : ℕ → Literal → ℕ → Entry
unit_line ring lit n = Add (record { ring = ring; number = n; lits = lit ∷ []; kind = UnitLine; hints = [] })

-- the ring wrote the unit under each of these numbers, in this order, and did nothing else
pub record WroteUnits (ring : ℕ) (lit : Literal) (ns : List ℕ) (p q : Part) : Type 0 where
  pub lines : List Placed
  pub entries : map (λ (w : Placed). w.entry) lines ≡ map (unit_line ring lit) ns
  pub part : q ≡ record p { wrote = p.wrote ++ lines }

-- how often a number is greater than the one before it, of which the first is given
abbrev pub rises : ℕ → List ℕ → ℕ
rises m [] = 0
rises m (n ∷ ns) = one_if (nat_lt m n) + rises n ns

-- the last number, or the one that is given if there is none
abbrev pub last_from : ℕ → List ℕ → ℕ
last_from m [] = m
last_from m (n ∷ ns) = last_from n ns

-- the writer wrote the unit this often at most, in turns that it gave back, and was told the numbers of its lines
pub record HasWritten {S : Type 0} {d : Ghosts S} (lit : Literal) (times : ℕ) (old new : Writer S d) : Type 0 where
  pub numbers : List ℕ
  pub most : length numbers ≤ times
  pub wrote : WroteUnits old.ring.ring lit numbers (only old.ring.pass.me.0).core (only new.ring.pass.me.0).core
  pub gave : 0 < times → GaveTurn new.ring.pass.me.0
  pub written : new.written ≡ min (old.written + rises old.last numbers) (2 ^ 64 - 1)
  pub last : new.last ≡ last_from old.last numbers
  pub sum_is : new.sum ≡ min (old.sum + sum numbers) (2 ^ 64 - 1)
