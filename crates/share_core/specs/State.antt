-- The state of the core: what it was opened with, the journal, the cells with their counts, what each ring has, the
-- slots of the pools, the listed units with their numbers, the turn, the stop and the number of draws.
use Rattle.std.specs.Prelude.{◌≡◌, ◌≢◌, ℕ, ◌+◌, ◌*◌, ◌^◌, ◌≤◌, Bool, false, ◌==◌, List, [], ◌∷◌, ◌++◌, map, length, drop, All, Option, Some, None, if◌then◌else◌}
use Rattle.std.specs.List.{AllZip}
use Rattle.sat_words.specs.Literal.{Literal}
use Rattle.rup_model.specs.declared.journal.TheConstants.{RULER_RING}
use Rattle.rup_model.specs.declared.journal.Entry.{Entry}
use Rattle.rup_model.specs.Basics.{one_if}
use Rattle.rup_model.specs.Journal.{Book, book}
use Rattle.rup_model.specs.Opening.{Opening, OpensAfter}
use Rattle.sat_words.specs.declared.shared.TheConstants.{MAX_ENTRIES}
use Rattle.share_core.specs.declared.event.TheConstants.{MAX_DEPTH}
use Rattle.share_core.specs.declared.event.Stop.{Stop}
use Rattle.share_core.specs.declared.stored.ClauseAt.{ClauseAt}
use Rattle.share_core.specs.declared.stored.Cell.{Cell}
pub use Rattle.share_core.specs.declared.part.CoreOpening.{CoreOpening}
pub use Rattle.share_core.specs.declared.part.Placed.{Placed}
pub use Rattle.share_core.specs.declared.part.Part.{Part}

-- Lists of cells, each as often as it is held

-- how often an address stands in the list
abbrev pub times_at : ℕ → List ClauseAt → ℕ
times_at a [] = 0
times_at a (h ∷ hs) = one_if (h.address == a) + times_at a hs

-- the list without its first cell at the address
abbrev pub without_at : ℕ → List ClauseAt → List ClauseAt
without_at a [] = []
without_at a (h ∷ hs) = if h.address == a then hs else h ∷ without_at a hs

-- the list with the cell after it; at address 0 there is none
abbrev pub with_cell : ClauseAt → List ClauseAt → List ClauseAt
with_cell h hs = if h.address == 0 then hs else hs ++ h ∷ []

-- Openings

-- the opening without its addresses
abbrev pub opening_of : CoreOpening → Opening
opening_of o = record { journal = o.journal; starts = map (λ s. record { number = s.number; lits = s.lits }) o.starts; units = o.units }

-- the literals of units that are given with their numbers
abbrev pub unit_lits : List (Literal × ℕ) → List Literal
unit_lits us = map (λ u. u.0) us

-- the numbers alone
abbrev pub unit_numbers : List (Literal × ℕ) → List ℕ
unit_numbers us = map (λ u. u.1) us

-- the entries after the opening's journal
abbrev pub later : CoreOpening → List Entry → List Entry
later o J = drop (length o.journal) J

-- each unit has the number of a clause that is this unit
abbrev pub ArePaired : Book → List Literal → List ℕ → Type 0
ArePaired b units numbers = AllZip (λ l n. b.clause n ≡ Some (l ∷ [])) units numbers

-- an opening for 1 to 16 rings, with 1 to 16 slots for each two rings and class, its start clauses at addresses that are
-- not 0 and differ, numbers of its units, and a limit so low that the number of draws fits a word
pub record IsCoreOpening (o : CoreOpening) : Type 0 where
  pub some_ring : 1 ≤ o.rings
  pub few_rings : o.rings ≤ RULER_RING
  pub some_slot : 1 ≤ o.depth
  pub few_slots : o.depth ≤ MAX_DEPTH
  pub opens : OpensAfter o.formula (opening_of o)
  pub room : length o.journal ≤ MAX_ENTRIES
  pub placed : All (λ s. s.address ≢ 0) o.starts
  pub apart : (a : ℕ) → times_at a o.starts ≤ 1
  pub paired : ArePaired (book o.formula o.journal) o.units o.numbers
  pub limited : o.limit ≤ 2 ^ 63

-- Rings

-- a ring before its first step
abbrev pub blank : ℕ → Part
blank r = record { ring = r; held = []; making = []; waiting = []; seen = []; numbers = []; shared = 0; wrote = []; puts = []; ticket = false; found = 0 }

-- States

-- cells by address, grants that were taken and parts by ring, slots in order, with 0 for an empty one, the listed units and
-- their numbers
pub record State : Type 0 where
  pub opening : CoreOpening
  pub journal : List Entry
  pub cell : ℕ → Option Cell
  pub granted : ℕ → Bool
  pub part : ℕ → Part
  pub slot : ℕ → ℕ
  pub units : List Literal
  pub numbers : List ℕ
  pub turn : Option ℕ
  pub stop : Option Stop
  pub drawn : ℕ

-- the open cells of the start clauses, each with this count
abbrev pub start_cell : ℕ → List ClauseAt → ℕ → Option Cell
start_cell n [] a = None
start_cell n (s ∷ ss) a = if a == s.address then Some (record { lits = s.lits; number = s.number; count = n; maker = None }) else start_cell n ss a

-- as the core is opened: each start clause is counted once for each ring, whose grants are all open
abbrev pub opened : CoreOpening → State
opened o = record {
  opening = o;
  journal = o.journal;
  cell = start_cell o.rings o.starts;
  granted = λ _. false;
  part = blank;
  slot = λ _. 0;
  units = o.units;
  numbers = o.numbers;
  turn = None;
  stop = None;
  drawn = 0;
}

-- Cells and slots, read

-- the count of the cell, 0 if there is none
abbrev pub count_at : Option Cell → ℕ
count_at None = 0
count_at (Some x) = x.count

-- the number of its clause
abbrev pub number_at : Option Cell → ℕ
number_at None = 0
number_at (Some x) = x.number

-- its literals
abbrev pub lits_at : Option Cell → List Literal
lits_at None = []
lits_at (Some x) = x.lits

-- the ring that builds it
abbrev pub maker_at : Option Cell → Option ℕ
maker_at None = None
maker_at (Some x) = x.maker

-- the clause at an address, as the rings know it
abbrev pub clause_at : State → ℕ → ClauseAt
clause_at c a = record { address = a; number = number_at (c.cell a); lits = lits_at (c.cell a) }

-- how many slots there are: for each two rings as many as the depth for each of four classes
abbrev pub slots : CoreOpening → ℕ
slots o = 4 * (o.rings * o.rings) * o.depth

-- where a ring's slot for another ring stands, by its class and its place among those of the class
abbrev pub slot_of : CoreOpening → ℕ → ℕ → ℕ → ℕ → ℕ
slot_of o from to class place = (4 * (from * o.rings + to) + class) * o.depth + place
