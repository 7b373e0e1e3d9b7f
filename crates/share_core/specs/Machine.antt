-- What an executable core holds, and the state that this shows.
use Rattle.std.specs.Prelude.{◌≡◌, ℕ, ◌*◌, Bool, false, ◌==◌, List, [], ◌∷◌, map, length, drop, slice_index_or, Option, Some, None, if◌then◌else◌}
use Rattle.std.specs.List.{list_any}
use Rattle.std.specs.Option.{unwrap_or}
use Rattle.sat_words.specs.Literal.{Literal}
use Rattle.sat_words.specs.declared.line.Line.{Line}
use Rattle.rup_model.specs.declared.journal.Entry.{Entry}
use Rattle.rup_model.specs.Journal.{formula_clause, added, lines}
use Rattle.share_core.specs.declared.event.Stop.{Stop}
use Rattle.share_core.specs.declared.stored.ClauseAt.{ClauseAt}
use Rattle.share_core.specs.declared.stored.Cell.{Cell}
use Rattle.share_core.specs.declared.stored.StoredCell.{StoredCell}
use Rattle.share_core.specs.declared.ring.RingState.{RingState}
use Rattle.share_core.specs.declared.progress.Origin.{Origin}
use Rattle.share_core.specs.declared.progress.Progress.{Progress}
use Rattle.share_core.specs.State.{CoreOpening, unit_lits, unit_numbers, Part, State}
use Rattle.share_core.specs.Sound.{placed, Sound}

-- Lists

-- the entry adds a clause that passes the test
abbrev pub adds : (List Literal → Bool) → Entry → Bool
adds p e = list_any p (added (e ∷ []))

-- the address stands in the list
abbrev pub has_at : ℕ → List ClauseAt → Bool
has_at a hs = list_any (λ h. h.address == a) hs

-- the first cell at an address
abbrev pub cell_in : ℕ → List StoredCell → Option Cell
cell_in a [] = None
cell_in a (x ∷ xs) = if x.address == a then Some x.cell else cell_in a xs

-- the cell is open, with this count
abbrev pub opened_cell : ℕ → StoredCell → StoredCell
opened_cell n x = record { address = x.address; cell = record { lits = x.cell.lits; number = x.cell.number; count = n; maker = None } }

-- the first cell at an address is open, with this count
abbrev pub recounted : ℕ → ℕ → List StoredCell → List StoredCell
recounted a n [] = []
recounted a n (x ∷ xs) = if x.address == a then opened_cell n x ∷ xs else x ∷ recounted a n xs

-- Rings

-- a ring before its first step
abbrev pub no_ring : RingState
no_ring = record { granted = false; held = []; making = []; waiting = []; seen = []; numbers = []; shared = 0; puts = []; ticket = false; found = 0 }

-- the ring with this number
abbrev pub ring_in : List RingState → ℕ → RingState
ring_in rings r = slice_index_or rings r no_ring

-- its part; what it wrote stands in the journal after the first n entries
abbrev pub part_of : ℕ → ℕ → List Entry → RingState → Part
part_of r n J x = record { ring = r; held = x.held; making = x.making; waiting = x.waiting; seen = x.seen; numbers = x.numbers; shared = x.shared; wrote = placed r n (drop n J); puts = x.puts; ticket = x.ticket; found = x.found }

-- Cores

-- the formula's clauses, the journal before the opening, the start clauses, the units listed from the start with their
-- numbers, the depth, the limit and whether additions have hints; the whole journal and its lines; cells, rings, slots, listed
-- units with their numbers, turn, stop and the number of draws
pub record CoreData : Type 0 where
  pub formula : List (List Literal)
  pub before : List Entry
  pub starts : List ClauseAt
  pub first : List Literal
  pub first_numbers : List ℕ
  pub depth : ℕ
  pub limit : ℕ
  pub hinted : Bool
  pub journal : List Entry
  pub lines : List Line
  pub cells : List StoredCell
  pub rings : List RingState
  pub slots : List ℕ
  pub units : List Literal
  pub numbers : List ℕ
  pub turn : Option ℕ
  pub stop : Option Stop
  pub drawn : ℕ

-- the state that a core shows, by look-ups in its lists
abbrev pub state_of : CoreData → State
state_of d = record {
  opening = record { formula = d.formula; rings = length d.rings; depth = d.depth; journal = d.before; starts = d.starts; units = d.first; numbers = d.first_numbers; limit = d.limit; hinted = d.hinted };
  journal = d.journal;
  cell = λ a. cell_in a d.cells;
  granted = λ r. (ring_in d.rings r).granted;
  part = λ r. part_of r (length d.before) d.journal (ring_in d.rings r);
  slot = λ k. slice_index_or d.slots k 0;
  units = d.units;
  numbers = d.numbers;
  turn = d.turn;
  stop = d.stop;
  drawn = d.drawn;
}

-- what it holds, of what it was opened with and what the events have changed
abbrev pub data_of : Origin → Progress → CoreData
data_of o p = record {
  formula = o.formula.clauses;
  before = o.journal;
  starts = o.starts;
  first = o.units;
  first_numbers = o.numbers;
  depth = o.depth;
  limit = o.limit;
  hinted = o.hinted;
  journal = p.journal;
  lines = p.lines;
  cells = p.cells.items;
  rings = p.rings.items;
  slots = p.slots.items;
  units = p.units;
  numbers = p.numbers;
  turn = p.turn;
  stop = p.stop;
  drawn = p.drawn;
}

-- its lines are those of its journal
abbrev pub Logged : CoreData → Type 0
Logged d = d.lines ≡ lines d.formula d.journal

-- every slot has its place; the state is sound, and the lines are those of the journal
pub record Kept (d : CoreData) : Type 0 where
  pub wide : length d.slots ≡ 4 * (length d.rings * length d.rings) * d.depth
  pub sound : Sound (state_of d)
  pub logged : Logged d

-- Openings

-- the formula's clause with this number, at an address
abbrev pub start_at : List (List Literal) → ℕ × ℕ → ClauseAt
start_at F p = record { address = p.0; number = p.1; lits = unwrap_or (formula_clause F p.1) [] }

-- the opening with these pairs of an address and a number for its start clauses, and of a literal and a number for its units;
-- the ruler wrote nothing
abbrev pub core_opening : List (List Literal) → List (ℕ × ℕ) → List (Literal × ℕ) → ℕ → ℕ → ℕ → Bool → CoreOpening
core_opening F start units rings depth limit hinted = record {
  formula = F;
  rings = rings;
  depth = depth;
  journal = [];
  starts = map (start_at F) start;
  units = unit_lits units;
  numbers = unit_numbers units;
  limit = limit;
  hinted = hinted;
}

-- a start clause's open cell, with this count
abbrev pub start_stored : ℕ → ClauseAt → StoredCell
start_stored n s = record { address = s.address; cell = record { lits = s.lits; number = s.number; count = n; maker = None } }
