-- Which states are sound.
use Rattle.std.specs.Prelude.{◌≡◌, ◌≢◌, ◌⊎◌, ℕ, ◌+◌, ◌<◌, ◌≤◌, Bool, true, false, ◌&&◌, ◌==◌, nat_lt, min, List, [], ◌∷◌, ◌++◌, map, length, fold, All, Contains, Option, Some, None, if◌then◌else◌}
use Rattle.std.specs.Option.{is_none}
use Rattle.sat_words.specs.Literal.{Literal}
use Rattle.sat_words.specs.Clause.{has, distinct_lits, two_or_more}
use Rattle.rup_model.specs.declared.journal.Entry.{Entry}
use Rattle.rup_model.specs.Basics.{EachAfter, below, one_if}
use Rattle.rup_model.specs.Journal.{ring_of, Book, book, ended, LogSound, is_told, is_ring, learned, IsFresh, IsSpaced}
use Rattle.rup_model.specs.NumberedLines.{IsHinted}
use Rattle.rup_model.specs.Opening.{start_clauses, IsLong}
use Rattle.sat_words.specs.declared.shared.TheConstants.{MAX_ENTRIES}
use Rattle.share_core.specs.declared.event.TheConstants.{MAX_SHARES}
use Rattle.share_core.specs.declared.event.Stop.{Stop}
use Rattle.share_core.specs.declared.stored.ClauseAt.{ClauseAt}
use Rattle.share_core.specs.declared.stored.Cell.{Cell}
use Rattle.share_core.specs.declared.stored.PutNote.{PutNote}
use Rattle.share_core.specs.State.{times_at, CoreOpening, opening_of, later, ArePaired, IsCoreOpening, Placed, Part, State, count_at, maker_at, slots, slot_of}

-- Counts

-- how often a ring reaches an address: as often as it holds it, and once if its grant is open and a start clause
-- stands there
abbrev pub reach : CoreOpening → Bool → List ClauseAt → ℕ → ℕ
reach o granted held a = times_at a held + (if granted then 0 else times_at a o.starts)

-- how often rings reach the address and slots have it
abbrev pub counted : CoreOpening → State → ℕ → ℕ
counted o c a = below o.rings (λ r. reach o (c.granted r) (c.part r).held a) + below (slots o) (λ s. one_if (c.slot s == a))

-- 1 at an open cell with count 0
abbrev pub idle_at : Option Cell → ℕ
idle_at None = 0
idle_at (Some x) = one_if (is_none x.maker && (x.count == 0))

-- a count is how often its address is reached, 0 if there is no cell; an open cell with count 0 waits once, and
-- nothing else does; a cell under construction has count 0, and stands in the list of the ring that builds it; no count
-- is above the number of rings and of all shares
pub record Counts (o : CoreOpening) (c : State) : Type 0 where
  pub counts : (a : ℕ) → a ≢ 0 → count_at (c.cell a) ≡ counted o c a
  pub waits : (a : ℕ) → below o.rings (λ r. times_at a (c.part r).waiting) ≡ idle_at (c.cell a)
  pub making : (a : ℕ) (x : Cell) (r : ℕ) → c.cell a ≡ Some x → x.maker ≡ Some r → (x.count ≡ 0) × (r < o.rings)
  pub makes : (r a : ℕ) → r < o.rings → times_at a (c.part r).making ≡ one_if (is_ring r (maker_at (c.cell a)))
  pub nowhere : c.cell 0 ≡ None
  pub addresses : (r : ℕ) → times_at 0 (c.part r).held ≡ 0
  pub few : (r : ℕ) → (c.part r).shared ≤ MAX_SHARES
  pub bounded : (a : ℕ) → count_at (c.cell a) ≤ o.rings + below o.rings (λ r. (c.part r).shared)
  pub named : (r : ℕ) → (c.part r).ring ≡ r

-- Cells

-- the cell has this clause
abbrev pub IsCopy : (ℕ → Option Cell) → ClauseAt → Type 0
IsCopy f h = (x : Cell) × (f h.address ≡ Some x) × (x.number ≡ h.number) × (x.lits ≡ h.lits)

-- an open cell has this clause
abbrev pub IsOpenCopy : (ℕ → Option Cell) → ClauseAt → Type 0
IsOpenCopy f h = (x : Cell) × (f h.address ≡ Some x) × (x.maker ≡ None) × (x.number ≡ h.number) × (x.lits ≡ h.lits)

-- while a grant is open each start address is an open cell with its start clause
abbrev pub StartsOpen : CoreOpening → State → Type 0
StartsOpen o c = (r : ℕ) → r < o.rings → c.granted r ≡ false → All (IsOpenCopy c.cell) o.starts

-- what rings know of cells is so
pub record CopiesSound (rings : ℕ) (cell : ℕ → Option Cell) (part : ℕ → Part) : Type 0 where
  pub held : (r : ℕ) → r < rings → All (IsCopy cell) (part r).held
  pub making : (r : ℕ) → r < rings → All (IsCopy cell) (part r).making
  pub waiting : (r : ℕ) → r < rings → All (IsCopy cell) (part r).waiting

-- each cell's clause is alive under its number, which no other cell has, and long
pub record CellsSound (b : Book) (cell : ℕ → Option Cell) : Type 0 where
  pub alive : (a : ℕ) (x : Cell) → cell a ≡ Some x → b.clause x.number ≡ Some x.lits
  pub shape : (a : ℕ) (x : Cell) → cell a ≡ Some x → IsLong x.lits
  pub own : (a b : ℕ) (x y : Cell) → cell a ≡ Some x → cell b ≡ Some y → x.number ≡ y.number → a ≡ b

-- the number is that of a start clause, or of an addition after the opening's journal
abbrev pub IsShared : CoreOpening → ℕ → Type 0
IsShared o n = Contains (map (λ s. s.number) o.starts) n ⊎ ((book o.formula o.journal).next ≤ n)

-- each of these clauses that is alive, and has two literals or more, is the clause of a cell
abbrev pub AllInCells : CoreOpening → List Entry → (ℕ → Option Cell) → Type 0
AllInCells o J cell = (n : ℕ) (c : List Literal) → IsShared o n → (book o.formula J).clause n ≡ Some c → two_or_more c ≡ true
    → (a : ℕ) × (x : Cell) × (cell a ≡ Some x) × (x.number ≡ n)

-- Slots

-- the address of a put, if it is the slot for this ring and class at this place
abbrev pub put_after : ℕ → ℕ → ℕ → ℕ → PutNote → ℕ
put_after to class place a n = if (n.to == to) && ((n.class == class) && (n.place == place)) then n.address else a

-- the address that was last put for this ring and class at this place
abbrev pub last_put : ℕ → ℕ → ℕ → List PutNote → ℕ
last_put to class place puts = fold (put_after to class place) 0 puts

-- a slot is empty, or has what was last put there
abbrev pub SlotsSound : CoreOpening → State → Type 0
SlotsSound o c = (r to k i : ℕ) → r < o.rings → to < o.rings → k < 4 → i < o.depth → c.slot (slot_of o r to k i) ≢ 0 → c.slot (slot_of o r to k i) ≡ last_put to k i (c.part r).puts

-- The journal

-- the entries of a ring with their places, from this place on
abbrev pub placed : ℕ → ℕ → List Entry → List Placed
placed r i [] = []
placed r i (e ∷ J) = if ring_of e == r then record { place = i; entry = e } ∷ placed r (i + 1) J else placed r (i + 1) J

-- the log is sound and has room; after the opening's journal all entries are of rings, and in a log with hints those of each
-- addition show that it follows from what is alive before it
pub record JournalSound (o : CoreOpening) (J : List Entry) : Type 0 where
  pub log : LogSound o.formula J
  pub room : length J ≤ MAX_ENTRIES
  pub begins : (added : List Entry) × (J ≡ o.journal ++ added) × All (λ e. ring_of e < o.rings) added
  pub hints : o.hinted ≡ true → EachAfter (IsHinted o.formula) o.journal (later o J)

-- what is learned is fresh where it stands, and rings have learned enough when they reduce
pub record FreshSound (starts : List (List Literal)) (J : List Entry) : Type 0 where
  pub fresh : EachAfter (IsFresh starts) [] J
  pub spaced : EachAfter IsSpaced [] J

-- after the opening's journal, each ring's part has its entries
abbrev pub EntriesOwned : CoreOpening → List Entry → (ℕ → Part) → Type 0
EntriesOwned o J part = (added : List Entry) × (J ≡ o.journal ++ added) × ((r : ℕ) → r < o.rings → (part r).wrote ≡ placed r (length o.journal) added)

-- Units, the turn and the stop

-- each listed unit has the number of a clause that is this unit, is in the formula or was added, and stands once; rings have
-- seen units and numbers in order, as many of these as of those
pub record UnitsSound (F : List (List Literal)) (J : List Entry) (units : List Literal) (numbers : List ℕ) (part : ℕ → Part) : Type 0 where
  pub paired : ArePaired (book F J) units numbers
  pub told : (l : Literal) → has units l ≡ true → is_told F J l ≡ true
  pub distinct : distinct_lits units ≡ true
  pub seen : (r : ℕ) → (rest : List Literal) × (units ≡ (part r).seen ++ rest)
  pub numbered : (r : ℕ) → (rest : List ℕ) × (numbers ≡ (part r).numbers ++ rest) × (length (part r).numbers ≡ length (part r).seen)

-- the turn is a ring's
abbrev pub TurnSound : ℕ → Option ℕ → Type 0
TurnSound rings turn = (r : ℕ) → turn ≡ Some r → r < rings

-- a stop is of a ring and of a kind from 1 to 5, and for a refutation the log is ended
pub record StopSound (F : List (List Literal)) (J : List Entry) (rings : ℕ) (stop : Option Stop) : Type 0 where
  pub refuted : (s : Stop) → stop ≡ Some s → s.kind ≡ 2 → ended F J ≡ true
  pub kinds : (s : Stop) → stop ≡ Some s → (1 ≤ s.kind) × (s.kind ≤ 5) × (s.ring < rings)

-- Tickets

-- how many tickets the ring has used up by learning, or has in hand
abbrev pub tickets_of : ℕ → Part → ℕ
tickets_of r p = length (learned r (map (λ w. w.entry) p.wrote)) + one_if p.ticket

-- the clauses learned since the opening and the tickets in hand together are the lesser of the number drawn and the limit; the draws beyond the limit are as many as the rings that found no ticket left; no ring found more
-- than were drawn; a ring with a ticket in hand found one left
pub record TicketsSound (o : CoreOpening) (drawn : ℕ) (part : ℕ → Part) : Type 0 where
  pub used : below o.rings (λ r. tickets_of r (part r)) ≡ min drawn o.limit
  pub gone : below o.rings (λ r. one_if (nat_lt o.limit (part r).found)) + min drawn o.limit ≡ drawn
  pub found : (r : ℕ) → (part r).found ≤ drawn
  pub in_hand : (r : ℕ) → (part r).ticket ≡ true → (part r).found ≤ o.limit

-- All of it

-- a sound state: counts, cells, log, units, freshness and tickets agree
pub record Sound (c : State) : Type 0 where
  pub opens : IsCoreOpening c.opening
  pub counts : Counts c.opening c
  pub starts : StartsOpen c.opening c
  pub copies : CopiesSound c.opening.rings c.cell c.part
  pub cells : CellsSound (book c.opening.formula c.journal) c.cell
  pub whole : AllInCells c.opening c.journal c.cell
  pub slots : SlotsSound c.opening c
  pub log : JournalSound c.opening c.journal
  pub entries : EntriesOwned c.opening c.journal c.part
  pub freshness : FreshSound (start_clauses (opening_of c.opening)) (later c.opening c.journal)
  pub units : UnitsSound c.opening.formula c.journal c.units c.numbers c.part
  pub turns : TurnSound c.opening.rings c.turn
  pub stops : StopSound c.opening.formula c.journal c.opening.rings c.stop
  pub tickets : TicketsSound c.opening c.drawn c.part
