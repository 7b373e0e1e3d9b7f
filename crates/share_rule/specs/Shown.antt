-- The rule.
use Rattle.std.specs.Prelude.{◌≡◌, ◌⊎◌, ℕ, ◌+◌, ◌*◌, ◌^◌, ◌<◌, ◌≤◌, Bool, true, false, not, ◌==◌, ◌&&◌, List, [], ◌∷◌, All, map, length, slice_index, slice_index_or, Option, Some, None}
use mathlib.Core.Option.{some}
use lib.ListN.{get_elem?}
use Rattle.atomic_table.specs.Table.{State as Table}
use Rattle.sat_words.specs.Literal.{code_of}
use Rattle.rup_model.specs.declared.journal.Entry.{Entry}
use Rattle.rup_model.specs.Basics.{one_if}
use Rattle.share_core.specs.declared.event.Stop.{Stop}
use Rattle.share_core.specs.declared.stored.Cell.{Cell}
use Rattle.share_core.specs.State.{State, blank}
use Rattle.share_core.specs.Events.{listed_number}
use Rattle.share_core.specs.declared.part.CoreOpening.{CoreOpening}
use Rattle.share_rule.specs.declared.view.BookOrigin.{BookOrigin}
use Rattle.share_rule.specs.declared.Layout.{Layout}
use Rattle.share_rule.specs.declared.rule.Key.{Key}
use Rattle.clause_cell.specs.Packing.{words_for}
use Rattle.share_rule.specs.declared.view.StoredWord.{StoredWord}
use Rattle.share_rule.specs.declared.view.RingPart.{RingPart}
use Rattle.share_rule.specs.declared.view.Taken.{Taken}
use Rattle.share_rule.specs.declared.view.View.{View}
use Rattle.share_rule.specs.Layout.{grant_at, unit_at, number_at, slots, slot_at, ticket_at, table_words}
use Rattle.share_rule.specs.Cells.{Spells}
use Rattle.share_rule.specs.Views.{times_in, stored_at, is_ready, in_draft}
use Rattle.share_rule.specs.Seen.{IsPart, IsStopOf}
use Rattle.share_core.specs.Left.{Left}
use Rattle.share_rule.specs.Room.{Places}

-- Words

-- whose turn it is: 0 if it is free
abbrev pub turn_number : Option ℕ → ℕ
turn_number None = 0
turn_number (Some r) = r + 1

-- the stop: 0 if none stands
abbrev pub stop_number : Option Stop → ℕ
stop_number None = 0
stop_number (Some s) = s.kind + 8 * s.ring

-- the words are those of the core
pub record Words (l : Layout) (c : State) (glue : ℕ → ℕ) (ws : List ℕ) : Type 0 where
  pub wide : length ws ≡ table_words l
  pub turn_is : slice_index ws 0 ≡ 256 * length c.journal + turn_number c.turn
  pub stop_is : slice_index ws 1 ≡ stop_number c.stop
  pub listed_is : slice_index ws 2 ≡ length c.units
  pub grant_is : (r : ℕ) → r < l.rings → slice_index ws (grant_at r) ≡ one_if (not (c.granted r))
  pub unit_is : (k : ℕ) → k < length c.units → slice_index ws (unit_at l k) ≡ slice_index_or (map code_of c.units) k 0
  pub number_is : (k : ℕ) → k < length c.units → slice_index ws (number_at l k) ≡ listed_number c.numbers k
  pub slot_is : (k : ℕ) → k < slots l → slice_index ws (slot_at l k) ≡ c.slot k
  pub count_is : (a : ℕ) (x : Cell) → c.cell a ≡ Some x → x.maker ≡ None → slice_index ws a ≡ x.count
  pub cell_is : (a : ℕ) (x : Cell) → c.cell a ≡ Some x → x.maker ≡ None → Spells ws a x.number (glue x.number) x.lits
  pub ticket_is : slice_index ws (ticket_at l) ≡ c.drawn

-- Views

-- whose part it is
abbrev pub ring_of : RingPart → ℕ
ring_of p = p.core.ring

-- the pass j has the parts and the rights of the rings that it owns, as the core has them
pub record Fits (l : Layout) (c : State) (glue owner : ℕ → ℕ) (j : ℕ) (v : View) : Type 0 where
  pub rights : (r : ℕ) → r < c.opening.rings → times_in r v.rights ≡ one_if ((owner r == j) && not (c.granted r))
  pub owned : (r : ℕ) → r < c.opening.rings → times_in r (map ring_of v.parts) ≡ one_if ((owner r == j) && c.granted r)
  pub settled : in_draft v.stage ≡ false
  pub stops : IsStopOf c.stop v.stop v.parts
  pub told : is_ready v.stage ≡ true → (v.layout ≡ l) × (v.opening ≡ c.opening)
  pub parts : (i : ℕ) (p : RingPart) → get_elem? v.parts i ≡ some p → IsPart l c glue p

-- the ring builds a cell that the word belongs to
abbrev pub Builds : State → ℕ → ℕ → Type 0
Builds c r w = (a : ℕ) × (x : Cell) × (c.cell a ≡ Some x) × (x.maker ≡ Some r) × (a < w) × (w < a + words_for (length x.lits))

-- what the ring has stored stands there, in cells that it builds
pub record IsStored (c : State) (ws : List ℕ) (r : ℕ) (ss : List StoredWord) : Type 0 where
  pub words : (w n : ℕ) → stored_at w ss ≡ Some n → slice_index ws w ≡ n
  pub inside : (w n : ℕ) → stored_at w ss ≡ Some n → Builds c r w

-- if the ring has stored a word for the next listed unit at this place, it has the turn, there is room, and the word stands
abbrev pub StandsNext : Layout → State → List ℕ → ℕ → ℕ → Option ℕ → Type 0
StandsNext l c ws r w stored = (n : ℕ) → stored ≡ Some n → (c.turn ≡ Some r) × (length c.units < 2 * l.vars) × (slice_index ws w ≡ n)

-- what the ring has stored of the next listed unit: the unit and its number
abbrev pub UnitOut : Layout → State → List ℕ → RingPart → Type 0
UnitOut l c ws p = StandsNext l c ws (ring_of p) (unit_at l (length c.units)) p.unit × StandsNext l c ws (ring_of p) (number_at l (length c.units)) p.number

-- both
abbrev pub IsOut : Layout → State → List ℕ → RingPart → Type 0
IsOut l c ws p = IsStored c ws (ring_of p) p.stored × UnitOut l c ws p

-- the ring was told of a failed write only if one has failed, and while it has the turn it was told of any
pub record KnowsFault (fault : Bool) (p : RingPart) : Type 0 where
  pub told : p.failed ≡ true → fault ≡ true
  pub taken : (t : Taken) → p.turn ≡ Some t → fault ≡ true → p.failed ≡ true

-- one of the rings was told of a failed write
abbrev pub SomeTold : List RingPart → Type 0
SomeTold ps = (i : ℕ) × (p : RingPart) × (get_elem? ps i ≡ some p) × (p.failed ≡ true)

-- a ring of one of the passes was
abbrev pub WasTold : List View → Type 0
WasTold vs = (j : ℕ) × (v : View) × (get_elem? vs j ≡ some v) × SomeTold v.parts

module _ {S : Type 0} (stands : S → BookOrigin → Layout → CoreOpening → List Entry → Bool → Type 0) where
  -- while the turn is free, the book is at home and stands for the journal, and says whether a write has failed
  abbrev pub IsHome : BookOrigin → Layout → State → Bool → Table (Option S) View → Type 0
  IsHome w l c fault s = c.turn ≡ None → (b : S) × (get_elem? s.homes 0 ≡ some (some (Some b))) × stands b w l c.opening c.journal fault

  -- some list of enabled events leaves a state that the words, the book and the views show
  pub record Shows (l : Layout) (s : Table (Option S) View) : Type 0 where
    pub core : State
    pub left : Left core.opening core
    pub small : table_words l ≤ 2 ^ 63
    pub places : Places l core
    pub glue : ℕ → ℕ
    pub owner : ℕ → ℕ
    pub words : Words l core glue s.words
    pub fresh : (r : ℕ) → core.granted r ≡ false → core.part r ≡ blank r
    pub start_glues : All (λ s. glue s.number ≡ 0) core.opening.starts
    pub stopper : (t : Stop) → core.stop ≡ Some t → core.granted t.ring ≡ true
    pub turned : (r : ℕ) → core.turn ≡ Some r → (r < core.opening.rings) × (core.granted r ≡ true)
    pub owners : (r : ℕ) → r < core.opening.rings → owner r < length s.views
    pub fault : Bool
    pub origin : BookOrigin
    pub home : IsHome origin l core fault s
    pub origins : (j : ℕ) (v : View) → get_elem? s.views j ≡ some v → is_ready v.stage ≡ true → v.origin ≡ origin
    pub each : (j : ℕ) (v : View) → get_elem? s.views j ≡ some v → Fits l core glue owner j v
    pub stored : (j : ℕ) (v : View) (i : ℕ) (p : RingPart) → get_elem? s.views j ≡ some v → get_elem? v.parts i ≡ some p → IsOut l core s.words p
    pub faults : (j : ℕ) (v : View) (i : ℕ) (p : RingPart) → get_elem? s.views j ≡ some v → get_elem? v.parts i ≡ some p → KnowsFault fault p
    pub teller : fault ≡ true → WasTold s.views

  -- the table before it is open: its words are those that it was made with, and the slot has nothing until it is taken
  pub record Draft (k : Key) (s : Table (Option S) View) : Type 0 where
    pub words : s.words ≡ k.words.items
    pub view : View
    pub views : s.views ≡ view ∷ []
    pub closed : (in_draft view.stage ≡ true) × (is_ready view.stage ≡ false) × (view.layout ≡ k.layout)
    pub home : view.steps ≡ 0 → s.homes ≡ some None ∷ []

  -- either
  abbrev pub Shown : Key → Table (Option S) View → Type 0
  Shown k s = Draft k s ⊎ Shows k.layout s
