-- A ring with its pass, as a port.
use Rattle.std.specs.Prelude.{◌≡◌, ◌≢◌, Bool, ℕ, ◌+◌, ◌-◌, ◌*◌, ◌%◌, ◌<◌, ◌≤◌, slice_index, true, false, not, ⊤, List, [], ◌∷◌, map, length, take, drop, filter, min, ◌^◌, All, Option, Some, None, IfSome, vec_capacity}
use Rattle.std.specs.List.{zip}
use Rattle.std.specs.Option.{option_map}
use Rattle.std.specs.Global.{Vec}
use Rattle.sat_words.specs.Literal.{Literal}
use Rattle.sat_words.specs.Clause.{has, distinct_lits}
use Rattle.sat_words.specs.declared.shared.Cref.{Cref}
use Rattle.sat_words.specs.declared.shared.Stop.{Stop}
use Rattle.atomic_table.specs.declared.shared.Seat.{Seat}
use Rattle.share_core.specs.declared.event.Stop.{Stop as CoreStop}
use Rattle.share_core.specs.declared.part.CoreOpening.{CoreOpening}
use Rattle.share_core.specs.declared.part.Placed.{Placed}
use Rattle.share_core.specs.declared.stored.ClauseAt.{ClauseAt}
use Rattle.share_core.specs.declared.stored.PutNote.{PutNote}
use Rattle.share_core.specs.State.{times_at}
use Rattle.share_rule.specs.declared.Shared.{Shared}
use Rattle.share_rule.specs.declared.view.GlueAt.{GlueAt}
use Rattle.share_rule.specs.declared.view.Poll.{Poll}
use Rattle.share_rule.specs.declared.view.RingPart.{RingPart}
use Rattle.share_rule.specs.declared.view.View.{View}
use Rattle.share_rule.specs.FirstWords.{addresses}
use Rattle.share_rule.specs.Passes.{IsPassOf}
use Rattle.share_rule.specs.Views.{only, clause_in, glue_in, start_glues}
use Rattle.ring_port.specs.declared.stops.PortStop.{PortStop}
use Rattle.ring_port.specs.Exchange.{puts_for}
use Rattle.ring_port.specs.Port.{is_usable}
use Rattle.ring_port.specs.PortState.{Holding, Offer, Slot, PortState}
use Rattle.ring_pass.specs.declared.spares.Spares.{Spares}
use Rattle.ring_pass.specs.Numbers.{KnowsNumbers}
use Rattle.ring_pass.specs.Refusals.{last_refusal}
use Rattle.ring_pass.specs.Sights.{wrote_unit}
use Rattle.ring_pass.specs.declared.waiting.Waiting.{Waiting}

-- What the ring keeps beside its pass

-- what a ring's port keeps in fields of its own
pub record Own : Type 0 where
  -- the listed units that it has seen, in order, except for those that it wrote before they were given
  pub arrived : List Literal
  -- how many of them `next_unit` gave, the first ones
  pub passed : ℕ
  -- the clause that it learned last, until it is offered
  pub last : Option Cref
  -- how often it looked for a clause of another ring
  pub polled : ℕ
  -- the last answer that refused, except for want of memory
  pub refused : Option PortStop
  -- what it has taken from other rings since its last Reduce entry
  pub taken : List Cref
  -- whether it wrote the empty clause, or was refused since it stands
  pub ended : Bool
  -- whether the log has hints
  pub hinted : Bool
  -- the numbers of the units that it has seen, by the codes of their literals
  pub numbers : List ℕ
  -- the name of the table
  pub home : List ℕ

-- the units that are seen and not given yet
abbrev pub kept : Own → List Literal
kept o = drop o.passed o.arrived

-- The port's state

-- a clause as the port knows it
abbrev pub holding_of : List GlueAt → ClauseAt → Holding
holding_of gs h = record { address = h.address; number = h.number; glue = glue_in h.number gs; lits = h.lits }

-- an offer as the port knows it
abbrev pub offer_of : PutNote → Offer
offer_of n = record { ring = n.to; class = n.class; place = n.place; address = n.address }

-- a poll as the port knows it
abbrev pub slot_of : Poll → Slot
slot_of q = record { ring = q.from; class = q.class; place = q.place }

-- how often no other unit was listed before a poll, as the port knows it
abbrev pub looks_before : Poll → ℕ
looks_before q = min q.caught_up (2 ^ 64 - 1)

-- a stop as the port knows it
abbrev pub stop_as : CoreStop → Stop
stop_as s = record { kind = s.kind; ring = s.ring }

-- the units that are not among these
abbrev pub without_kept : List Literal → List Literal → List Literal
without_kept ks seen = filter (λ l. not (has ks l)) seen

-- the port, if the pass's ring has this part
abbrev pub port_with : View → RingPart → Own → PortState
port_with v p o = record {
  held = map (holding_of p.glues) p.core.held;
  waiting = map (holding_of p.glues) p.core.waiting;
  seen = without_kept (kept o) p.core.seen;
  told = zip p.core.seen p.core.numbers;
  given = take o.passed o.arrived;
  coming = 2 * v.layout.vars - o.passed;
  kept = length o.arrived - o.passed;
  caught_up = min p.caught_up (2 ^ 64 - 1);
  start = map (holding_of (start_glues v.opening.starts)) v.opening.starts;
  opening = v.opening.units;
  mine = map (λ (e : Placed). e.entry) p.core.wrote;
  shared = p.core.shared;
  polled = o.polled;
  polls = map slot_of p.polls;
  polls_after = map looks_before p.polls;
  puts = map offer_of p.core.puts;
  taken = map (λ (c : Cref). c.address) o.taken;
  vars = v.layout.vars;
  ring = p.core.ring;
  rings = v.opening.rings;
  depth = v.opening.depth;
  last = option_map (λ (c : Cref). c.address) o.last;
  ticket = p.core.ticket;
  found = p.core.found;
  limit = v.opening.limit;
  stop = option_map stop_as v.stop;
  looks = min v.looks (2 ^ 64 - 1);
  refused = o.refused;
  ended = o.ended;
  hinted = v.opening.hinted;
  output = None;
  home = o.home;
}

-- the port over a pass that has one ring
abbrev pub port_of : View → Own → PortState
port_of v o = port_with v (only v) o

-- the name of the table of a pass, with its layout
abbrev pub home_of : {B : Type 0} → Seat (Option B) View → List ℕ
home_of p = p.me.0.layout.rings ∷ p.me.0.layout.vars ∷ p.me.0.layout.words ∷ p.me.0.layout.depth ∷ p.me.0.layout.conflicts ∷ p.table_id.words ∷ p.table_id.slots ∷ p.table_id.views_name ∷ p.table_id.atom ∷ p.table_id.block ∷ p.table_id.offset ∷ p.table_id.slot_names

-- What is kept of it

-- each unit that the ring wrote is listed: it has seen it
abbrev pub HasListed : RingPart → Type 0
HasListed p = (lit : Literal) → wrote_unit p lit ≡ true → has p.core.seen lit ≡ true

-- what is kept beside the pass is so: no unit arrived twice, each is seen, what was taken is held, the log is ended if the
-- port says so, the answer that refused last is what the log's turns refused the ring last, and if that is a fault the ring knows
-- that a write of the log has failed; between its calls the ring builds no cell, and each unit that it wrote is listed
pub record IsOwn (p : RingPart) (o : Own) : Type 0 where
  pub passed : o.passed ≤ length o.arrived
  pub distinct : distinct_lits o.arrived ≡ true
  pub told : All (λ l. has p.core.seen l ≡ true) o.arrived
  pub taken : All (λ c. 0 < times_at c.address p.core.held) o.taken
  pub ended_is : o.ended ≡ true → p.ended ≡ true
  pub refused_is : o.refused ≡ last_refusal p
  pub faulty_is : is_usable o.refused ≡ false → p.failed ≡ true
  pub making : p.core.making ≡ []
  pub listed : HasListed p

-- how many places the offer of what was learned last may take
abbrev pub pending : ℕ → Option Cref → ℕ
pending rings None = 0
pending rings (Some c) = rings - 1

-- what is kept of a clause that waits is so
pub record IsWaiting (w : Waiting) (h : ClauseAt) : Type 0 where
  pub address : w.cell.address ≡ h.address
  pub number : w.number ≡ h.number
  pub lits : w.lits.items ≡ h.lits

-- of each of them
abbrev pub AreWaiting : List Waiting → List ClauseAt → Type 0
AreWaiting [] [] = ⊤
AreWaiting [] (h ∷ hs) = ⊥
AreWaiting (w ∷ ws) [] = ⊥
AreWaiting (w ∷ ws) (h ∷ hs) = IsWaiting w h × AreWaiting ws hs

-- the clauses that wait are kept, with places for as many as the next offer may bring back; no more shares are made than
-- fifteen for each entry
pub record HasRoom (p : RingPart) (rings : ℕ) (last : Option Cref) (ws : List Waiting) (room : ℕ) : Type 0 where
  pub waits : AreWaiting ws p.core.waiting
  pub places : length ws + pending rings last ≤ room
  pub few : p.core.shared + pending rings last ≤ 15 * length p.core.wrote

-- all units that the ring has seen are kept in order, and there is room for all that may ever be listed
pub record HasUnits (p : RingPart) (vars : ℕ) (seen : List Literal) (seen_room arrived_room : ℕ) : Type 0 where
  pub all : seen ≡ p.core.seen
  pub seen_room_is : 2 * vars ≤ seen_room
  pub arrived_room_is : 2 * vars ≤ arrived_room

-- the clauses are no longer than this
abbrev pub AreShort : ℕ → List ClauseAt → Type 0
AreShort n hs = All (λ h. length h.lits ≤ n) hs

-- an empty buffer with room for as many literals
abbrev pub IsBuffer : ℕ → Vec Literal → Type 0
IsBuffer n b = (b.items ≡ []) × (n ≤ vec_capacity b)

-- the place that the next clause of each class takes at every other ring: so many of the class were put for that ring, modulo the
-- depth
pub record AreNext (ring : ℕ) (puts : List PutNote) (o : CoreOpening) (places : List ℕ) : Type 0 where
  pub four : length places ≡ 4
  pub there : (class : ℕ) → class < 4 → slice_index places class < o.depth
  pub next : (to class : ℕ) → to < o.rings → to ≢ ring → class < 4 → slice_index places class ≡ puts_for (map offer_of puts) to class % o.depth

-- what the ring has put, and may put next, is no longer than the longest; what comes back in the next offer can be read into
-- buffers of that length before its count is given up; the places of the next offers are known
pub record CanOffer (p : RingPart) (o : CoreOpening) (last : Option Cref) (s : Spares) : Type 0 where
  pub buffers : All (IsBuffer s.longest) s.buffers.items
  pub enough : pending o.rings last ≤ length s.buffers.items
  pub gave : AreShort s.longest p.gave
  pub next : IfSome last (λ c. (0 < times_at c.address p.core.held) × (length (clause_in c.address p.core.held).lits ≤ s.longest))
  pub places : AreNext p.core.ring p.core.puts o s.places

-- the pass has this ring alone, which has not the turn; these are the addresses of the start clauses; a lone ring that knows of a
-- failed write was refused for a fault; the numbers of all units seen are kept
pub record IsRingPass {B : Type 0} (t : Shared B) (p : Seat (Option B) View) (n : ℕ) (starts : List Cref) (o : Own) : Type 0 where
  pub pass : IsPassOf t p
  pub slots : p.me.1 ≡ []
  pub one : p.me.0.parts ≡ only p.me.0 ∷ []
  pub ring : n ≡ (only p.me.0).core.ring
  pub free : (only p.me.0).turn ≡ None
  pub home : o.home ≡ home_of p
  pub hinted : o.hinted ≡ p.me.0.opening.hinted
  pub numbers : KnowsNumbers p.me.0 o.numbers
  pub start : starts ≡ addresses p.me.0.opening.starts
  pub own : IsOwn (only p.me.0) o
  pub alone_is : p.me.0.opening.rings ≡ 1 → (only p.me.0).failed ≡ true → is_usable o.refused ≡ false

-- How it begins

-- the ring with this number has its grant, and has done nothing
abbrev pub begun_as : View → ℕ → List ℕ → PortState
begun_as v r home = record {
  held = map (holding_of (start_glues v.opening.starts)) v.opening.starts;
  waiting = [];
  seen = [];
  told = [];
  given = [];
  coming = 2 * v.layout.vars;
  kept = 0;
  caught_up = 0;
  start = map (holding_of (start_glues v.opening.starts)) v.opening.starts;
  opening = v.opening.units;
  mine = [];
  shared = 0;
  polled = 0;
  polls = [];
  polls_after = [];
  puts = [];
  taken = [];
  vars = v.layout.vars;
  ring = r;
  rings = v.opening.rings;
  depth = v.opening.depth;
  last = None;
  ticket = false;
  found = 0;
  limit = v.opening.limit;
  stop = option_map stop_as v.stop;
  looks = min v.looks (2 ^ 64 - 1);
  refused = None;
  ended = false;
  hinted = v.opening.hinted;
  output = None;
  home = home;
}
