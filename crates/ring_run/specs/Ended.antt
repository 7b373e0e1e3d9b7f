-- What a run of a ring says: what it asks of its port, what it wrote, and what each end says.
use Rattle.std.specs.Prelude.{◌≡◌, ◌≢◌, ◌≤◌, ◌<◌, ◌⊎◌, ℕ, zero, suc, ◌+◌, ◌-◌, ◌*◌, ◌%◌, ◌^◌, ◌==◌, min, Bool, true, false, List, [], ◌∷◌, ◌++◌, map, filter, length, All, Contains, Option, Some, None, IfSome, nat_le, ◌&&◌, if◌then◌else◌, ⊤}
use Rattle.std.specs.List.{list_any, flat_map, range_with_len}
use Rattle.sat_words.specs.Literal.{Literal}
use Rattle.sat_words.specs.Clause.{has, is_empty}
use Rattle.sat_words.specs.Truth.{lit_true, clause_true}
use Rattle.sat_words.specs.declared.shared.TheConstants.{STOP_SAT, STOP_REFUTED, STOP_ROOM, STOP_PROOF, STOP_MEMORY}
use Rattle.rup_model.specs.declared.journal.Entry.{Entry}
use Rattle.rup_model.specs.declared.journal.Entry.TheVariants.{Add, Del, Reduce, Round}
use Rattle.rup_model.specs.declared.journal.Kind.{Kind}
use Rattle.rup_model.specs.declared.journal.Kind.TheVariants.{Ruler, Learn, Derive, UnitLine}
use Rattle.rup_model.specs.Basics.{EachAfter}
use Rattle.rup_model.specs.Journal.{addition, added, learned, recent, IsSpaced}
use Rattle.rup_model.specs.Opening.{Opening, IsNew, adds_unit}
use Rattle.rup_model.specs.Rounds.{Rounds}
use Rattle.ring_port.specs.PortState.{PortState, Holding, Slot, IsOn, HoldsStart, clause_at}
use Rattle.ring_port.specs.Port.{is_usable, start_lits}
use Rattle.ring_port.specs.Exchange.{other_rings}
use Rattle.ring_port.specs.Log.{KeepsLog, start_of}
use Rattle.ring_port.specs.declared.stops.PortStop.TheVariants.{NoHole as NoHoleAnswer}
use Rattle.reduce_db.specs.Moment.{lemmas_before}
use Rattle.restart_plan.specs.Luby.{luby_sum}
use Rattle.restart_plan.specs.Plan.{AreMost, luby_unit}
use Rattle.ring_run.specs.declared.job.Job.{Job}
use Rattle.ring_run.specs.declared.job.Counts.{Counts}
use Rattle.ring_run.specs.declared.job.End.{End}
use Rattle.ring_run.specs.declared.job.End.TheVariants.{Sat, Refuted, Spent, Stopped, NoHole, ProofFault, Memory}

-- What a run asks for

-- the job is this port's, on variables that literals can have
pub record IsJobOf (s : PortState) (job : Job) : Type 0 where
  pub small : job.vars ≤ 2 ^ 30
  pub ring : job.ring ≡ s.ring
  pub rings : job.rings ≡ s.rings
  pub vars : job.vars ≡ s.vars
  pub start : job.start ≡ map (λ (h : Holding). record { address = h.address }) s.start

-- the ring holds each start clause; nothing is seen, added, taken, shared or polled yet, no ticket was drawn, no stop is known, and nothing
-- was refused
pub record IsUntouched (s : PortState) : Type 0 where
  pub held : HoldsStart s
  pub seen : s.seen ≡ []
  pub mine : s.mine ≡ []
  pub taken : s.taken ≡ []
  pub stop : s.stop ≡ None
  pub refused : s.refused ≡ None
  pub shared : s.shared ≡ 0
  pub polled : s.polled ≡ 0
  pub ticket : s.ticket ≡ false
  pub found : s.found ≡ 0

-- What it leaves

-- what no run changes; it only polls more, and whatever journal the port's log stands for, it still does
pub record Stays (old new : PortState) : Type 0 where
  pub start : new.start ≡ old.start
  pub opening : new.opening ≡ old.opening
  pub vars : new.vars ≡ old.vars
  pub ring : new.ring ≡ old.ring
  pub rings : new.rings ≡ old.rings
  pub depth : new.depth ≡ old.depth
  pub polled : min old.polled (2 ^ 64 - 1) ≤ new.polled
  pub limit : new.limit ≡ old.limit
  pub home : new.home ≡ old.home
  pub hinted : new.hinted ≡ old.hinted
  pub log : KeepsLog old new

-- a clause learned has a literal or more, a unit's line one, and what is derived is the empty clause or has two or more
abbrev pub IsOfKind : Kind → List Literal → Type 0
IsOfKind Ruler c = ⊥
IsOfKind Learn c = 1 ≤ length c
IsOfKind Derive c = (c ≡ []) ⊎ (2 ≤ length c)
IsOfKind UnitLine c = length c ≡ 1

-- the entry is this ring's: it adds a clause on the variables or deletes one, or the ring reduces its clauses
abbrev pub IsOwn : (ring vars : ℕ) → Entry → Type 0
IsOwn ring vars (Add x) = (x.ring ≡ ring) × All (IsOn vars) x.lits × IsOfKind x.kind x.lits
IsOwn ring vars (Del r n) = r ≡ ring
IsOwn ring vars (Reduce r) = r ≡ ring
IsOwn ring vars (Round x) = ⊥

-- what the ring starts from: the start clauses with their numbers, and the units that are listed from the start, without the
-- ruler's entries, which no clause that is learned is compared with
abbrev pub opening_of : PortState → Opening
opening_of s = record { journal = []; starts = map start_of s.start; units = s.opening }

-- each clause that the ring learned was new when it was added: it contains no start clause and none that the ring had
-- learned since it last reduced, and no literal that is listed as a unit or whose unit clause the ring had added
abbrev pub AreNew : PortState → Type 0
AreNew s = EachAfter (IsNew (opening_of s)) [] s.mine

-- the ring learned clauses enough before each Reduce entry since the one before
abbrev pub AreSpaced : PortState → Type 0
AreSpaced s = EachAfter IsSpaced [] s.mine

-- the entry notes a reduction of the ring
abbrev pub is_reduction : ℕ → Entry → Bool
is_reduction r (Add x) = false
is_reduction r (Del q n) = false
is_reduction r (Reduce q) = q == r
is_reduction r (Round x) = false

-- how many reductions of the ring the entries note
abbrev pub reductions : ℕ → List Entry → ℕ
reductions r J = length (filter (is_reduction r) J)

-- of two literals or more a clause is derived only after a Reduce entry of the ring, and before it learns again
abbrev pub IsDerivedInTime : List Entry → ℕ → Kind → List Literal → Type 0
IsDerivedInTime before r Ruler c = ⊤
IsDerivedInTime before r Learn c = ⊤
IsDerivedInTime before r Derive c = 2 ≤ length c → (1 ≤ reductions r before) × (recent r before ≡ [])
IsDerivedInTime before r UnitLine c = ⊤

-- before its i-th Reduce entry the ring learned at least as many clauses since the one before as reduction i comes after; what it
-- derives comes in time
abbrev pub IsTimely : List Entry → Entry → Type 0
IsTimely before (Add x) = IsDerivedInTime before x.ring x.kind x.lits
IsTimely before (Del r n) = ⊤
IsTimely before (Reduce r) = lemmas_before (reductions r before + 1) ≤ length (recent r before)
IsTimely before (Round x) = ⊤

-- each reduction of the ring comes after this many lemmas, and clauses are made shorter only then
abbrev pub AreTimely : PortState → Type 0
AreTimely s = EachAfter IsTimely [] s.mine

-- the line of a unit that propagation made true
abbrev pub is_unit_line : Kind → Bool
is_unit_line Ruler = false
is_unit_line Learn = false
is_unit_line Derive = false
is_unit_line UnitLine = true

-- the unit is neither listed from the start nor given, and the ring has not added it
pub record IsUntold (listed given : List Literal) (ring : ℕ) (before : List Entry) (l : Literal) : Type 0 where
  pub not_listed : has listed l ≡ false
  pub not_given : has given l ≡ false
  pub not_added : adds_unit ring before l ≡ false

-- a unit's line adds such a one
abbrev pub IsNewLine : List Literal → List Literal → ℕ → List Entry → Entry → Type 0
IsNewLine listed given ring before e = IfSome (addition e) (λ x. is_unit_line x.kind ≡ true → All (IsUntold listed given ring before) x.lits)

-- no unit's line of the ring adds one that is listed from the start, that it was given or that it had added before
abbrev pub AreNewLines : PortState → Type 0
AreNewLines s = EachAfter (IsNewLine s.opening s.given s.ring) [] s.mine

-- the unit is seen
pub record IsSeenUnit (s : PortState) (c : List Literal) : Type 0 where
  pub lit : Literal
  pub unit : c ≡ lit ∷ []
  pub seen : has s.seen lit ≡ true

-- the clause is held at some address
pub record IsHeldClause (s : PortState) (c : List Literal) : Type 0 where
  pub address : ℕ
  pub there : clause_at s address ≡ Some c

-- the clause is held, or is a unit that is seen
abbrev pub IsHeldOrSeen : PortState → List Literal → Type 0
IsHeldOrSeen s c = IsHeldClause s c ⊎ IsSeenUnit s c

-- each clause that the ring learned since its last Reduce entry is held, or is a unit that is seen
abbrev pub HoldsRecent : PortState → Type 0
HoldsRecent s = (c : List Literal) → Contains (recent s.ring s.mine) c → IsHeldOrSeen s c

-- the clauses that the ring searches over: those that it started with, those that it learned since it last reduced, and the
-- units seen
abbrev pub searched : PortState → List (List Literal)
searched s = start_lits s ++ (recent s.ring s.mine ++ map (λ l. l ∷ []) s.seen)

-- each literal that plain rounds of unit propagation give from nothing is seen
abbrev pub IsTold : PortState → Type 0
IsTold s = (l : Literal) → Rounds (searched s) [] l ≡ true → has s.seen l ≡ true

-- the glue is one at least, and less than the clause has literals
pub record IsGlued (h : Holding) : Type 0 where
  pub some : 1 ≤ h.glue
  pub few : h.glue < length h.lits

-- what is held was held before, has such a glue, or is at one of some other addresses, of which there are no more than polls
pub record HoldsGlued (old new : PortState) : Type 0 where
  pub others : List ℕ
  pub few : min (length others) (2 ^ 64 - 1) ≤ new.polled
  pub each : (h : Holding) → Contains new.held h → Contains old.held h ⊎ (Contains others h.address ⊎ IsGlued h)

-- a model comes after one look more, and so does the conflict at which all tickets have been drawn
abbrev pub last_looks : End → ℕ
last_looks (Sat a) = 1
last_looks Spent = 1
last_looks _ = 0

-- as many looks as this were made and found no stop, or their count stands at its last value
abbrev pub HasLooked : ℕ → PortState → Type 0
HasLooked n s = min n (2 ^ 64 - 1) ≤ s.looks

-- a clause of two to seven literals: it has a class if its glue is one at least and less than its size
abbrev pub is_short : List Literal → Bool
is_short c = nat_le 2 (length c) && nat_le (length c) 7

-- a clause of two literals or more
abbrev pub is_long : List Literal → Bool
is_long c = nat_le 2 (length c)

-- clauses were shared once for every other ring and each lemma counted as offered: these are at least as many as the lemmas of two
-- to seven literals, and at most as many as those of two or more; the offers are counted up to the last value of 64 bits
pub record HasOffered (s : PortState) (exported offered : ℕ) : Type 0 where
  pub shared : s.shared ≡ length (other_rings s) * exported
  pub all : length (filter is_short (learned s.ring s.mine)) ≤ exported
  pub few : exported ≤ length (filter is_long (learned s.ring s.mine))
  pub told : offered ≡ min s.shared (2 ^ 64 - 1)

-- this many polls, of each place of four classes of each other ring this often, up to the last value of 64 bits
abbrev pub polls_of : PortState → ℕ → ℕ
polls_of s imports = min (4 * s.depth * (length (other_rings s) * imports)) (2 ^ 64 - 1)

-- the ring has neither found a model nor found all tickets drawn
abbrev pub IsHalted : End → Type 0
IsHalted (Sat a) = ⊥
IsHalted Spent = ⊥
IsHalted _ = ⊤

-- if the ring found a model, or is spent, it has polled as often as one import more than it restarted takes; else at most so
-- often
abbrev pub HasPolled : PortState → (restarts : ℕ) → End → Type 0
HasPolled s restarts (Sat a) = s.polled ≡ polls_of s (1 + restarts)
HasPolled s restarts Spent = s.polled ≡ polls_of s (1 + restarts)
HasPolled s restarts _ = s.polled ≤ polls_of s (1 + restarts)

-- if a ring looks for clauses of one class of another ring, in order: the places of their slots, so many
abbrev pub places_of : (depth ring class : ℕ) → List Slot
places_of depth r c = map (λ p. record { ring = r; class = c; place = p }) (range_with_len 0 depth)

-- if it looks for clauses of another ring, in order: each place of the classes 0, 1, 2 and 3
abbrev pub slots_of : (depth ring : ℕ) → List Slot
slots_of depth r = flat_map (places_of depth r) (0 ∷ 1 ∷ 2 ∷ 3 ∷ [])

-- if it looks at an import, in order: the slots of each other ring
abbrev pub import_slots : PortState → List Slot
import_slots s = flat_map (slots_of s.depth) (other_rings s)

-- these slots this often, one time after the other
unfoldable pub rounds : ℕ → List Slot → List Slot
rounds zero slots = []
rounds (suc n) slots = rounds n slots ++ slots

-- the ring looked into these slots, in order, or into some of them from the first on
pub record LookedAlong (old new : PortState) (slots : List Slot) : Type 0 where
  pub looked : List Slot
  pub left : List Slot
  pub polls : new.polls ≡ old.polls ++ looked
  pub parts : looked ++ left ≡ slots

-- since the start the ring has imported this often: each time it looked into each slot of each other ring, in order; and at least so
-- often a look for units found no other listed, which is counted up to the last count of 64 bits
pub record HasImported (start s : PortState) (imports : ℕ) : Type 0 where
  pub polls : s.polls ≡ start.polls ++ rounds imports (import_slots s)
  pub caught_up : min (start.caught_up + imports) (2 ^ 64 - 1) ≤ s.caught_up

-- if the ring found a model, or is spent, it has imported once more than it restarted; else it looked into the
-- slots of this many imports, in order, up to one of them
abbrev pub ImportsBy : (start s : PortState) (restarts : ℕ) → End → Type 0
ImportsBy start s restarts (Sat a) = HasImported start s (1 + restarts)
ImportsBy start s restarts Spent = HasImported start s (1 + restarts)
ImportsBy start s restarts _ = LookedAlong start s (rounds (1 + restarts) (import_slots s))

-- if the ring found a model no clause waits for its deletion
abbrev pub IsTidy : PortState → End → Type 0
IsTidy s (Sat a) = s.waiting ≡ []
IsTidy s _ = ⊤

-- as many clauses were learned as are counted, and as many were offered
pub record IsCounted (s : PortState) (counts : Counts) : Type 0 where
  pub learned_is : counts.learned ≡ length (learned s.ring s.mine)
  pub offers : HasOffered s counts.exported counts.offered

-- there are 50 lemmas or more for each restart; by a ring of odd number just as many were made as Luby's sequence allows for the lemmas
pub record HasRestarted (ring : ℕ) (counts : Counts) : Type 0 where
  pub few : 50 * counts.restarts ≤ counts.learned
  pub most : ring % 2 ≡ 1 → AreMost counts.restarts counts.learned

-- for each lemma a ticket was drawn, and so was the one in hand
abbrev pub HasDrawnFor : PortState → (learned : ℕ) → Type 0
HasDrawnFor s learned = learned + (if s.ticket then 1 else 0) ≤ s.found

-- the last draw found all tickets drawn if the ring is spent, and fewer if it is not; none is in hand if it is spent or found a model
abbrev pub TicketsAt : PortState → End → Type 0
TicketsAt s (Sat a) = (s.ticket ≡ false) × (s.found ≤ s.limit)
TicketsAt s Spent = (s.ticket ≡ false) × (s.limit < s.found)
TicketsAt s _ = s.found ≤ s.limit

-- since its last Reduce entry the ring has learned fewer lemmas, without the last n, than its next reduction comes after
abbrev pub IsInTime : PortState → ℕ → Type 0
IsInTime s n = length (recent s.ring s.mine) < lemmas_before (reductions s.ring s.mine + 1) + n

-- a ring of odd number restarted last after this many lemmas as Luby's sequence says; of these it had learned fewer since its last
-- Reduce entry than its next reduction comes after
abbrev pub IsReducedInTime : PortState → Counts → Type 0
IsReducedInTime s counts = s.ring % 2 ≡ 1 → IsInTime s (counts.learned - luby_unit * luby_sum counts.restarts)

-- if the ring found a model, or is spent, it had reduced its lemmas in time when it restarted last
abbrev pub ReducesBy : PortState → Counts → End → Type 0
ReducesBy s counts (Sat a) = IsReducedInTime s counts
ReducesBy s counts Spent = IsReducedInTime s counts
ReducesBy s counts _ = ⊤

-- the ring's own stop of this kind stands
abbrev pub HasWon : PortState → ℕ → Type 0
HasWon s kind = s.stop ≡ Some (record { kind = kind; ring = s.ring })

-- the assignment is true on each start clause, each unit of the opening and each unit seen
pub record IsModelOf (s : PortState) (a : List Bool) : Type 0 where
  pub long : length a ≡ s.vars
  pub start : All (λ h. clause_true a h.lits ≡ true) s.start
  pub opening : All (λ l. lit_true a l ≡ true) s.opening
  pub seen : All (λ l. lit_true a l ≡ true) s.seen

-- each start clause is still held; the ring saw no stop, set none and did not end the log, and no line has failed
pub record IsIntact (s : PortState) : Type 0 where
  pub held : HoldsStart s
  pub stop : s.stop ≡ None
  pub going : list_any is_empty (added s.mine) ≡ false
  pub usable : is_usable s.refused ≡ true

-- the ring did not add the empty clause
abbrev pub IsGoing : PortState → Type 0
IsGoing s = list_any is_empty (added s.mine) ≡ false

-- the kind of stop that an end sets: none if the ring is spent, or if another ring's stop was seen
abbrev pub stop_kind : End → Option ℕ
stop_kind (Sat a) = Some STOP_SAT
stop_kind Refuted = Some STOP_REFUTED
stop_kind Spent = None
stop_kind (Stopped x) = None
stop_kind (NoHole lack) = Some STOP_ROOM
stop_kind ProofFault = Some STOP_PROOF
stop_kind Memory = Some STOP_MEMORY

-- the cause of each end; at a model all that unit propagation gives from nothing is seen; no line has failed but at `ProofFault`, and perhaps at
-- `Stopped`; the ring added the empty clause at none but `Refuted`, and perhaps `Stopped`
abbrev pub Cause : PortState → End → Type 0
Cause s (Sat a) = IsModelOf s a × (is_usable s.refused ≡ true) × IsTold s × IsGoing s
Cause s Refuted = (s.ended ≡ true) × (is_usable s.refused ≡ true)
Cause s Spent = IsIntact s
Cause s (Stopped x) = (s.stop ≡ Some x) × (x.ring ≢ s.ring)
Cause s (NoHole lack) = (s.refused ≡ Some (NoHoleAnswer lack)) × (lack.largest < lack.need) × IsGoing s
Cause s ProofFault = (is_usable s.refused ≡ false) × IsGoing s
Cause s Memory = (is_usable s.refused ≡ true) × IsGoing s

-- the end has its cause, and the stop that it sets stands
pub record Ends (s : PortState) (end : End) : Type 0 where
  pub cause : Cause s end
  pub won : IfSome (stop_kind end) (HasWon s)
