-- What a search keeps of its port and its trail.
use Rattle.std.specs.Prelude.{◌≡◌, ◌⊎◌, ℕ, ◌+◌, ◌-◌, ◌^◌, min, ◌<◌, ◌≤◌, ◌||◌, true, false, List, [], ◌∷◌, ◌++◌, map, length, drop, All, Contains, Option, Some, None, IsSome}
use Rattle.std.specs.List.{list_any}
use Rattle.sat_words.specs.Literal.{Literal}
use Rattle.sat_words.specs.Clause.{has, is_empty}
use Rattle.sat_words.specs.declared.shared.Cref.{Cref}
use Rattle.rup_model.specs.declared.journal.Entry.{Entry}
use Rattle.rup_model.specs.declared.journal.Entry.TheVariants.{Add, Del, Reduce, Round}
use Rattle.rup_model.specs.declared.journal.Kind.TheVariants.{UnitLine}
use Rattle.rup_model.specs.Journal.{added, learned, recent}
use Rattle.rup_model.specs.Opening.{adds_unit, is_new}
use Rattle.rup_model.specs.Rup.{rup}
use Rattle.ring_port.specs.Port.{IsClause, IsFreshClause, KeepsHeld}
use Rattle.ring_port.specs.PortState.{PortState, Holding, HoldsStart, IsPort, held_at, lits_at, known, clause_at, one_more}
use Rattle.ring_port.specs.Exchange.{Offered, class_at, other_rings}
use Rattle.ring_trail.specs.declared.step.TrailStep.{TrailStep}
use Rattle.ring_trail.specs.TrailData.{TrailData, IsFalseOn, lit_at, level_at, reason_at}
use Rattle.ring_trail.specs.Reasoned.{IsReasoned}
use Rattle.ring_trail.specs.Closed.{TrueWithin, IsClosedClause}
use Rattle.analyze.specs.Levels.{level_of_lit, count_of_levels}
use Rattle.ring_run.specs.Ended.{Stays, IsOwn, AreNew, AreNewLines, AreTimely, reductions, HoldsGlued, HoldsRecent, IsSeenUnit, opening_of}
use Rattle.ring_run.specs.declared.units.Units.{Units}
use Rattle.ring_run.specs.declared.units.Units.TheVariants.{Opposed, True}

-- What is attached

-- a clause is held at the address
abbrev pub IsHeldBy : PortState → Cref → Type 0
IsHeldBy s c = IsSome (held_at s c.address)

-- the clause stands at one of the addresses, or is a unit that is seen
abbrev pub IsAmong : PortState → List Cref → List Literal → Type 0
IsAmong s cs c = Contains (map (λ (x : Cref). lits_at s x.address) cs) c ⊎ IsSeenUnit s c

-- none of the first is missing
abbrev pub AreMoreClauses : List Cref → List Cref → Type 0
AreMoreClauses cs ds = (c : Cref) → Contains cs c → Contains ds c

-- each clause that the ring learned since it last reduced is attached or seen, and each unit that it added is seen
pub record Remembers (s : PortState) (cs : List Cref) : Type 0 where
  pub lemmas : (c : List Literal) → Contains (recent s.ring s.mine) c → IsAmong s cs c
  pub units : (l : Literal) → adds_unit s.ring s.mine l ≡ true → has s.seen l ≡ true

-- the clauses attached are held, and each start clause, and what the ring learned and took from other rings since its last Reduce
-- entry, is among them or a unit that is seen; nothing has been refused, and no stop is known
pub record HasClauses (s : PortState) (cs : List Cref) : Type 0 where
  pub held : All (IsHeldBy s) cs
  pub starts : (h : Holding) → Contains s.start h → Contains cs (record { address = h.address })
  pub starts_held : HoldsStart s
  pub own : Remembers s cs
  pub taken : (a : ℕ) → Contains s.taken a → Contains cs (record { address = a })
  pub refused : s.refused ≡ None
  pub stop : s.stop ≡ None
  pub port : IsPort s

-- What calls change

-- nothing was learned or offered, no ticket was drawn, no clause of another ring was looked for, and no look for units is forgotten
pub record OffersNothing (old new : PortState) : Type 0 where
  pub shared : new.shared ≡ old.shared
  pub polled : new.polled ≡ old.polled
  pub polls : new.polls ≡ old.polls
  pub polls_after : new.polls_after ≡ old.polls_after
  pub caught_up : min old.caught_up (2 ^ 64 - 1) ≤ new.caught_up
  pub ring : new.ring ≡ old.ring
  pub rings : new.rings ≡ old.rings
  pub depth : new.depth ≡ old.depth
  pub found : new.found ≡ old.found
  pub lemmas : learned new.ring new.mine ≡ learned old.ring old.mine

-- a lemma of this class was offered to each other ring and counted; one without a class was not
abbrev pub HasLentBy : PortState → PortState → Option ℕ → (address exported offered more told : ℕ) → Type 0
HasLentBy old new None address exported offered more told = (new ≡ old) × (more ≡ exported) × (told ≡ offered)
HasLentBy old new (Some class) address exported offered more told =
    Offered old new class address × (more ≡ exported + 1) × (told ≡ min (offered + length (other_rings old)) (2 ^ 64 - 1))

-- the lemma at the address was offered, if it has a class; a unit has no address
abbrev pub HasLent : PortState → PortState → Option Cref → (exported offered more told : ℕ) → Type 0
HasLent old new None exported offered more told = (new ≡ old) × (more ≡ exported) × (told ≡ offered)
HasLent old new (Some c) exported offered more told = HasLentBy old new (class_at old c.address) c.address exported offered more told

-- units may have come, and looks that found no other listed may have been counted, and nothing else was done; the port notes what came, in
-- order, and the units seen are those seen before and those that came; no look is forgotten, as far as these are counted
pub record OnlySaw (old new : PortState) : Type 0 where
  pub stays : Stays old new
  pub shared : new.shared ≡ old.shared
  pub polled : new.polled ≡ old.polled
  pub polls : new.polls ≡ old.polls
  pub polls_after : new.polls_after ≡ old.polls_after
  pub caught_up : min old.caught_up (2 ^ 64 - 1) ≤ new.caught_up
  pub waiting : new.waiting ≡ old.waiting
  pub taken : new.taken ≡ old.taken
  pub held : new.held ≡ old.held
  pub mine : new.mine ≡ old.mine
  pub stop : new.stop ≡ old.stop
  pub refused : new.refused ≡ old.refused
  pub looks : new.looks ≡ old.looks
  pub more : (l : Literal) → has old.seen l ≡ true → has new.seen l ≡ true
  pub came : List Literal
  pub given : new.given ≡ old.given ++ came
  pub sees : (l : Literal) → has new.seen l ≡ (has old.seen l || has came l)
  pub state : new ≡ record old { seen = new.seen; told = new.told; given = new.given; coming = new.coming; kept = new.kept; caught_up = new.caught_up }

-- no call has changed more than what is held and taken, and where, when and how often the ring has polled; what was held still is
pub record OnlyPolled (old new : PortState) : Type 0 where
  pub kept : KeepsHeld old new
  pub state : new ≡ record old { held = new.held; taken = new.taken; polled = new.polled; polls = new.polls; polls_after = new.polls_after }

-- the ring's entries are those from before, and perhaps more after them
abbrev pub HasGrownLog : PortState → PortState → Type 0
HasGrownLog old new = (more : List Entry) × (new.mine ≡ old.mine ++ more)

-- lines may have been written and units seen; nothing was learned, taken, dropped or noted as a reduction
pub record OnlyWrote (old new : PortState) : Type 0 where
  pub recent : recent new.ring new.mine ≡ recent old.ring old.mine
  pub reduced : reductions new.ring new.mine ≡ reductions old.ring old.mine
  pub grown : HasGrownLog old new
  pub stays : Stays old new
  pub taken : new.taken ≡ old.taken
  pub held : new.held ≡ old.held
  pub own : (cs : List Cref) → Remembers old cs → Remembers new cs
  pub stop : new.stop ≡ old.stop
  pub refused : new.refused ≡ old.refused
  pub more : (l : Literal) → has old.seen l ≡ true → has new.seen l ≡ true

-- an entry of this ring that writes the line of a unit
abbrev pub IsLineOfUnit : ℕ → Entry → Type 0
IsLineOfUnit r (Add x) = (x.ring ≡ r) × (x.kind ≡ UnitLine) × (length x.lits ≡ 1)
IsLineOfUnit r (Del q n) = ⊥
IsLineOfUnit r (Reduce q) = ⊥
IsLineOfUnit r (Round x) = ⊥

-- lines of units were written, and nothing else was done; the units seen are those seen before and those whose lines were written; if a
-- line was written, units that others listed meanwhile may be kept, and more looks that found no other listed may be counted
pub record ToldUnits (old new : PortState) : Type 0 where
  pub entries : List Entry
  pub units : All (IsLineOfUnit old.ring) entries
  pub mine : new.mine ≡ old.mine ++ entries
  pub sees : (k : Literal) → has new.seen k ≡ (has old.seen k || adds_unit old.ring entries k)
  pub looked : old.caught_up ≤ new.caught_up
  pub idle : entries ≡ [] → (new.caught_up ≡ old.caught_up) × (new.kept ≡ old.kept)
  pub state : new ≡ record old { seen = new.seen; told = new.told; kept = new.kept; caught_up = new.caught_up; mine = new.mine; output = new.output }

-- one look found no stop, and after it lines of units may have been written
abbrev pub HasTold : PortState → PortState → Type 0
HasTold old new = ToldUnits (record old { looks = one_more old.looks }) new

-- each unit seen is true without a decision
abbrev pub SeenTrue : PortState → List TrailStep → Type 0
SeenTrue s steps = (l : Literal) → has s.seen l ≡ true → TrueWithin steps 0 l

-- each unit of the opening is seen
abbrev pub OpeningSeen : PortState → Type 0
OpeningSeen s = (l : Literal) → has s.opening l ≡ true → has s.seen l ≡ true

-- each unit that the ring added is seen
abbrev pub AddedSeen : PortState → Type 0
AddedSeen s = (l : Literal) → adds_unit s.ring s.mine l ≡ true → has s.seen l ≡ true

-- each unit of the opening is seen, and each that the ring added
pub record UnitsSeen (s : PortState) : Type 0 where
  pub opening : OpeningSeen s
  pub added : (l : Literal) → adds_unit s.ring s.mine l ≡ true → has s.seen l ≡ true

-- each literal at level 0 is one of the first n
abbrev pub AreFirst : TrailData → ℕ → Type 0
AreFirst t n = (p : ℕ) → p < length t.steps → level_at t.steps p ≡ 0 → p < n

-- each literal at level 0 is seen: it was given, or the ring has written its line
abbrev pub FixedSeen : PortState → TrailData → Type 0
FixedSeen s t = (p : ℕ) → p < length t.steps → level_at t.steps p ≡ 0 → has s.seen (lit_at t.steps p) ≡ true

-- the units seen are the literals at level 0
pub record SeesFixed (s : PortState) (t : TrailData) : Type 0 where
  pub each : FixedSeen s t
  pub alone : SeenTrue s t.steps

-- the first n literals are at level 0 and seen; of those after, none that has a reason is seen; above level 0 none of these
-- is at level 0
pub record AreTold (s : PortState) (t : TrailData) (n : ℕ) : Type 0 where
  pub few : n ≤ length t.steps
  pub low : (p : ℕ) → p < n → level_at t.steps p ≡ 0
  pub first : (p : ℕ) → p < n → has s.seen (lit_at t.steps p) ≡ true
  pub rest : (p : ℕ) → n ≤ p → p < length t.steps → IsSome (reason_at t.steps p) → has s.seen (lit_at t.steps p) ≡ false
  pub all : 0 < t.level → AreFirst t n

-- the trail is of the port's variables, its literals have their causes, and what is seen is true
pub record Stands (s : PortState) (t : TrailData) : Type 0 where
  pub vars : t.vars ≡ s.vars
  pub reasoned : IsReasoned (clause_at s) s.seen t.steps
  pub seen : SeenTrue s t.steps

-- a unit that is seen is false, so that the empty clause follows
pub record IsOpposed (s : PortState) (t : TrailData) (unit : Literal) : Type 0 where
  pub reasoned : IsReasoned (clause_at s) s.seen t.steps
  pub seen : has s.seen unit ≡ true
  pub false_there : IsFalseOn t.steps unit
  pub implied : rup (known s) [] ≡ true

-- what is seen is true, the units of the opening among it; or a unit that is seen is false
abbrev pub AreTaken : PortState → TrailData → Units → Type 0
AreTaken s t True = Stands s t × OpeningSeen s
AreTaken s t (Opposed unit) = IsOpposed s t unit

-- a run that began in one state and stands in another, with as many lemmas as are counted: its entries are of their kinds, new and in
-- time, and each start clause is held, and each lemma since the last Reduce entry held or seen
pub record Runs (start s : PortState) (count : ℕ) : Type 0 where
  pub stays : Stays start s
  pub held : HoldsStart s
  pub wrote : All (IsOwn start.ring start.vars) s.mine
  pub counted : count ≡ length (learned s.ring s.mine)
  pub each_new : AreNew s
  pub new_lines : AreNewLines s
  pub timely : AreTimely s
  pub glued : HoldsGlued start s
  pub lately : HoldsRecent s
  pub port : IsPort s

-- no ticket is in hand, the last draw found fewer drawn than there are, and for each lemma one was drawn
pub record CanDraw (s : PortState) (learned : ℕ) : Type 0 where
  pub none : s.ticket ≡ false
  pub left : s.found ≤ s.limit
  pub within : learned ≤ s.found

-- nothing has ended it yet
pub record GoesOn (start s : PortState) (count : ℕ) : Type 0 where
  pub runs : Runs start s count
  pub draws : CanDraw s count
  pub going : list_any is_empty (added s.mine) ≡ false
  pub stop : s.stop ≡ None
  pub refused : s.refused ≡ None
  pub held : HoldsStart s

-- a run that goes on in one state does so in the other, with as many lemmas
abbrev pub KeepsOn : PortState → PortState → Type 0
KeepsOn old new = (start : PortState) (count : ℕ) → GoesOn start old count → GoesOn start new count

-- the clause is new to the port and to the journal
pub record IsNewTo (s : PortState) (c : List Literal) : Type 0 where
  pub unknown : IsFreshClause s c
  pub unlisted : is_new (opening_of s) s.mine s.ring c ≡ true

-- the glue of a lemma is how many levels its literals but the first have
abbrev pub IsGlueOf : List TrailStep → List Literal → ℕ → Type 0
IsGlueOf steps lits glue = glue ≡ count_of_levels steps (drop 1 lits)

-- what is held was held before, or has the glue that its literals have on this trail
abbrev pub HoldsByGlue : PortState → PortState → List TrailStep → Type 0
HoldsByGlue old new steps = (h : Holding) → Contains new.held h → Contains old.held h ⊎ IsGlueOf steps h.lits h.glue

-- a new clause that follows and, after going back, leaves its first literal the only one that isn't false; below that level
-- it asks for nothing
pub record IsAsserting (s : PortState) (t : TrailData) (lits : List Literal) (back : ℕ) : Type 0 where
  pub first : Literal
  pub rest : List Literal
  pub parts : lits ≡ first ∷ rest
  pub implied : rup (known s) lits ≡ true
  pub clause : IsClause t.vars lits
  pub first_false : IsFalseOn t.steps first
  pub ahead : back < level_of_lit t.steps first
  pub behind : (k : Literal) → has rest k ≡ true → IsFalseOn t.steps k × (level_of_lit t.steps k ≤ back)
  pub of_unit : rest ≡ [] → back ≡ 0
  pub closed : (k : ℕ) → k < back → IsClosedClause lits t.steps k
  pub is_new_to : IsNewTo s lits
