-- What each call of a port does, from the state before it to the state after it.
use Rattle.std.specs.Prelude.{◌≡◌, ◌≢◌, ℕ, ◌<◌, ◌≤◌, ◌-◌, ◌==◌, ◌||◌, Bool, true, false, List, [], ◌∷◌, ◌++◌, map, length, All, Option, Some, None, IsSome, Result, Ok, Err, MatchOption, not, ⊤}
use Rattle.std.specs.List.{list_any}
use Rattle.sat_words.specs.Literal.{Literal, same}
use Rattle.sat_words.specs.Clause.{has, includes, distinct_lits, has_opposites}
use Rattle.sat_words.specs.declared.shared.Cref.{Cref}
use Rattle.sat_words.specs.declared.shared.Stop.{Stop}
use Rattle.rup_model.specs.Hints.{numbered, HintsFit}
use Rattle.rup_model.specs.Journal.{fresh}
use Rattle.rup_model.specs.declared.journal.Kind.{Kind}
use Rattle.rup_model.specs.declared.journal.Kind.TheVariants.{Ruler, Learn, Derive, UnitLine}
use Rattle.rup_model.specs.declared.journal.Entry.{Entry}
use Rattle.rup_model.specs.declared.journal.Entry.TheVariants.{Add}
use Rattle.ring_port.specs.declared.stops.PortStop.{PortStop}
use Rattle.ring_port.specs.declared.stops.PortStop.TheVariants.{Ended, Broken, ProofFault, NoHole, Memory}
use Rattle.sat_words.specs.declared.shared.Set.{Set}
use Rattle.sat_words.specs.declared.shared.Set.TheVariants.{Won, Lost}
use Rattle.drat_text.specs.LineState.{LineState}
use Rattle.ring_port.specs.PortState.{Holding, PortState, IsOn, held_at, known_at, lits_at, one_more}

-- What the calls ask for

-- the writing of a line has not failed yet
abbrev pub is_fault : PortStop → Bool
is_fault Ended = false
is_fault Broken = true
is_fault ProofFault = true
is_fault (NoHole lack) = false
is_fault Memory = false

-- no line has failed, as far as the port knows
abbrev pub is_usable : Option PortStop → Bool
is_usable None = true
is_usable (Some stop) = not (is_fault stop)

-- literals on the variables, without repeats or opposites
pub record IsClause (vars : ℕ) (c : List Literal) : Type 0 where
  pub on : All (IsOn vars) c
  pub distinct : distinct_lits c ≡ true
  pub no_opposites : has_opposites c ≡ false

-- the start clauses, as lists of literals
abbrev pub start_lits : PortState → List (List Literal)
start_lits s = map (λ h. h.lits) s.start

-- the clause contains no start clause, none that the ring learned since its last Reduce entry, and none that it has taken
-- from another ring since then
pub record IsFreshClause (s : PortState) (c : List Literal) : Type 0 where
  pub own : fresh (start_lits s) s.mine s.ring c ≡ true
  pub others : All (λ a. includes c (lits_at s a) ≡ false) s.taken

-- Hints

-- hints show that the clause follows from what the port knows, if the log has hints; else there are none
abbrev pub AreHints : PortState → List Literal → List ℕ → Type 0
AreHints s c hints = HintsFit s.hinted (numbered (known_at s)) c hints

-- Refusals

-- the port after an answer that refuses, and its output after a fault: the answer is noted, and that the log is ended if
-- it says so; want of memory leaves no trace
abbrev pub after_refusal : PortState → Option LineState → PortStop → PortState
after_refusal s output Ended = record s { refused = Some Ended; ended = true }
after_refusal s output Broken = record s { refused = Some Broken }
after_refusal s output ProofFault = record s { refused = Some ProofFault; output = output }
after_refusal s output (NoHole lack) = record s { refused = Some (NoHole lack) }
after_refusal s output Memory = s

-- a log that is ended is answered before anything else, except for want of memory; another ring has broken the log, since a ring
-- whose own write failed writes no more; there is no hole if more is needed than the largest has
abbrev pub HasReason : PortState → PortStop → Type 0
HasReason s Ended = ⊤
HasReason s Broken = (s.ended ≡ false) × (2 ≤ s.rings)
HasReason s ProofFault = s.ended ≡ false
HasReason s (NoHole lack) = (s.ended ≡ false) × (lack.largest < lack.need)
HasReason s Memory = ⊤

-- a call that writes was refused, and did nothing else
pub record Refused (old new : PortState) (stop : PortStop) : Type 0 where
  pub reason : HasReason old stop
  pub state : new ≡ after_refusal old new.output stop

-- Lines

-- the ring's entry that adds the clause
abbrev pub entry_of : PortState → ℕ → List Literal → Kind → List ℕ → Entry
entry_of s number lits kind hints = Add (record { ring = s.ring; number = number; lits = lits; kind = kind; hints = hints })

-- the ring's last entry adds a clause with these hints
abbrev pub EndsWith : PortState → List ℕ → Type 0
EndsWith s hints = (before : List Entry) × (number : ℕ) × (lits : List Literal) × (kind : Kind) × (s.mine ≡ before ++ entry_of s number lits kind hints ∷ [])

-- no clause is held at the address, or waits there
pub record IsFreeAddress (s : PortState) (a : ℕ) : Type 0 where
  pub not_held : held_at s a ≡ None
  pub not_waiting : list_any (λ h. h.address == a) s.waiting ≡ false

-- the units are those seen before, and this one
abbrev pub Sees : List Literal → List Literal → Literal → Type 0
Sees old new l = (k : Literal) → has new k ≡ (has old k || same l k)

-- the clause as it is held once it is learned
abbrev pub holding_of : Cref → ℕ → ℕ → List Literal → Holding
holding_of c number glue lits = record { address = c.address; number = number; glue = glue; lits = lits }

-- the address of the clause learned last, once one was added
abbrev pub last_after : Kind → Option ℕ → ℕ → Option ℕ
last_after Ruler last a = last
last_after Learn last a = Some a
last_after Derive last a = last
last_after UnitLine last a = last

-- whether a ticket is in hand after a clause of this kind was added: learning uses it up
abbrev pub ticket_after : Kind → Bool → Bool
ticket_after Ruler ticket = ticket
ticket_after Learn ticket = false
ticket_after Derive ticket = ticket
ticket_after UnitLine ticket = ticket

-- the line of a clause of two literals or more was added: it is held at an address that was free, under the number of its
-- line; what was learned is the one learned last, and uses the ticket up
pub record AddedClause (old new : PortState) (lits : List Literal) (glue : ℕ) (kind : Kind) (c : Cref) : Type 0 where
  pub number : ℕ
  pub hints : List ℕ
  pub going : old.ended ≡ false
  pub long : 2 ≤ length lits
  pub free : IsFreeAddress old c.address
  pub there : held_at new c.address ≡ Some (holding_of c number glue lits)
  pub state : new ≡ record old {
    held = old.held ++ holding_of c number glue lits ∷ [];
    mine = old.mine ++ entry_of old number lits kind hints ∷ [];
    last = last_after kind old.last c.address;
    ticket = ticket_after kind old.ticket;
    output = new.output;
  }

-- a clause was learned, and is the one learned last
abbrev pub LearnedClause : PortState → PortState → List Literal → ℕ → Cref → Type 0
LearnedClause old new lits glue c = AddedClause old new lits glue Learn c

-- the line of a unit was added, and the unit is seen; what was learned uses the ticket up; a clause that was learned before it may
-- still be offered, or not; units that others listed meanwhile may be kept
pub record WroteUnit (old new : PortState) (l : Literal) (kind : Kind) (last : Option ℕ) : Type 0 where
  pub number : ℕ
  pub hints : List ℕ
  pub going : old.ended ≡ false
  pub sees : Sees old.seen new.seen l
  pub looked : old.caught_up ≤ new.caught_up
  pub state : new ≡ record old {
    seen = new.seen;
    told = new.told;
    kept = new.kept;
    caught_up = new.caught_up;
    mine = old.mine ++ entry_of old number (l ∷ []) kind hints ∷ [];
    last = last;
    ticket = ticket_after kind old.ticket;
    output = new.output;
  }

-- a unit was learned
pub record LearnedUnit (old new : PortState) (lits : List Literal) : Type 0 where
  pub lit : Literal
  pub unit : lits ≡ lit ∷ []
  pub wrote : WroteUnit old new lit Learn None

-- what `learn` did: a clause is held from then on; a unit is seen
abbrev pub Learned : PortState → PortState → List Literal → ℕ → Result (Option Cref) PortStop → Type 0
Learned old new lits glue (Ok None) = LearnedUnit old new lits
Learned old new lits glue (Ok (Some c)) = LearnedClause old new lits glue c
Learned old new lits glue (Err stop) = Refused old new stop

-- what is held stays held
abbrev pub KeepsHeld : PortState → PortState → Type 0
KeepsHeld old new = (a : ℕ) → IsSome (held_at old a) → held_at new a ≡ held_at old a

-- what a call that writes the line of a unit did
abbrev pub UnitPut : PortState → PortState → Literal → Kind → Option ℕ → Result (Unit {0}) PortStop → Type 0
UnitPut old new l kind last (Ok done) = WroteUnit old new l kind last
UnitPut old new l kind last (Err stop) = Refused old new stop

-- what a call that writes the line of a longer clause did
abbrev pub ClausePut : PortState → PortState → List Literal → ℕ → Kind → Result Cref PortStop → Type 0
ClausePut old new lits glue kind (Ok c) = AddedClause old new lits glue kind c
ClausePut old new lits glue kind (Err stop) = Refused old new stop

-- what `derive` did: a clause is held from then on
abbrev pub Derived : PortState → PortState → List Literal → ℕ → Result Cref PortStop → Type 0
Derived old new lits glue result = ClausePut old new lits glue Derive result

-- the clause is a part of one that is held
pub record IsPartOfHeld (s : PortState) (c : List Literal) : Type 0 where
  pub address : ℕ
  pub held : IsSome (held_at s address)
  pub part : includes (lits_at s address) c ≡ true

-- what `unit` did
abbrev pub UnitWritten : PortState → PortState → Literal → Result (Unit {0}) PortStop → Type 0
UnitWritten old new l (Ok done) = WroteUnit old new l UnitLine old.last
UnitWritten old new l (Err stop) = Refused old new stop

-- the empty clause was added, and the log is ended
pub record EndedLog (old new : PortState) : Type 0 where
  pub number : ℕ
  pub hints : List ℕ
  pub going : old.ended ≡ false
  pub state : new ≡ record old {
    mine = old.mine ++ entry_of old number [] Derive hints ∷ [];
    ended = true;
    output = new.output;
  }

-- what `empty` did
abbrev pub EmptyWritten : PortState → PortState → Result (Unit {0}) PortStop → Type 0
EmptyWritten old new (Ok done) = EndedLog old new
EmptyWritten old new (Err stop) = Refused old new stop

-- Units and stops

-- the unit was not seen before and is now, and one fewer may come; if some were kept it is one of them
pub record TookUnit (old new : PortState) (l : Literal) : Type 0 where
  pub fresh : has old.seen l ≡ false
  pub sees : Sees old.seen new.seen l
  pub fewer : new.coming < old.coming
  pub state : new ≡ record old { seen = new.seen; told = new.told; given = old.given ++ l ∷ []; coming = new.coming; kept = old.kept - 1 }

-- none is left: none was kept, a look found that no other is listed, and every unit of the opening is seen
pub record TookNone (old new : PortState) : Type 0 where
  pub all : (l : Literal) → has old.opening l ≡ true → has old.seen l ≡ true
  pub none_kept : old.kept ≡ 0
  pub state : new ≡ record old { caught_up = one_more old.caught_up }

-- what `next_unit` did
abbrev pub Took : PortState → PortState → Option Literal → Type 0
Took old new None = TookNone old new
Took old new (Some l) = TookUnit old new l

-- the stop is the one seen before; if none was seen it is another ring's
abbrev pub Stands : PortState → Stop → Type 0
Stands old x = MatchOption old.stop (x.ring ≢ old.ring) (λ y. x ≡ y)

-- what `stopped` saw; a look that found none is counted
abbrev pub Looked : PortState → PortState → Option Stop → Type 0
Looked old new None = (old.stop ≡ None) × (new ≡ record old { looks = one_more old.looks })
Looked old new (Some x) = Stands old x × (new ≡ record old { stop = Some x })

-- what `stop` did: the ring's stop stands if none stood; else it answers the one that stands
abbrev pub SetStop : PortState → PortState → ℕ → Set → Type 0
SetStop old new kind Won = (old.stop ≡ None) × (new ≡ record old { stop = Some (record { kind = kind; ring = old.ring }) })
SetStop old new kind (Lost x) = Stands old x × (new ≡ record old { stop = Some x })
