-- What is known of a ring's port: what the ring holds and has seen, what it wrote, and how its search began.
use Rattle.std.specs.Prelude.{◌≡◌, ◌≢◌, ⊤, ℕ, ◌+◌, ◌-◌, ◌^◌, ◌<◌, ◌≤◌, ◌==◌, min, Bool, true, List, [], ◌∷◌, ◌++◌, map, length, find, All, Contains, Option, Some, None, IfSome, IsSome}
use Rattle.std.specs.Option.{option_map, option_map_or}
use Rattle.sat_words.specs.Literal.{Literal}
pub use Rattle.sat_words.specs.Literal.{IsOn}
use Rattle.sat_words.specs.Clause.{has}
use Rattle.sat_words.specs.declared.shared.Head.{Head}
use Rattle.sat_words.specs.declared.shared.Stop.{Stop}
use Rattle.rup_model.specs.declared.journal.Entry.{Entry}
use Rattle.sat_words.specs.declared.shared.TheConstants.{STOP_SAT, STOP_MEMORY}
use Rattle.rup_model.specs.Hints.{numbered}
use Rattle.rup_model.specs.Opening.{IsLong}
use Rattle.drat_text.specs.LineState.{LineState}
use Rattle.ring_port.specs.declared.stops.PortStop.{PortStop}

-- a clause that is held: its address, its number in the log, its glue and its literals in their order
pub record Holding : Type 0 where
  pub address : ℕ
  pub number : ℕ
  pub glue : ℕ
  pub lits : List Literal

-- a clause that was put if another ring may get it: for which ring, in which class, at which place of the slots that the two rings
-- have for the class, and its address
pub record Offer : Type 0 where
  pub ring : ℕ
  pub class : ℕ
  pub place : ℕ
  pub address : ℕ

-- if another ring may have put a clause for this one: the other ring, the class, and the place among their slots for the class
pub record Slot : Type 0 where
  pub ring : ℕ
  pub class : ℕ
  pub place : ℕ

-- what a ring knows of the outside, and what it did there
pub record PortState : Type 0 where
  -- the clauses held, each as often as it is held
  pub held : List Holding
  -- the clauses that are held no longer, and are to be deleted
  pub waiting : List Holding
  -- the units that `next_unit` gave or the port wrote
  pub seen : List Literal
  -- in a log with hints, the units that the port knows, those seen among them, each with the number of its clause
  pub told : List (Literal × ℕ)
  -- those that `next_unit` gave, in order
  pub given : List Literal
  -- how many units `next_unit` may yet give
  pub coming : ℕ
  -- how many units came with others before they were asked for, and are yet to be given
  pub kept : ℕ
  -- how often `next_unit` looked whether more units are listed than it had given or kept, and found that there are none
  pub caught_up : ℕ
  -- the start clauses at their addresses, with glue 0
  pub start : List Holding
  -- the units that are listed from the start
  pub opening : List Literal
  -- the ring's journal entries, in order
  pub mine : List Entry
  -- how often the ring has shared a clause
  pub shared : ℕ
  -- how often it has looked for a clause of another ring, up to the last count of 64 bits
  pub polled : ℕ
  -- if it looked each time, in order
  pub polls : List Slot
  -- at each of these polls, how often `next_unit` had found until then that no other unit is listed
  pub polls_after : List ℕ
  -- what it has put for other rings, in order
  pub puts : List Offer
  -- the addresses that it has taken from other rings since its last Reduce entry
  pub taken : List ℕ
  -- every literal is on a variable from 1 to this one
  pub vars : ℕ
  -- this ring's number
  pub ring : ℕ
  -- how many rings there are
  pub rings : ℕ
  -- how many slots each two rings have for each class
  pub depth : ℕ
  -- the address of the clause that was learned last, until it is offered
  pub last : Option ℕ
  -- a ticket is in hand, with which one lemma may be learned
  pub ticket : Bool
  -- 0 at first; after a draw, one more than the number of tickets that had been drawn before it, by any ring
  pub found : ℕ
  -- how many tickets there are
  pub limit : ℕ
  -- the stop that was seen or set
  pub stop : Option Stop
  -- how often the ring has looked for a stop and found none
  pub looks : ℕ
  -- the last answer that refused, except for want of memory
  pub refused : Option PortStop
  -- the empty clause stands in the log
  pub ended : Bool
  -- additions to the log have hints
  pub hinted : Bool
  -- its line output, if the port has one of its own
  pub output : Option LineState
  -- the name of what the port stands on, if rings share something
  pub home : List ℕ

-- Looking up

-- the clause held at an address
unfoldable pub held_at : PortState → ℕ → Option Holding
held_at s a = find (λ h. h.address == a) s.held

-- the literals of a clause, if there is one
abbrev pub lits_in : Option Holding → List Literal
lits_in h = option_map_or (λ k. k.lits) h []

-- the literals of the clause at an address; none if no clause is held there
abbrev pub lits_at : PortState → ℕ → List Literal
lits_at s a = lits_in (held_at s a)

-- the literals of the clause at an address, if one is held there
abbrev pub clause_at : PortState → ℕ → Option (List Literal)
clause_at s a = option_map (λ h. h.lits) (held_at s a)

-- one more, unless it is the last count of 64 bits
abbrev pub one_more : ℕ → ℕ
one_more n = min (n + 1) (2 ^ 64 - 1)

-- what stands before the literals of a clause that is held
abbrev pub head_of : Holding → Head
head_of h = record { size = length h.lits; glue = h.glue; number = h.number }

-- the clauses that propagation may use: those held, and the units seen
unfoldable pub known : PortState → List (List Literal)
known s = map (λ h. h.lits) s.held ++ map (λ l. l ∷ []) s.seen

-- the clauses that hints may name: those held and the units, each with its number
abbrev pub known_at : PortState → List (ℕ × List Literal)
known_at s = map (λ h. (h.number, h.lits)) s.held ++ map (λ u. (u.1, u.0 ∷ [])) s.told

-- What is kept of every port

-- two literals or more without repeats or opposites, on the variables
pub record IsKept (vars : ℕ) (h : Holding) : Type 0 where
  pub shape : IsLong h.lits
  pub on : All (IsOn vars) h.lits

-- of one of the five kinds, by one of the rings
pub record IsStop (rings : ℕ) (x : Stop) : Type 0 where
  pub low : STOP_SAT ≤ x.kind
  pub high : x.kind ≤ STOP_MEMORY
  pub of_ring : x.ring < rings

-- no two of the clauses are at the same address
abbrev pub AreApart : List Holding → Type 0
AreApart [] = ⊤
AreApart (h ∷ hs) = All (λ k. k.address ≢ h.address) hs × AreApart hs

-- each number names the one clause that has it, and each unit that is seen has a number
pub record AreNumbered (s : PortState) : Type 0 where
  pub held : All (λ h. numbered (known_at s) h.number ≡ Some h.lits) s.held
  pub told : All (λ u. numbered (known_at s) u.1 ≡ Some (u.0 ∷ [])) s.told
  pub seen : All (λ l. (n : ℕ) × Contains s.told (l, n)) s.seen

-- each clause held or waiting is long and on the variables; an address has one clause, however often it is held, and none
-- is both held and waiting, or waits twice; what was taken is held, and what was given is seen; start clauses and units are on the
-- variables; the stop is one of the rings'; each two rings have a slot for each class; the number of tickets fits into 64 bits; if the log
-- has hints, clauses can be named by their numbers
pub record IsPort (s : PortState) : Type 0 where
  pub held : All (IsKept s.vars) s.held
  pub one : (h k : Holding) → Contains s.held h → Contains s.held k → h.address ≡ k.address → h ≡ k
  pub waiting : All (IsKept s.vars) s.waiting
  pub apart : All (λ h. held_at s h.address ≡ None) s.waiting
  pub once : AreApart s.waiting
  pub taken : All (λ a. IsSome (held_at s a)) s.taken
  pub given : All (λ l. has s.seen l ≡ true) s.given
  pub start : All (IsKept s.vars) s.start
  pub seen : All (IsOn s.vars) s.seen
  pub opening : All (IsOn s.vars) s.opening
  pub stop : IfSome s.stop (IsStop s.rings)
  pub ring : s.ring < s.rings
  pub deep : 1 ≤ s.depth
  pub few : s.limit < 2 ^ 64
  pub named : s.hinted ≡ true → AreNumbered s

-- The opening

-- each start clause is held at its address
abbrev pub HoldsStart : PortState → Type 0
HoldsStart s = All (λ h. held_at s h.address ≡ Some h) s.start
