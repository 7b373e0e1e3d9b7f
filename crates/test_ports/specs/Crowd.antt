-- The port of the tests: the second of three rings, over what a port in memory holds.
use Rattle.std.specs.Prelude.{◌≡◌, ℕ, ◌-◌, [], ◌∷◌, ◌++◌, false, List, map, length, take, Option, Some, None}
use Rattle.sat_words.specs.declared.shared.Cref.{Cref}
use Rattle.sat_words.specs.declared.shared.Stop.{Stop}
use Rattle.ring_port.specs.declared.stops.PortStop.{PortStop}
use Rattle.ring_port.specs.PortState.{Holding, PortState, Slot}
use Rattle.test_ports.specs.declared.crowd.Poll.{Poll}
use Rattle.test_ports.specs.declared.crowd.Tickets.{Tickets}

-- all but the last
abbrev pub front : List Holding → List Holding
front hs = take (length hs - 1) hs

-- what it holds: the last clause of the port in memory is another ring's until it is taken
abbrev pub held_of : List Holding → Option Cref → List Holding
held_of hs None = front hs
held_of hs (Some c) = hs

-- what it has taken
abbrev pub taken_of : Option Cref → List ℕ
taken_of None = []
taken_of (Some c) = c.address ∷ []

-- how often it was polled and for which slots, how often no unit was left before each of these polls, and how often until now; the
-- tickets
pub record Asked : Type 0 where
  pub polled : ℕ
  pub polls : List Slot
  pub polls_after : List ℕ
  pub caught_up : ℕ
  pub tickets : Tickets

-- the slot that a poll looks into
abbrev pub slot_of : Poll → Slot
slot_of p = record { ring = p.from; class = p.class; place = p.place }

-- how often no unit was left before a poll
abbrev pub looks_before : Poll → ℕ
looks_before p = p.caught_up

-- what is asked of the other rings at this number of polls
abbrev pub asked : ℕ → List Poll → ℕ → Tickets → Asked
asked polled ps caught_up tickets = record { polled = polled; polls = map slot_of ps; polls_after = map looks_before ps; caught_up = caught_up; tickets = tickets }

-- so many tickets, none of which is drawn
abbrev pub all_left : ℕ → Tickets
all_left limit = record { in_hand = false; found = 0; limit = limit }

-- it starts with all clauses of the port in memory but the last, has no units and writes nothing; the other rings have nothing
-- for it but this last one; each two rings have two slots for each class
abbrev pub crowd_of : PortState → Option Cref → Option Stop → ℕ → Option PortStop → Asked → PortState
crowd_of s taken stop looks refused q = record {
  held = held_of s.held taken;
  waiting = [];
  seen = [];
  told = [];
  given = [];
  coming = 0;
  kept = 0;
  caught_up = q.caught_up;
  start = front s.start;
  opening = [];
  mine = [];
  shared = 0;
  polled = q.polled;
  polls = q.polls;
  polls_after = q.polls_after;
  puts = [];
  taken = taken_of taken;
  vars = s.vars;
  ring = 1;
  rings = 3;
  depth = 2;
  last = None;
  ticket = q.tickets.in_hand;
  found = q.tickets.found;
  limit = q.tickets.limit;
  stop = stop;
  looks = looks;
  refused = refused;
  ended = false;
  hinted = false;
  output = None;
  home = [];
}

-- this is the address of the last clause that the port in memory holds
pub record IsLast (s : PortState) (a : ℕ) : Type 0 where
  pub clause : Holding
  pub there : s.held ≡ front s.held ++ clause ∷ []
  pub address : clause.address ≡ a
