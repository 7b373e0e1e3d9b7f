-- What a port in memory has, and what is kept of it.
use Rattle.std.specs.Prelude.{◌≡◌, ℕ, ◌+◌, ◌-◌, ◌^◌, ◌<◌, ◌≤◌, ◌==◌, Bool, true, false, List, [], ◌∷◌, ◌++◌, map, length, take, find, All, Contains, Option, Some, None, IfSome, Result, Ok, Err, ⊤}
use Rattle.std.specs.Option.{option_map}
use Rattle.sat_words.specs.Literal.{Literal}
use Rattle.sat_words.specs.Clause.{has, distinct_lits}
use Rattle.sat_words.specs.Formats.{has_hints}
use Rattle.sat_words.specs.declared.shared.Cref.{Cref}
use Rattle.sat_words.specs.declared.shared.Stop.{Stop}
use Rattle.sat_words.specs.declared.shared.TheConstants.{STOP_SAT, STOP_MEMORY}
use Rattle.rup_model.specs.declared.journal.Entry.{Entry}
use Rattle.rup_model.specs.Journal.{Book, book, lines}
use Rattle.rup_model.specs.Opening.{Start, IsOpening}
use Rattle.io_edge.specs.Causes.{Rose}
use Rattle.sat_words.specs.declared.shared.TheConstants.{MAX_ENTRIES}
use Rattle.drat_text.specs.LineState.{LineState}
use Rattle.ring_port.specs.declared.draw.Tickets.{Tickets}
use Rattle.ring_port.specs.declared.stops.PortStop.{PortStop}
use Rattle.ring_port.specs.declared.stops.PortStop.TheVariants.{Ended, Broken, ProofFault, NoHole, Memory}
use Rattle.ring_port.specs.PortState.{Holding, PortState, AreApart, IsKept, IsOn}
use Rattle.ring_port.specs.OwnLog.{LogData}
use Rattle.clause_cell.specs.Packing.{words_for}
use Rattle.ring_port.specs.Store.{StoreData}

-- the start clauses; those that are held; those that wait, in order; the units of the opening, and how many of
-- them were given, or written before it came to them; the units given, and for how many more there is room; the units
-- written; whether additions have hints; in a log with hints the units of the opening and those written, with the numbers of their
-- clauses; the log; the clause learned last; the tickets; the stop, and how often none was found; how often no unit was left
pub record PlainData : Type 0 where
  pub vars : ℕ
  pub start : List Holding
  pub held : List Holding
  pub waiting : List Holding
  pub opening : List Literal
  pub passed : ℕ
  pub given : List Literal
  pub given_room : ℕ
  pub written : List Literal
  pub hinted : Bool
  pub told : List (Literal × ℕ)
  pub log : LogData
  pub last : Option Cref
  pub tickets : Tickets
  pub stop : Option Stop
  pub looks : ℕ
  pub caught_up : ℕ

-- the port of ring 0, of 1 ring, which has no other to have slots with: their number is the least
abbrev pub state_of : PlainData → PortState
state_of p = record {
  held = p.held;
  waiting = p.waiting;
  seen = take p.passed p.opening ++ p.written;
  told = p.told;
  given = p.given;
  coming = length p.opening - p.passed;
  kept = 0;
  caught_up = p.caught_up;
  start = p.start;
  opening = p.opening;
  mine = p.log.mine;
  shared = 0;
  polled = 0;
  polls = [];
  polls_after = [];
  puts = [];
  taken = [];
  vars = p.vars;
  ring = 0;
  rings = 1;
  depth = 1;
  last = option_map (λ c. c.address) p.last;
  ticket = p.tickets.in_hand;
  found = p.tickets.found;
  limit = p.tickets.limit;
  stop = p.stop;
  looks = p.looks;
  refused = p.log.refused;
  ended = p.log.ended;
  hinted = p.hinted;
  output = Some p.log.output;
  home = [];
}

-- the clauses, each with its number
abbrev pub pairs_of : List Holding → List (ℕ × List Literal)
pairs_of hs = map (λ (h : Holding). (h.number, h.lits)) hs

-- of one of the five kinds, by ring 0
pub record IsOwnStop (x : Stop) : Type 0 where
  pub low : STOP_SAT ≤ x.kind
  pub high : x.kind ≤ STOP_MEMORY
  pub own : x.ring ≡ 0

-- no number of these clauses is greater than the last one given, and those with one number are one clause
pub record AreNamed (last : ℕ) (cs : List (ℕ × List Literal)) : Type 0 where
  pub given : All (λ c. c.0 ≤ last) cs
  pub one : (n : ℕ) (c d : List Literal) → Contains cs (n, c) → Contains cs (n, d) → c ≡ d

-- the units as clauses, each with its number
abbrev pub unit_pairs : List (Literal × ℕ) → List (ℕ × List Literal)
unit_pairs us = map (λ u. (u.1, u.0 ∷ [])) us

-- the unit has a number
abbrev pub HasNumber : List (Literal × ℕ) → Literal → Type 0
HasNumber told l = (n : ℕ) × Contains told (l, n)

-- in a log with hints the clauses held and the units can be named, and units listed or written have numbers
pub record HasNumbers (last : ℕ) (held : List Holding) (told : List (Literal × ℕ)) (opening written : List Literal) : Type 0 where
  pub named : AreNamed last (pairs_of held ++ unit_pairs told)
  pub listed : All (HasNumber told) opening
  pub wrote : All (HasNumber told) written

-- what is kept of the port: no address has two of the clauses that are held and that wait; the number of tickets fits into 64 bits
pub record IsPlain (p : PlainData) : Type 0 where
  pub held : All (IsKept p.vars) p.held
  pub waiting : All (IsKept p.vars) p.waiting
  pub start : All (IsKept p.vars) p.start
  pub apart : AreApart p.held
  pub dropped : All (λ h. find (λ k. k.address == h.address) p.held ≡ None) p.waiting
  pub once : AreApart p.waiting
  pub opening : All (IsOn p.vars) p.opening
  pub distinct : distinct_lits p.opening ≡ true
  pub passed : p.passed ≤ length p.opening
  pub given : All (λ l. has (take p.passed p.opening) l ≡ true) p.given
  pub given_room : length p.opening ≤ p.passed + p.given_room
  pub written : All (IsOn p.vars) p.written
  pub stop : IfSome p.stop IsOwnStop
  pub few : p.tickets.limit < 2 ^ 64
  pub numbers : p.hinted ≡ true → HasNumbers p.log.output.last p.held p.told p.opening p.written

-- what is known of a port in memory: its state, and how often the head or a literal of a clause was read
pub record PlainView : Type 0 where
  pub state : PortState
  pub loads : ℕ

-- How it begins

-- the start clauses, each with its number
abbrev pub starts_of : List (ℕ × List Literal) → List Start
starts_of ss = map (λ s. record { number = s.0; lits = s.1 }) ss

-- the start clauses, one after the other from word a on
abbrev pub placed_from : ℕ → List (ℕ × List Literal) → List Holding
placed_from a [] = []
placed_from a (s ∷ ss) = record { address = a; number = s.0; glue = 0; lits = s.1 } ∷ placed_from (a + words_for (length s.1)) ss

-- how many words they take
abbrev pub words_of : List (ℕ × List Literal) → ℕ
words_of [] = 0
words_of (s ∷ ss) = words_for (length s.1) + words_of ss

-- the clauses of a store are start clauses with glue 0, one after the other in all of its words, and none was dropped
pub record AreAllHeld (store : StoreData) : Type 0 where
  pub placed : store.start ≡ placed_from 0 (pairs_of store.start)
  pub held : store.held ≡ store.start
  pub none_waits : store.waiting ≡ []
  pub end : store.end ≡ words_of (pairs_of store.start)

-- the units that are listed from the start, without the numbers of their clauses
abbrev pub unit_lits : List (Literal × ℕ) → List Literal
unit_lits us = map (λ u. u.0) us

-- the units with their numbers, if additions have hints; else none
abbrev pub told_in : Bool → List (Literal × ℕ) → List (Literal × ℕ)
told_in true units = units
told_in false units = []

-- the port holds the start clauses, and nothing has happened yet
abbrev pub begun_with : ℕ → List (ℕ × List Literal) → List (Literal × ℕ) → LineState → ℕ → PortState
begun_with vars starts units output limit = record {
  held = placed_from 0 starts;
  waiting = [];
  seen = [];
  told = told_in (has_hints output.format) units;
  given = [];
  coming = length (unit_lits units);
  kept = 0;
  caught_up = 0;
  start = placed_from 0 starts;
  opening = unit_lits units;
  mine = [];
  shared = 0;
  polled = 0;
  polls = [];
  polls_after = [];
  puts = [];
  taken = [];
  vars = vars;
  ring = 0;
  rings = 1;
  depth = 1;
  last = None;
  ticket = false;
  found = 0;
  limit = limit;
  stop = None;
  looks = 0;
  refused = None;
  ended = false;
  hinted = has_hints output.format;
  output = Some output;
  home = [];
}

-- the output has the lines of this journal
pub record CountsLines (clauses : List (List Literal)) (journal : List Entry) (output : LineState) : Type 0 where
  pub entries : output.entries ≡ length (lines clauses journal)
  pub last : (book clauses journal).next ≡ output.last + 1

-- each unit has the number of a clause that is this unit
abbrev pub ArePaired : Book → List (Literal × ℕ) → Type 0
ArePaired b units = All (λ u. b.clause u.1 ≡ Some (u.0 ∷ [])) units

-- the ruler left this journal, whose lines the output has; the start clauses and the units open the search over it; in a log with
-- hints the units have the numbers of their clauses
pub record OpensOver (clauses : List (List Literal)) (starts : List Start) (units : List (Literal × ℕ)) (output : LineState) (journal : List Entry) : Type 0 where
  pub opens : IsOpening clauses (record { journal = journal; starts = starts; units = unit_lits units })
  pub lines : CountsLines clauses journal output
  pub paired : has_hints output.format ≡ true → ArePaired (book clauses journal) units

-- over some formula and some journal that the ruler left
pub record CanOpen (starts : List Start) (units : List (Literal × ℕ)) (output : LineState) : Type 0 where
  pub clauses : List (List Literal)
  pub journal : List Entry
  pub over : OpensOver clauses starts units output journal

-- once a unit is written under this number
abbrev pub told_with : Bool → List (Literal × ℕ) → Literal → ℕ → List (Literal × ℕ)
told_with true told l n = told ++ (l, n) ∷ []
told_with false told l n = told

-- Answers

-- how often the output has failed
abbrev pub faults_of : PortState → Option ℕ
faults_of s = option_map (λ (out : LineState). out.faults) s.output

-- the output has failed since
abbrev pub HasFailedSince : Option LineState → Option LineState → Type 0
HasFailedSince (Some a) (Some b) = Rose a.faults b.faults
HasFailedSince (Some a) None = ⊥
HasFailedSince None b = ⊥

-- the output has failed since, though one more entry could stand
abbrev pub FaultRose : Option LineState → Option LineState → Type 0
FaultRose (Some a) (Some b) = Rose a.faults b.faults × (a.entries < MAX_ENTRIES)
FaultRose (Some a) None = ⊥
FaultRose None b = ⊥

-- as many entries stand as can
abbrev pub HasNoRoom : Option LineState → Type 0
HasNoRoom None = ⊥
HasNoRoom (Some a) = a.entries ≡ MAX_ENTRIES

-- one more entry could stand
abbrev pub HasRoom : Option LineState → Type 0
HasRoom None = ⊥
HasRoom (Some a) = a.entries < MAX_ENTRIES

-- why a call that writes answers as it does: a line needs room for an entry and an output that does not fail; the log was ended;
-- the output failed; there is no room for an entry; memory ran out
abbrev pub HasCauseAlone : {T : Type 0} → PortState → PortState → Result T PortStop → Type 0
HasCauseAlone old new (Ok x) = HasRoom old.output × (faults_of new ≡ faults_of old)
HasCauseAlone old new (Err Ended) = old.ended ≡ true
HasCauseAlone old new (Err Broken) = ⊥
HasCauseAlone old new (Err ProofFault) = FaultRose old.output new.output
HasCauseAlone old new (Err (NoHole lack)) = HasNoRoom old.output × (lack.need ≡ MAX_ENTRIES + 1) × (lack.largest ≡ MAX_ENTRIES)
HasCauseAlone old new (Err Memory) = ⊤

-- why `tidy` answers as it does, which may have deleted some clauses by then: it deleted all; the log was ended; the output has
-- failed since; there is no room for an entry; memory ran out. At all answers but a fault the output has failed as often as before
abbrev pub HasTidyCause : PortState → PortState → Result (Unit {0}) PortStop → Type 0
HasTidyCause old new (Ok done) = faults_of new ≡ faults_of old
HasTidyCause old new (Err Ended) = (old.ended ≡ true) × (faults_of new ≡ faults_of old)
HasTidyCause old new (Err Broken) = ⊥
HasTidyCause old new (Err ProofFault) = HasFailedSince old.output new.output
HasTidyCause old new (Err (NoHole lack)) = HasNoRoom new.output × (lack.need ≡ MAX_ENTRIES + 1) × (lack.largest ≡ MAX_ENTRIES) × (faults_of new ≡ faults_of old)
HasTidyCause old new (Err Memory) = faults_of new ≡ faults_of old
