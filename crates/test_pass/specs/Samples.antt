-- What the rings of the tests start from, and what they know.
use Rattle.std.specs.Prelude.{◌≡◌, ◌≤◌, ℕ, true, false, List, [], ◌∷◌, map, IsSome, Option}
use Rattle.sat_words.specs.Literal.{Literal}
use Rattle.rup_model.specs.Journal.{fresh}
use Rattle.atomic_table.specs.declared.shared.Seat.{Seat}
use Rattle.sat_words.specs.declared.shared.Cref.{Cref}
use Rattle.share_core.specs.declared.part.CoreOpening.{CoreOpening}
use Rattle.share_rule.specs.declared.Shared.{Shared}
use Rattle.share_rule.specs.FirstWords.{starts_at, addresses}
use Rattle.share_rule.specs.declared.view.View.{View}
use Rattle.share_rule.specs.Passes.{IsPassOf}
use Rattle.ring_port.specs.PortState.{PortState, held_at, lits_at}
use Rattle.ring_port.specs.Port.{is_usable, start_lits}
use Rattle.ring_pass.specs.RingState.{home_of}

-- a literal
abbrev pub plus : ℕ → Literal
plus v = record { var = v; neg = false }

-- and its negation
abbrev pub minus : ℕ → Literal
minus v = record { var = v; neg = true }

-- three clauses, of which 2 follows
abbrev pub first : List Literal
first = plus 1 ∷ plus 2 ∷ plus 3 ∷ []

-- the second clause of the samples
abbrev pub second : List Literal
second = plus 1 ∷ plus 2 ∷ minus 3 ∷ []

-- the third clause of the samples
abbrev pub third : List Literal
third = minus 1 ∷ plus 2 ∷ []

-- one that the rings give up
abbrev pub spare : List Literal
spare = plus 2 ∷ plus 3 ∷ []

-- the four clauses of the samples, each with its number
abbrev pub four : List (ℕ × List Literal)
four = (1, first) ∷ (2, second) ∷ (3, third) ∷ (4, spare) ∷ []

-- what a ring learns first
abbrev pub pair : List Literal
pair = plus 1 ∷ plus 2 ∷ []

-- and later
abbrev pub later : List Literal
later = plus 2 ∷ minus 3 ∷ []

-- this clause is held at the address
pub record IsAt (s : PortState) (a : ℕ) (c : List Literal) : Type 0 where
  pub held : IsSome (held_at s a)
  pub lits : lits_at s a ≡ c

-- one of two rings on three variables, with slots for each class, which holds the first three clauses and whose lines have not failed;
-- the log has no hints
pub record IsPlayer (s : PortState) : Type 0 where
  pub vars : s.vars ≡ 3
  pub rings : s.rings ≡ 2
  pub depth : 1 ≤ s.depth
  pub usable : is_usable s.refused ≡ true
  pub plain : s.hinted ≡ false
  pub one : (a : ℕ) × IsAt s a first
  pub two : (a : ℕ) × IsAt s a second
  pub three : (a : ℕ) × IsAt s a third

-- the clause contains no start clause and none that the ring learned lately
abbrev pub IsFree : PortState → List Literal → Type 0
IsFree s c = fresh (start_lits s) s.mine s.ring c ≡ true

-- the ring has no ticket in hand, and each draw of it so far found one left
pub record CanDraw (s : PortState) : Type 0 where
  pub none : s.ticket ≡ false
  pub left : s.found ≤ s.limit

-- the ring has a ticket in hand, and found it left
pub record HasTicket (s : PortState) : Type 0 where
  pub some : s.ticket ≡ true
  pub left : s.found ≤ s.limit

-- a ring that has done nothing yet
pub record IsBegun (s : PortState) : Type 0 where
  pub player : IsPlayer s
  pub starts : start_lits s ≡ map (λ (x : ℕ × List Literal). x.1) four
  pub mine : s.mine ≡ []
  pub taken : s.taken ≡ []
  pub draws : CanDraw s

-- that has drawn a ticket
pub record IsReady (s : PortState) : Type 0 where
  pub player : IsPlayer s
  pub starts : start_lits s ≡ map (λ (x : ℕ × List Literal). x.1) four
  pub mine : s.mine ≡ []
  pub taken : s.taken ≡ []
  pub drew : HasTicket s

-- that took no clause, and may learn the later one after a draw
pub record IsIdle (s : PortState) : Type 0 where
  pub player : IsPlayer s
  pub taken : s.taken ≡ []
  pub free : IsFree s later
  pub draws : CanDraw s

-- that took no clause, and may learn the later one
pub record IsReadyAgain (s : PortState) : Type 0 where
  pub player : IsPlayer s
  pub taken : s.taken ≡ []
  pub free : IsFree s later
  pub drew : HasTicket s

-- a ring that took no clause
pub record IsDone (s : PortState) : Type 0 where
  pub player : IsPlayer s
  pub taken : s.taken ≡ []

-- the ring, the number of its slots and the table stay
pub record Stays (old new : PortState) : Type 0 where
  pub ring : new.ring ≡ old.ring
  pub depth : new.depth ≡ old.depth
  pub home : new.home ≡ old.home

-- and so does the clause that the rings give up later
pub record Keeps (old new : PortState) : Type 0 where
  pub same : Stays old new
  pub spare : (a : ℕ) → IsAt old a spare → IsAt new a spare

-- ring 1, which has taken these
pub record IsListener (s : PortState) (ts : List ℕ) : Type 0 where
  pub player : IsPlayer s
  pub ring : s.ring ≡ 1
  pub taken : s.taken ≡ ts

-- a table for two rings that begins with the four clauses, at these addresses, in a log without hints
pub record BeginsWithFour {B : Type 0} (t : Shared B) (o : CoreOpening) (cs : List Cref) : Type 0 where
  pub from : ℕ
  pub starts : o.starts ≡ starts_at from four
  pub rings : o.rings ≡ 2
  pub depth : 1 ≤ o.depth
  pub vars : t.layout.vars ≡ 3
  pub plain : o.hinted ≡ false
  pub cells : cs ≡ addresses o.starts

-- its pass is one of this table
abbrev pub IsHome : {B : Type 0} → Shared B → PortState → Type 0
IsHome {B} t s = (p : Seat (Option B) View) → IsPassOf t p → s.home ≡ home_of p
