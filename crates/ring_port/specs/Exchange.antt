-- What a port does when rings hand each other clauses.
use Rattle.std.specs.Prelude.{◌≡◌, ℕ, ◌+◌, ◌%◌, ◌≤◌, ◌==◌, count_by, ◌&&◌, not, nat_le, List, [], ◌∷◌, ◌++◌, if◌then◌else◌, map, filter, length, Option, Some, None, Result, Ok, Err}
use Rattle.std.specs.List.{range_with_len}
use Rattle.std.specs.Option.{option_and_then}
use Rattle.sat_words.specs.declared.shared.Cref.{Cref}
use Rattle.ring_port.specs.declared.stops.PortStop.{PortStop}
use Rattle.ring_port.specs.declared.stops.PortStop.TheVariants.{Memory}
use Rattle.ring_port.specs.PortState.{Holding, Offer, PortState, IsKept, held_at, one_more}

-- Classes

-- the class of a clause of this size and glue: 0 if it has two literals; if it has more, 1 for glue 1, 2 for glue 2 and 3 for
-- glue 3 to 6; all others have none
abbrev pub class_of : (size glue : ℕ) → Option ℕ
class_of size glue =
    if size == 2
    then Some 0
    else if nat_le 3 size && (nat_le 1 glue && nat_le glue 6)
    then Some (if nat_le glue 2 then glue else 3)
    else None

-- the class of the clause at an address
abbrev pub class_at : PortState → ℕ → Option ℕ
class_at s a = option_and_then (λ h. class_of (length h.lits) h.glue) (held_at s a)

-- Offers

-- the other rings, in order
abbrev pub other_rings : PortState → List ℕ
other_rings s = filter (λ r. not (r == s.ring)) (range_with_len 0 s.rings)

-- how many clauses of a class were put for a ring
abbrev pub puts_for : List Offer → (ring class : ℕ) → ℕ
puts_for puts ring class = count_by (λ o. o.ring == ring && o.class == class) puts

-- the place of the next clause of a class for a ring: the clauses go into their slots in turn, from the first on
abbrev pub next_place : PortState → (ring class : ℕ) → ℕ
next_place s ring class = puts_for s.puts ring class % s.depth

-- the clause put for each other ring, each time at the next place
abbrev pub offers_to : PortState → (class address : ℕ) → List Offer
offers_to s class address =
    map (λ r. record { ring = r; class = class; place = next_place s r class; address = address }) (other_rings s)

-- how often a clause is held at an address
abbrev pub times_held : PortState → ℕ → ℕ
times_held s a = count_by (λ h. h.address == a) s.held

-- the lemma learned last was put for each other ring, and can't be offered again; at most as many clauses came back, which then
-- wait; each clause is held as often as before
pub record Offered (old new : PortState) (class address : ℕ) : Type 0 where
  pub back : List Holding
  pub few : length back ≤ length (other_rings old)
  pub same : (a : ℕ) → held_at new a ≡ held_at old a
  pub often : (a : ℕ) → times_held new a ≡ times_held old a
  pub state : new ≡ record old {
    held = new.held;
    shared = old.shared + length (other_rings old);
    puts = old.puts ++ offers_to old class address;
    waiting = old.waiting ++ back;
    last = None;
  }

-- what `offer` did, if the clause has a class
abbrev pub OfferedAs : PortState → PortState → Option ℕ → ℕ → Type 0
OfferedAs old new None address = ⊥
OfferedAs old new (Some class) address = Offered old new class address

-- Polls

-- it was looked once more, into the slot of the other ring for this class at this place; so often `next_unit` had found by then that no
-- other unit is listed
abbrev pub looked_into : (ring class place : ℕ) → PortState → PortState
looked_into ring class place s = record s { polled = one_more s.polled; polls = s.polls ++ record { ring = ring; class = class; place = place } ∷ []; polls_after = s.polls_after ++ s.caught_up ∷ [] }

-- a clause of the other ring is held from now on
pub record TookClause (old new : PortState) (ring class place : ℕ) (c : Cref) : Type 0 where
  pub clause : Holding
  pub address : clause.address ≡ c.address
  pub kept : IsKept old.vars clause
  pub state : new ≡ record (looked_into ring class place old) { held = old.held ++ clause ∷ []; taken = old.taken ++ c.address ∷ [] }

-- what `poll` did
abbrev pub Polled : PortState → PortState → (ring class place : ℕ) → Result (Option Cref) PortStop → Type 0
Polled old new ring class place (Ok None) = new ≡ looked_into ring class place old
Polled old new ring class place (Ok (Some c)) = TookClause old new ring class place c
Polled old new ring class place (Err stop) = (stop ≡ Memory) × (new ≡ old)
