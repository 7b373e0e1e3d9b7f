-- What each event does. What it does not name stays as it was.
use Rattle.std.specs.Prelude.{ℕ, ◌+◌, ◌-◌, true, false, ◌==◌, nat_lt, List, [], ◌∷◌, ◌++◌, length, slice_index_or, Option, Some, None, if◌then◌else◌}
use Rattle.sat_words.specs.Literal.{Literal}
use Rattle.rup_model.specs.declared.journal.Kind.{Kind}
use Rattle.rup_model.specs.declared.journal.Kind.TheVariants.{Derive}
use Rattle.rup_model.specs.declared.journal.Entry.{Entry}
use Rattle.rup_model.specs.declared.journal.Entry.TheVariants.{Add, Del, Reduce as ReduceEntry}
use Rattle.rup_model.specs.Basics.{put}
use Rattle.rup_model.specs.Journal.{book}
use Rattle.share_core.specs.declared.event.Stop.{Stop as StopWord}
use Rattle.share_core.specs.declared.event.Event.{Event}
use Rattle.share_core.specs.declared.event.Event.TheVariants.{Grant, TakeTurn, GiveTurn, AddClause, AddUnit, AddEmpty, Reduce, OpenCell, Read, Share, DropCount, Bury, Put, Get, Publish, See, Stop, Draw}
use Rattle.share_core.specs.declared.stored.ClauseAt.{ClauseAt}
use Rattle.share_core.specs.declared.stored.Cell.{Cell}
use Rattle.share_core.specs.declared.stored.PutNote.{PutNote}
use Rattle.share_core.specs.State.{without_at, with_cell, CoreOpening, Part, State, count_at, number_at, clause_at, slot_of}
use Rattle.share_core.specs.Learning.{after_learn}

-- Grants

-- the ring holds each start clause once
abbrev pub granted_part : CoreOpening → Part → Part
granted_part o p = record p { held = p.held ++ o.starts }

-- Writing

-- the addition with the next number
abbrev pub addition_of : State → ℕ → Kind → List Literal → List ℕ → Entry
addition_of c r kind lits hints = Add (record { ring = r; number = (book c.opening.formula c.journal).next; lits = lits; kind = kind; hints = hints })

-- the deletion of the clause in a cell
abbrev pub deletion_of : State → ℕ → ℕ → Entry
deletion_of c r a = Del r (number_at (c.cell a))

-- the journal with one more entry
abbrev pub noted : State → Entry → List Entry
noted c e = c.journal ++ e ∷ []

-- the ring wrote the entry at this place
abbrev pub wrote_part : ℕ → Entry → Part → Part
wrote_part i e p = record p { wrote = p.wrote ++ record { place = i; entry = e } ∷ [] }

-- it builds the cell of what it added
abbrev pub made_part : ClauseAt → ℕ → Entry → Part → Part
made_part h i e p = record p { making = p.making ++ h ∷ []; wrote = p.wrote ++ record { place = i; entry = e } ∷ [] }

-- the cell of what it deleted waits no longer
abbrev pub buried_part : ℕ → ℕ → Entry → Part → Part
buried_part a i e p = record p { waiting = without_at a p.waiting; wrote = p.wrote ++ record { place = i; entry = e } ∷ [] }

-- an entry that touches no cell, by the ring with this part
abbrev pub written : State → ℕ → Part → Entry → State
written c r p e = record c { journal = noted c e; part = put c.part r (wrote_part (length c.journal) e p) }

-- a clause is added, and its cell is begun
abbrev pub begun : State → ℕ → Kind → List Literal → List ℕ → ℕ → State
begun c r kind lits hints a =
    let n = (book c.opening.formula c.journal).next in
    record c {
      journal = noted c (addition_of c r kind lits hints);
      cell = put c.cell a (Some (record { lits = lits; number = n; count = 0; maker = Some r }));
      part = put c.part r (made_part (record { address = a; number = n; lits = lits }) (length c.journal) (addition_of c r kind lits hints) (after_learn kind (c.part r)));
    }

-- a clause is deleted, and its cell is gone
abbrev pub buried : State → ℕ → ℕ → State
buried c r a = record c {
  journal = noted c (deletion_of c r a);
  cell = put c.cell a None;
  part = put c.part r (buried_part a (length c.journal) (deletion_of c r a) (c.part r));
}

-- Counts

-- the cell is open and has this count
abbrev pub with_count : ℕ → Option Cell → Option Cell
with_count n None = None
with_count n (Some x) = Some (record { lits = x.lits; number = x.number; count = n; maker = None })

-- the cell has this count, and the ring this part
abbrev pub recounted : State → ℕ → ℕ → ℕ → Part → State
recounted c r a n p = record c { cell = put c.cell a (with_count n (c.cell a)); part = put c.part r p }

-- the ring holds what it built
abbrev pub opened_part : ClauseAt → Part → Part
opened_part h p = record p { held = p.held ++ h ∷ []; making = without_at h.address p.making }

-- it holds the cell once more
abbrev pub shared_part : ClauseAt → Part → Part
shared_part h p = record p { held = p.held ++ h ∷ []; shared = p.shared + 1 }

-- it holds the cell once less; if the count that it found was 1, the cell waits
abbrev pub dropped_part : ClauseAt → ℕ → Part → Part
dropped_part h found p = record p { held = without_at h.address p.held; waiting = if found == 1 then p.waiting ++ h ∷ [] else p.waiting }

-- Exchange

-- the ring holds what it put once less, and what came out once more
abbrev pub put_part : PutNote → ClauseAt → Part → Part
put_part n found p = record p { held = with_cell found (without_at n.address p.held); puts = p.puts ++ n ∷ [] }

-- it holds what it got once more
abbrev pub got_part : ClauseAt → Part → Part
got_part found p = record p { held = with_cell found p.held }

-- the slot has this address, and the ring this part
abbrev pub exchanged : State → ℕ → ℕ → ℕ → Part → State
exchanged c r s a p = record c { slot = put c.slot s a; part = put c.part r p }

-- Units

-- the listed unit at a place
abbrev pub unit_at : List Literal → ℕ → Literal
unit_at us n = slice_index_or us n (record { var = 0; neg = false })

-- its number
abbrev pub listed_number : List ℕ → ℕ → ℕ
listed_number ns i = slice_index_or ns i 0

-- the ring has seen one more
abbrev pub seen_part : Literal → ℕ → Part → Part
seen_part l n p = record p { seen = p.seen ++ l ∷ []; numbers = p.numbers ++ n ∷ [] }

-- The stop

-- the first stays
abbrev pub first_stop : Option StopWord → StopWord → Option StopWord
first_stop None s = Some s
first_stop (Some t) s = Some t

-- Tickets

-- the ring draws after so many were drawn: it has a ticket if they are fewer than the limit
abbrev pub drew_part : ℕ → ℕ → Part → Part
drew_part limit drawn p = record p { ticket = nat_lt drawn limit; found = drawn + 1 }

-- All events

-- the effect of each event
abbrev pub after : State → Event → State
after c (Grant r) = record c { granted = put c.granted r true; part = put c.part r (granted_part c.opening (c.part r)) }
after c (TakeTurn r) = record c { turn = Some r }
after c (GiveTurn r) = record c { turn = None }
after c (AddClause r kind lits hints a) = begun c r kind lits hints a
after c (AddUnit r kind lit hints) = written c r (after_learn kind (c.part r)) (addition_of c r kind (lit ∷ []) hints)
after c (AddEmpty r hints) = written c r (after_learn Derive (c.part r)) (addition_of c r Derive [] hints)
after c (Reduce r) = written c r (c.part r) (ReduceEntry r)
after c (OpenCell r a) = recounted c r a 1 (opened_part (clause_at c a) (c.part r))
after c (Read r a) = c
after c (Share r a) = recounted c r a (count_at (c.cell a) + 1) (shared_part (clause_at c a) (c.part r))
after c (DropCount r a) = recounted c r a (count_at (c.cell a) - 1) (dropped_part (clause_at c a) (count_at (c.cell a)) (c.part r))
after c (Bury r a) = buried c r a
after c (Put r to k i a) = let s = slot_of c.opening r to k i in exchanged c r s a (put_part (record { to = to; class = k; place = i; address = a }) (clause_at c (c.slot s)) (c.part r))
after c (Get r from k i) = let s = slot_of c.opening from r k i in exchanged c r s 0 (got_part (clause_at c (c.slot s)) (c.part r))
after c (Publish r lit n) = record c { units = c.units ++ lit ∷ []; numbers = c.numbers ++ n ∷ []; part = put c.part r (seen_part lit n (c.part r)) }
after c (See r) = let i = length (c.part r).seen in record c { part = put c.part r (seen_part (unit_at c.units i) (listed_number c.numbers i) (c.part r)) }
after c (Stop r kind) = record c { stop = first_stop c.stop (record { kind = kind; ring = r }) }
after c (Draw r) = record c { part = put c.part r (drew_part c.opening.limit c.drawn (c.part r)); drawn = c.drawn + 1 }
