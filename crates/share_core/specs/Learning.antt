-- What a ring knows, and what it may add to the log for it.
use Rattle.std.specs.Prelude.{◌≡◌, ℕ, ◌&&◌, ◌==◌, Bool, true, false, ⊤, List, [], ◌∷◌, ◌++◌, map, length}
use Rattle.std.specs.List.{list_any, zip}
use Rattle.sat_words.specs.Literal.{Literal}
use Rattle.sat_words.specs.Clause.{includes}
use Rattle.rup_model.specs.declared.journal.Kind.{Kind}
use Rattle.rup_model.specs.declared.journal.Kind.TheVariants.{Ruler, Learn, Derive, UnitLine}
use Rattle.rup_model.specs.declared.journal.Entry.{Entry}
use Rattle.rup_model.specs.Rup.{rup}
use Rattle.rup_model.specs.Hints.{numbered, hinted}
use Rattle.rup_model.specs.Journal.{fresh}
use Rattle.rup_model.specs.Opening.{start_clauses}
use Rattle.share_core.specs.State.{CoreOpening, opening_of, later, Part}

-- What a ring knows

-- the clauses of the cells that it holds, each with its number, and the units that it has seen, each with its own
abbrev pub known : Part → List (ℕ × List Literal)
known p = map (λ h. (h.number, h.lits)) p.held ++ map (λ u. (u.1, u.0 ∷ [])) (zip p.seen p.numbers)

-- the clauses without their numbers
abbrev pub known_clauses : Part → List (List Literal)
known_clauses p = map (λ h. h.lits) p.held ++ map (λ l. l ∷ []) p.seen

-- the clause follows from what the ring knows: in a log with hints, as the hints show; in other logs there are none
abbrev pub follows : Bool → Part → List Literal → List ℕ → Bool
follows true p lits hints = hinted (numbered (known p)) lits hints
follows false p lits hints = (length hints == 0) && rup (known_clauses p) lits

-- What it may add

-- the ring has a ticket in hand, and the clause contains no start clause and nothing that it learned since it last reduced
abbrev pub may_learn : CoreOpening → List Entry → Part → ℕ → List Literal → Bool
may_learn o J p r lits = p.ticket && fresh (start_clauses (opening_of o)) (later o J) r lits

-- the ring holds a clause that has all these literals
abbrev pub may_derive : Part → List Literal → Bool
may_derive p lits = list_any (λ h. includes h.lits lits) p.held

-- a clause is learned or derived
abbrev pub MayAddClause : CoreOpening → List Entry → Part → ℕ → Kind → List Literal → Type 0
MayAddClause o J p r Ruler lits = ⊥
MayAddClause o J p r Learn lits = may_learn o J p r lits ≡ true
MayAddClause o J p r Derive lits = may_derive p lits ≡ true
MayAddClause o J p r UnitLine lits = ⊥

-- a unit is learned or propagated
abbrev pub MayAddUnit : CoreOpening → List Entry → Part → ℕ → Kind → List Literal → Type 0
MayAddUnit o J p r Ruler lits = ⊥
MayAddUnit o J p r Learn lits = may_learn o J p r lits ≡ true
MayAddUnit o J p r Derive lits = ⊥
MayAddUnit o J p r UnitLine lits = ⊤

-- whether a ticket is in hand after something of this kind was added: learning uses it up
abbrev pub ticket_after : Kind → Bool → Bool
ticket_after Ruler t = t
ticket_after Learn t = false
ticket_after Derive t = t
ticket_after UnitLine t = t

-- what the ring has after it added a clause or a unit of this kind
abbrev pub after_learn : Kind → Part → Part
after_learn kind p = record p { ticket = ticket_after kind p.ticket }
