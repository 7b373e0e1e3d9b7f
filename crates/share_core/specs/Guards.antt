-- When an event is enabled, as a test.
use Rattle.std.specs.Prelude.{ℕ, Bool, true, false, not, ◌&&◌, ◌||◌, ◌==◌, nat_lt, nat_le, List, [], ◌∷◌, length, Option, Some, None}
use Rattle.std.specs.Option.{is_none}
use Rattle.sat_words.specs.Literal.{Literal, same}
use Rattle.sat_words.specs.Clause.{has, distinct_lits, has_opposites}
use Rattle.rup_model.specs.declared.journal.TheConstants.{LEARNED_PER_REDUCTION}
use Rattle.rup_model.specs.declared.journal.Kind.{Kind}
use Rattle.rup_model.specs.declared.journal.Kind.TheVariants.{Ruler, Learn, Derive, UnitLine}
use Rattle.rup_model.specs.Journal.{book, ended, recent, is_ring}
use Rattle.sat_words.specs.declared.shared.TheConstants.{MAX_ENTRIES}
use Rattle.share_core.specs.declared.event.TheConstants.{MAX_SHARES}
use Rattle.share_core.specs.declared.event.Event.{Event}
use Rattle.share_core.specs.declared.event.Event.TheVariants.{Grant, TakeTurn, GiveTurn, AddClause, AddUnit, AddEmpty, Reduce, OpenCell, Read, Share, DropCount, Bury, Put, Get, Publish, See, Stop, Draw}
use Rattle.share_core.specs.State.{later, State}
use Rattle.share_core.specs.Learning.{follows, may_learn, may_derive}
use Rattle.share_core.specs.Machine.{has_at}

-- two literals or more without repeats or opposites
abbrev pub is_long : List Literal → Bool
is_long c = nat_le 2 (length c) && (distinct_lits c && not (has_opposites c))

-- the ring holds the cell
abbrev pub holds : State → ℕ → ℕ → Bool
holds c r a = nat_lt r c.opening.rings && has_at a (c.part r).held

-- the ring may write an entry
abbrev pub writes : State → ℕ → Bool
writes c r = nat_lt r c.opening.rings && (is_ring r c.turn && (not (ended c.opening.formula c.journal) && nat_lt (length c.journal) MAX_ENTRIES))

-- a clause is learned or derived
abbrev pub may_add : State → ℕ → Kind → List Literal → Bool
may_add c r Ruler lits = false
may_add c r Learn lits = may_learn c.opening c.journal (c.part r) r lits
may_add c r Derive lits = may_derive (c.part r) lits
may_add c r UnitLine lits = false

-- a unit is learned or propagated
abbrev pub may_tell : State → ℕ → Kind → List Literal → Bool
may_tell c r Ruler lits = false
may_tell c r Learn lits = may_learn c.opening c.journal (c.part r) r lits
may_tell c r Derive lits = false
may_tell c r UnitLine lits = true

-- the other is another ring, the class one of the four, and there is such a place
abbrev pub exchanges : State → ℕ → ℕ → ℕ → ℕ → Bool
exchanges c r other k i = nat_lt r c.opening.rings && (nat_lt other c.opening.rings && (not (other == r) && (nat_lt k 4 && nat_lt i c.opening.depth)))

-- it is a clause of this literal alone
abbrev pub is_unit : Literal → Option (List Literal) → Bool
is_unit l None = false
is_unit l (Some []) = false
is_unit l (Some (k ∷ [])) = same l k
is_unit l (Some (k ∷ m ∷ c)) = false

-- the guard of an event
abbrev pub is_enabled : State → Event → Bool
is_enabled c (Grant r) = nat_lt r c.opening.rings && not (c.granted r)
is_enabled c (TakeTurn r) = nat_lt r c.opening.rings && is_none c.turn
is_enabled c (GiveTurn r) = nat_lt r c.opening.rings && is_ring r c.turn
is_enabled c (AddClause r kind lits hints a) =
    writes c r && (may_add c r kind lits && (is_long lits && (is_none (c.cell a) && (not (a == 0) && follows c.opening.hinted (c.part r) lits hints))))
is_enabled c (AddUnit r kind lit hints) = writes c r && (may_tell c r kind (lit ∷ []) && follows c.opening.hinted (c.part r) (lit ∷ []) hints)
is_enabled c (AddEmpty r hints) = writes c r && follows c.opening.hinted (c.part r) [] hints
is_enabled c (Reduce r) = writes c r && nat_le LEARNED_PER_REDUCTION (length (recent r (later c.opening c.journal)))
is_enabled c (OpenCell r a) = nat_lt r c.opening.rings && has_at a (c.part r).making
is_enabled c (Read r a) = holds c r a
is_enabled c (Share r a) = holds c r a && nat_lt (c.part r).shared MAX_SHARES
is_enabled c (DropCount r a) = holds c r a
is_enabled c (Bury r a) = writes c r && has_at a (c.part r).waiting
is_enabled c (Put r to k i a) = exchanges c r to k i && has_at a (c.part r).held
is_enabled c (Get r from k i) = exchanges c r from k i
is_enabled c (Publish r lit n) =
    nat_lt r c.opening.rings && (is_ring r c.turn && ((length (c.part r).seen == length c.units) && (not (has c.units lit) && is_unit lit ((book c.opening.formula c.journal).clause n))))
is_enabled c (See r) = nat_lt r c.opening.rings && nat_lt (length (c.part r).seen) (length c.units)
is_enabled c (Stop r kind) = nat_lt r c.opening.rings && (nat_le 1 kind && (nat_le kind 5 && (not (kind == 2) || ended c.opening.formula c.journal)))
is_enabled c (Draw r) = nat_lt r c.opening.rings && (not (c.part r).ticket && nat_le (c.part r).found c.opening.limit)
