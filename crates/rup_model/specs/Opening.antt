-- Openings: what the rings start from after a journal, the ruler's or one with rounds of the rings.
use Rattle.std.specs.Prelude.{◌≡◌, ℕ, ◌≤◌, Bool, true, false, not, ◌&&◌, ◌||◌, ◌==◌, nat_eq, List, [], ◌∷◌, ◌++◌, map, length, drop, take_while, Option, Some, None, is_none, if◌then◌else◌, IfSome}
use Rattle.std.specs.List.{list_any, list_all, All, IsDistinct, filter, filter_map, range_with_len}
use Rattle.std.specs.List.Sorted.{IsStrictlySortedBy}
use Rattle.std.specs.Ordering.{nat_cmp}
use Rattle.std.specs.Option.{option_and_then}
use Rattle.std.specs.Set.{unique_keys}
use Rattle.sat_words.specs.Literal.{Literal, same}
use Rattle.sat_words.specs.Clause.{has, same_set, distinct_lits, has_opposites, is_empty, just_one, two_or_more, clause_of}
use Rattle.rup_model.specs.declared.journal.TheConstants.{RULER_RING}
use Rattle.rup_model.specs.declared.journal.Kind.{Kind}
use Rattle.rup_model.specs.declared.journal.Kind.TheVariants.{Ruler, Learn, Derive, UnitLine}
use Rattle.rup_model.specs.declared.journal.Entry.{Entry}
use Rattle.rup_model.specs.Log.{Accepted}
use Rattle.rup_model.specs.Journal.{addition, reduction, ring_of, round_of, Book, book, lines, Fits, additions, added, is_told, is_learn, fresh}

-- The ruler's part

-- by the ruler
abbrev pub is_ruler : Kind → Bool
is_ruler Ruler = true
is_ruler Learn = false
is_ruler Derive = false
is_ruler UnitLine = false

-- the entry is the ruler's: an addition of its kind, or a deletion, and no round begins
abbrev pub is_rulers : Entry → Bool
is_rulers e = (ring_of e == RULER_RING) && (list_all (λ x. is_ruler x.kind) (additions (e ∷ [])) && (is_none (reduction e) && is_none (round_of e)))

-- the ruler's entries at the front
abbrev pub ruler_part : List Entry → List Entry
ruler_part J = take_while is_rulers J

-- the entries after them
abbrev pub rings_part : List Entry → List Entry
rings_part J = drop (length (ruler_part J)) J

-- a journal that the ruler may leave
pub record IsRulersPart (F : List (List Literal)) (J0 : List Entry) : Type 0 where
  pub rulers : All (λ e. is_rulers e ≡ true) J0
  pub going : list_any is_empty (added J0) ≡ false
  pub fits : Fits F J0
  pub accepted : Accepted F (lines F J0)

-- Openings

-- a clause that the rings start with, and its number
pub record Start : Type 0 where
  pub number : ℕ
  pub lits : List Literal

-- the journal before, the start clauses and the units that are listed from the start
pub record Opening : Type 0 where
  pub journal : List Entry
  pub starts : List Start
  pub units : List Literal

-- their literals
abbrev pub start_clauses : Opening → List (List Literal)
start_clauses o = map (λ s. s.lits) o.starts

-- two literals or more without repeats or opposites
pub record IsLong (c : List Literal) : Type 0 where
  pub long : 2 ≤ length c
  pub distinct : distinct_lits c ≡ true
  pub no_opposites : has_opposites c ≡ false

-- the clause is alive under its number, and long
pub record IsStart (b : Book) (s : Start) : Type 0 where
  pub alive : b.clause s.number ≡ Some s.lits
  pub shape : IsLong s.lits

-- they stand in order of number
abbrev pub AreAscending : List Start → Type 0
AreAscending ss = IsStrictlySortedBy nat_cmp (map (λ s. s.number) ss)

-- a journal that the ruler may leave; long clauses that are alive after it, each under a number of its own;
-- units that are in the formula or were added, none twice
pub record IsOpening (F : List (List Literal)) (o : Opening) : Type 0 where
  pub rulers_part : IsRulersPart F o.journal
  pub starts : All (IsStart (book F o.journal)) o.starts
  pub numbers : IsDistinct nat_eq (map (λ s. s.number) o.starts)
  pub told : All (λ l. is_told F o.journal l ≡ true) o.units
  pub distinct : distinct_lits o.units ≡ true

-- after a log that fits, whose lines are valid and to which the empty clause was not added, whoever wrote it; long clauses that are
-- alive after it, each under a number of its own; units that are in the formula or were added, none twice
pub record OpensAfter (F : List (List Literal)) (o : Opening) : Type 0 where
  pub fits : Fits F o.journal
  pub accepted : Accepted F (lines F o.journal)
  pub going : list_any is_empty (added o.journal) ≡ false
  pub starts : All (IsStart (book F o.journal)) o.starts
  pub numbers : IsDistinct nat_eq (map (λ s. s.number) o.starts)
  pub told : All (λ l. is_told F o.journal l ≡ true) o.units
  pub distinct : distinct_lits o.units ≡ true

-- The program's opening

-- the clause under this number in the order of `Clause`, if it has two literals or more and no opposites
abbrev pub start_at : Book → ℕ → Option Start
start_at b n = option_and_then (λ c. if two_or_more c && not (has_opposites c) then Some (record { number = n; lits = clause_of c }) else None) (b.clause n)

-- the literal of a clause that has just one
abbrev pub only_literal : List Literal → Option Literal
only_literal [] = None
only_literal (l ∷ c) = if just_one (l ∷ c) then Some l else None

-- all clauses of two literals or more and without opposites that are alive after the journal, each copy by its
-- number and in order of number; all units that are in the formula or were added, each once
abbrev pub program_opening : List (List Literal) → List Entry → Opening
program_opening F J0 = record {
  journal = J0;
  starts = filter_map (start_at (book F J0)) (range_with_len 1 (length (F ++ added J0)));
  units = unique_keys same (filter_map only_literal (F ++ added J0));
}

-- New clauses

-- the ring added the unit
abbrev pub adds_unit : ℕ → List Entry → Literal → Bool
adds_unit r J l = list_any (same_set (l ∷ [])) (map (λ x. x.lits) (filter (λ x. x.ring == r) (additions J)))

-- fresh, and without a literal that the opening lists as a unit, or whose unit clause the ring added
abbrev pub is_new : Opening → List Entry → ℕ → List Literal → Bool
is_new o J r c = fresh (start_clauses o) J r c && not (list_any (λ l. has o.units l || adds_unit r J l) c)

-- a clause that is learned is new after the entries before it
abbrev pub IsNew : Opening → List Entry → Entry → Type 0
IsNew o before e = IfSome (addition e) (λ x. is_learn x.kind ≡ true → is_new o before x.ring x.lits ≡ true)
