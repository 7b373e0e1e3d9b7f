-- The next round of the rings: what the ruler's lines become, and what the core is then opened with.
use Rattle.std.specs.Prelude.{◌≡◌, ℕ, Bool, true, false, not, ◌&&◌, ◌||◌, ◌==◌, ⊤, List, [], ◌∷◌, ◌++◌, map, All, Option, Some, None}
use Rattle.std.specs.List.{list_any, list_all}
use Rattle.std.specs.Option.{unwrap_or}
use Rattle.sat_words.specs.Literal.{Literal}
use Rattle.sat_words.specs.Clause.{same_set, clause_of, is_empty, two_or_more}
use Rattle.sat_words.specs.declared.line.Line.{Line}
use Rattle.sat_words.specs.declared.line.Line.TheVariants.{Add as AddLine, Del as DelLine}
use Rattle.rup_model.specs.declared.journal.TheConstants.{RULER_RING}
use Rattle.rup_model.specs.declared.journal.Kind.TheVariants.{Ruler}
use Rattle.rup_model.specs.declared.journal.Entry.{Entry}
use Rattle.rup_model.specs.declared.journal.Entry.TheVariants.{Add, Del, Round}
use Rattle.rup_model.specs.Journal.{Book, book, added, LogSound}
use Rattle.share_core.specs.declared.round_line.RoundLine.{RoundLine}
use Rattle.share_core.specs.declared.round_line.RoundLine.TheVariants.{Add as RoundAdd, Del as RoundDel}
use Rattle.share_core.specs.declared.stored.ClauseAt.{ClauseAt}
use Rattle.share_core.specs.Guards.{is_long}
use Rattle.share_core.specs.State.{CoreOpening, unit_lits, unit_numbers, IsCoreOpening, State, maker_at}

-- What the lines become

-- the line of the log
abbrev pub line_of : RoundLine → Line
line_of (RoundAdd c hints) = AddLine c
line_of (RoundDel n c) = DelLine c

-- a clause with these literals
abbrev pub has_lits : List Literal → Option (List Literal) → Bool
has_lits c None = false
has_lits c (Some d) = same_set c d

-- the number is not one of these, and its clause is alive and has these literals
abbrev pub is_spare : Book → List ℕ → List Literal → ℕ → Bool
is_spare b kept c n = not (list_any (λ m. m == n) kept) && has_lits c (b.clause n)

-- the ruler's entry of a line: an addition has the next number, and the line's hints; a deletion names the line's number
abbrev pub entry_of : Book → RoundLine → Entry
entry_of b (RoundAdd c hints) = Add (record { ring = RULER_RING; number = b.next; lits = c; kind = Ruler; hints = hints })
entry_of b (RoundDel n c) = Del RULER_RING n

-- a deletion's number is none of those kept, and its clause has the line's literals
abbrev pub DeletesSpare : Book → List ℕ → RoundLine → Type 0
DeletesSpare b kept (RoundAdd c hints) = ⊤
DeletesSpare b kept (RoundDel n c) = is_spare b kept c n ≡ true

-- it is that of the line, which deletes nothing else
abbrev pub IsEntryOf : Book → List ℕ → RoundLine → Entry → Type 0
IsEntryOf b kept l e = (e ≡ entry_of b l) × DeletesSpare b kept l

-- each entry is that of its line after the journal and the entries before it
abbrev pub AreEntriesOf : List (List Literal) → List Entry → List ℕ → List RoundLine → List Entry → Type 0
AreEntriesOf F J kept [] [] = ⊤
AreEntriesOf F J kept [] (e ∷ E) = ⊥
AreEntriesOf F J kept (l ∷ L) [] = ⊥
AreEntriesOf F J kept (l ∷ L) (e ∷ E) = IsEntryOf (book F J) kept l e × AreEntriesOf F (J ++ e ∷ []) kept L E

-- a deletion has its literals in the order of `Clause`
abbrev pub IsInOrder : RoundLine → Type 0
IsInOrder (RoundAdd c hints) = ⊤
IsInOrder (RoundDel n c) = clause_of c ≡ c

-- What the core is opened with

-- the numbers of these pairs of an address and a number
abbrev pub numbers_of : List (ℕ × ℕ) → List ℕ
numbers_of start = map (λ p. p.1) start

-- the start clause with this address and number
abbrev pub start_in : Book → ℕ × ℕ → ClauseAt
start_in b p = record { address = p.0; number = p.1; lits = unwrap_or (b.clause p.1) [] }

-- the journal with the ruler's entries after it, and the beginning of the round
abbrev pub round_journal : List Entry → List Entry → List (ℕ × ℕ) → List Literal → List Entry
round_journal J E start units = (J ++ E) ++ Round (record { starts = numbers_of start; units = units }) ∷ []

-- after this journal, with these start clauses as it spells them, these units and this limit; the rings and slots stay as many,
-- and additions have hints as before
abbrev pub round_opening : State → List Entry → List (ℕ × ℕ) → List (Literal × ℕ) → ℕ → CoreOpening
round_opening c J start units limit = record {
  formula = c.opening.formula;
  rings = c.opening.rings;
  depth = c.opening.depth;
  journal = J;
  starts = map (start_in (book c.opening.formula J)) start;
  units = unit_lits units;
  numbers = unit_numbers units;
  limit = limit;
  hinted = c.opening.hinted;
}

-- what the core is opened with after these entries of the ruler
abbrev pub next_opening : State → List Entry → List (ℕ × ℕ) → List (Literal × ℕ) → ℕ → CoreOpening
next_opening c E start units limit = round_opening c (round_journal c.journal E start (unit_lits units)) start units limit

-- no cell is under construction
abbrev pub NoneBuilt : State → Type 0
NoneBuilt c = (a : ℕ) → maker_at (c.cell a) ≡ None

-- the lines become these entries of the ruler, and the core may be opened after them
pub record IsNextRound (c : State) (lines : List RoundLine) (start : List (ℕ × ℕ)) (units : List (Literal × ℕ)) (limit : ℕ) (E : List Entry) : Type 0 where
  pub entries : AreEntriesOf c.opening.formula c.journal (numbers_of start) lines E
  pub opens : IsCoreOpening (next_opening c E start units limit)

-- A round that is begun with deletions alone

-- the line deletes a clause
abbrev pub is_deletion : RoundLine → Bool
is_deletion (RoundAdd c hints) = false
is_deletion (RoundDel n c) = true

-- the line deletes a clause of two literals or more, spelled in order, and its number is that of a spare copy
abbrev pub IsDeletion : Book → List ℕ → RoundLine → ℕ → Type 0
IsDeletion b kept (RoundAdd c hints) m = ⊥
IsDeletion b kept (RoundDel n c) m = (n ≡ m) × (clause_of c ≡ c) × (two_or_more c ≡ true) × (is_spare b kept c n ≡ true)

-- each line is such a deletion after the journal and the lines before it
abbrev pub AreDeletions : List (List Literal) → List Entry → List ℕ → List RoundLine → Type 0
AreDeletions F J kept [] = ⊤
AreDeletions F J kept (l ∷ L) = (n : ℕ) × IsDeletion (book F J) kept l n × AreDeletions F (J ++ Del RULER_RING n ∷ []) kept L

-- the log is sound, and the empty clause was not added
abbrev pub IsGoing : List (List Literal) → List Entry → Type 0
IsGoing F J = LogSound F J × (list_any is_empty (added J) ≡ false)

-- the lines are deletions in order, and their entries lead from one journal to the other, with which the log stays sound
pub record AreDeleted (F : List (List Literal)) (J : List Entry) (kept : List ℕ) (L : List RoundLine) (K : List Entry) : Type 0 where
  pub entries : List Entry
  pub grows : K ≡ J ++ entries
  pub are : AreEntriesOf F J kept L entries
  pub ordered : All IsInOrder L
  pub only : list_all is_deletion L ≡ true
  pub going : IsGoing F J → IsGoing F K

-- it has an address and is long
abbrev pub may_start : ClauseAt → Bool
may_start s = not (s.address == 0) && is_long s.lits

-- their addresses differ, and their numbers
abbrev pub stand_apart : List ClauseAt → Bool
stand_apart [] = true
stand_apart (s ∷ ss) = not (list_any (λ h. (h.address == s.address) || (h.number == s.number)) ss) && stand_apart ss

-- the core may begin its next round so
pub record MayBegin (c : State) (lines : List RoundLine) (start : List (ℕ × ℕ)) (units : List (Literal × ℕ)) (limit : ℕ) : Type 0 where
  pub built : NoneBuilt c
  pub ordered : All IsInOrder lines
  pub opens : (E : List Entry) × IsNextRound c lines start units limit E
