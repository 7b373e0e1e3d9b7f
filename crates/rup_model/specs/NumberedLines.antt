-- The lines of a log with the numbers of their clauses, and with the hints of those that are added: what an LRAT proof tells.
use Rattle.std.specs.Prelude.{◌≡◌, ℕ, ◌-◌, true, List, [], ◌∷◌, ◌++◌, IfSome}
use Rattle.std.specs.Option.{option_map, option_to_list, unwrap_or}
use Rattle.sat_words.specs.Literal.{Literal}
use Rattle.sat_words.specs.declared.line.Line.{Line}
use Rattle.sat_words.specs.declared.line.Line.TheVariants.{Add as AddLine, Del as DelLine}
use Rattle.rup_model.specs.declared.journal.Addition.{Addition}
use Rattle.rup_model.specs.declared.journal.Entry.{Entry}
use Rattle.rup_model.specs.Basics.{EachAfter}
use Rattle.rup_model.specs.Hints.{hinted}
use Rattle.rup_model.specs.Journal.{addition, deletion, ring_of, spelled_by, Book, book, formula_book, book_after}

-- a clause is added under a number, with hints; or, when this was the last number given, the clause with a number is deleted
pub data NumberedLine : Type 0 where
  Added : (number : ℕ) → (lits : List Literal) → (hints : List ℕ) → NumberedLine
  Deleted : (last number : ℕ) → (lits : List Literal) → NumberedLine

-- the line alone
abbrev pub line_of : NumberedLine → Line
line_of (Added number lits hints) = AddLine lits
line_of (Deleted last number lits) = DelLine lits

-- the line that adds it
abbrev pub numbered_addition : Addition → NumberedLine
numbered_addition x = Added x.number x.lits x.hints

-- the line of the ring's deletion of the clause with this number
abbrev pub numbered_deletion : Book → ℕ → ℕ → NumberedLine
numbered_deletion b r n = Deleted (b.next - 1) n (spelled_by r (unwrap_or (b.clause n) []))

-- the line of an entry, if it has one
abbrev pub numbered_after : Book → Entry → List NumberedLine
numbered_after b e = option_to_list (option_map numbered_addition (addition e)) ++ option_to_list (option_map (numbered_deletion b (ring_of e)) (deletion e))

-- the lines of entries, if some clauses are alive
abbrev pub numbered_from : Book → List Entry → List NumberedLine
numbered_from b [] = []
numbered_from b (e ∷ J) = numbered_after b e ++ numbered_from (book_after b e) J

-- the lines of a journal
abbrev pub numbered_lines : List (List Literal) → List Entry → List NumberedLine
numbered_lines F J = numbered_from (formula_book F) J

-- the hints of what the entry adds show that it follows from the clauses that are alive before it
abbrev pub IsHinted : List (List Literal) → List Entry → Entry → Type 0
IsHinted F before e = IfSome (addition e) (λ x. hinted (book F before).clause x.lits x.hints ≡ true)

-- so do the hints of each addition
abbrev pub AreHinted : List (List Literal) → List Entry → Type 0
AreHinted F J = EachAfter (IsHinted F) [] J
