-- The journal: which ring added and deleted what, and the lines of the log that this makes.
use Rattle.std.specs.Prelude.{◌≡◌, ℕ, zero, suc, ◌≤◌, Bool, true, false, not, ◌&&◌, ◌==◌, List, [], ◌∷◌, ◌++◌, map, length, slice_get, Option, Some, None, IfSome, if◌then◌else◌}
use Rattle.std.specs.List.{list_any, fold, filter, filter_map}
use Rattle.std.specs.Option.{option_map, option_to_list, unwrap_or}
use Rattle.sat_words.specs.Literal.{Literal}
use Rattle.sat_words.specs.Clause.{includes, same_set, is_empty, two_or_more, clause_of}
use Rattle.sat_words.specs.declared.line.Line.{Line}
use Rattle.sat_words.specs.declared.line.Line.TheVariants.{Add as AddLine, Del as DelLine}
use Rattle.rup_model.specs.declared.journal.TheConstants.{RULER_RING, LEARNED_PER_REDUCTION}
use Rattle.rup_model.specs.declared.journal.Kind.{Kind}
use Rattle.rup_model.specs.declared.journal.Kind.TheVariants.{Ruler, Learn, Derive, UnitLine}
use Rattle.rup_model.specs.declared.journal.Addition.{Addition}
use Rattle.rup_model.specs.declared.journal.Round.{Round as RoundStart}
use Rattle.rup_model.specs.declared.journal.Entry.{Entry}
use Rattle.rup_model.specs.declared.journal.Entry.TheVariants.{Add, Del, Reduce, Round}
use Rattle.rup_model.specs.Basics.{put, EachAfter, below, one_if}
use Rattle.rup_model.specs.Log.{Accepted}

-- How an entry is read; all that follows reads entries through these five

-- what the entry adds
abbrev pub addition : Entry → Option Addition
addition (Add x) = Some x
addition (Del r n) = None
addition (Reduce r) = None
addition (Round x) = None

-- the number that the entry deletes
abbrev pub deletion : Entry → Option ℕ
deletion (Add x) = None
deletion (Del r n) = Some n
deletion (Reduce r) = None
deletion (Round x) = None

-- the ring whose clauses are reduced from here on
abbrev pub reduction : Entry → Option ℕ
reduction (Add x) = None
reduction (Del r n) = None
reduction (Reduce r) = Some r
reduction (Round x) = None

-- who wrote the entry
abbrev pub ring_of : Entry → ℕ
ring_of (Add x) = x.ring
ring_of (Del r n) = r
ring_of (Reduce r) = r
ring_of (Round x) = RULER_RING

-- what the round begins with that the entry begins
abbrev pub round_of : Entry → Option RoundStart
round_of (Add x) = None
round_of (Del r n) = None
round_of (Reduce r) = None
round_of (Round x) = Some x

-- Numbers

-- the clauses that are alive, by their numbers, and the number of the next addition
pub record Book : Type 0 where
  pub clause : ℕ → Option (List Literal)
  pub next : ℕ

-- the formula's clauses have the numbers from 1 on, each in the order of `Clause`
abbrev pub formula_clause : List (List Literal) → ℕ → Option (List Literal)
formula_clause F zero = None
formula_clause F (suc i) = option_map clause_of (slice_get F i)

-- before any entry
abbrev pub formula_book : List (List Literal) → Book
formula_book F = record { clause = formula_clause F; next = suc (length F) }

-- how the ring spells a clause: the ruler in the order of `Clause`, the others as it stands
abbrev pub spelled_by : ℕ → List Literal → List Literal
spelled_by r c = if r == RULER_RING then clause_of c else c

-- how the one who added it spells the clause
abbrev pub spelled : Addition → List Literal
spelled x = spelled_by x.ring x.lits

-- an addition takes the next number
abbrev pub with_addition : Book → Option Addition → Book
with_addition b None = b
with_addition b (Some x) = record { clause = put b.clause b.next (Some (spelled x)); next = suc b.next }

-- the number has no clause any more
abbrev pub without_number : Book → Option ℕ → Book
without_number b None = b
without_number b (Some n) = record { clause = put b.clause n None; next = b.next }

-- these clauses stand in the order of `Clause` from here on
abbrev pub respelled : List ℕ → (ℕ → Option (List Literal)) → ℕ → Option (List Literal)
respelled ns f n = if list_any (λ m. m == n) ns then option_map clause_of (f n) else f n

-- the start clauses of a round are spelled in the order of `Clause` after it
abbrev pub with_round : Book → Option RoundStart → Book
with_round b None = b
with_round b (Some x) = record { clause = respelled x.starts b.clause; next = b.next }

-- after one more entry
abbrev pub book_after : Book → Entry → Book
book_after b e = with_round (without_number (with_addition b (addition e)) (deletion e)) (round_of e)

-- the clauses that are alive after the journal, by their numbers
abbrev pub book : List (List Literal) → List Entry → Book
book F J = fold book_after (formula_book F) J

-- 1 if there is a clause with the literals of c
abbrev pub copies_at : List Literal → Option (List Literal) → ℕ
copies_at c None = 0
copies_at c (Some d) = one_if (same_set c d)

-- how many numbers have a clause with the literals of c
abbrev pub copies_in : List Literal → Book → ℕ
copies_in c b = below b.next (λ n. copies_at c (b.clause n))

-- Lines

-- the line that adds it
abbrev pub line_of_addition : Addition → Line
line_of_addition x = AddLine x.lits

-- the line of the ring's deletion of the clause with this number
abbrev pub line_of_deletion : Book → ℕ → ℕ → Line
line_of_deletion b r n = DelLine (spelled_by r (unwrap_or (b.clause n) []))

-- the line of an entry, if it has one
abbrev pub lines_after : Book → Entry → List Line
lines_after b e = option_to_list (option_map line_of_addition (addition e)) ++ option_to_list (option_map (line_of_deletion b (ring_of e)) (deletion e))

-- the lines of entries, if some clauses are alive
abbrev pub lines_from : Book → List Entry → List Line
lines_from b [] = []
lines_from b (e ∷ J) = lines_after b e ++ lines_from (book_after b e) J

-- the lines of a journal
abbrev pub lines : List (List Literal) → List Entry → List Line
lines F J = lines_from (formula_book F) J

-- Journals that fit

-- an addition takes the next number; a deletion names a clause of two literals or more that is alive
pub record IsFit (b : Book) (e : Entry) : Type 0 where
  pub numbered : IfSome (addition e) (λ x. x.number ≡ b.next)
  pub names : IfSome (deletion e) (λ n. (c : List Literal) × (b.clause n ≡ Some c) × (two_or_more c ≡ true))

-- additions are numbered in order; a deletion names a clause of two literals or more that stands before it and that no
-- earlier deletion names
abbrev pub Fits : List (List Literal) → List Entry → Type 0
Fits F J = EachAfter (λ before e. IsFit (book F before) e) [] J

-- Clauses added

-- the additions, in order
abbrev pub additions : List Entry → List Addition
additions J = filter_map addition J

-- the clauses that they add
abbrev pub added : List Entry → List (List Literal)
added J = map (λ x. x.lits) (additions J)

-- the empty clause was given or added
abbrev pub ended : List (List Literal) → List Entry → Bool
ended F J = list_any is_empty (F ++ added J)

-- nothing stands after an addition of the empty clause
abbrev pub EmptyLast : List Entry → Type 0
EmptyLast J = EachAfter (λ before e. list_any is_empty (added before) ≡ false) [] J

-- each line is valid where it stands, the numbers fit, and nothing stands after the empty clause
pub record LogSound (F : List (List Literal)) (J : List Entry) : Type 0 where
  pub fits : Fits F J
  pub accepted : Accepted F (lines F J)
  pub empty_last : EmptyLast J

-- the unit is in the formula or was added
abbrev pub is_told : List (List Literal) → List Entry → Literal → Bool
is_told F J l = list_any (same_set (l ∷ [])) (F ++ added J)

-- Clauses learned

-- learned from a conflict
abbrev pub is_learn : Kind → Bool
is_learn Ruler = false
is_learn Learn = true
is_learn Derive = false
is_learn UnitLine = false

-- the clauses that the ring learned, in order
abbrev pub learned : ℕ → List Entry → List (List Literal)
learned r J = map (λ x. x.lits) (filter (λ x. (x.ring == r) && is_learn x.kind) (additions J))

-- the ring is this one
abbrev pub is_ring : ℕ → Option ℕ → Bool
is_ring r None = false
is_ring r (Some q) = q == r

-- a Reduce of the ring forgets what it learned before
abbrev pub recent_after : ℕ → List (List Literal) → Entry → List (List Literal)
recent_after r cs e = if is_ring r (reduction e) then [] else cs ++ learned r (e ∷ [])

-- the clauses that the ring learned since its last Reduce, in order
abbrev pub recent : ℕ → List Entry → List (List Literal)
recent r J = fold (recent_after r) [] J

-- the clause contains no start clause and none that the ring learned since its last Reduce
abbrev pub fresh : List (List Literal) → List Entry → ℕ → List Literal → Bool
fresh starts J r c = not (list_any (includes c) (starts ++ recent r J))

-- a clause that is learned is fresh after the entries before it
abbrev pub IsFresh : List (List Literal) → List Entry → Entry → Type 0
IsFresh starts before e = IfSome (addition e) (λ x. is_learn x.kind ≡ true → fresh starts before x.ring x.lits ≡ true)

-- a ring that reduces has learned enough clauses since it last did
abbrev pub IsSpaced : List Entry → Entry → Type 0
IsSpaced before e = IfSome (reduction e) (λ r. LEARNED_PER_REDUCTION ≤ length (recent r before))
