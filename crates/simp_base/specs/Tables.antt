-- The clauses alive, and what is found by number and by literal.
use Rattle.std.specs.Prelude.{◌≡◌, ◌≢◌, ◌*◌, ℕ, ◌≤◌, ◌<◌, Bool, true, false, List, [], length, Contains, Option, Some, None, ◌∷◌}
use Rattle.std.specs.List.{slice_index_or, slice_get}
use Rattle.sat_words.specs.Literal.{Literal, opposite, code_of}
use Rattle.sat_words.specs.Clause.{has}
use Rattle.simp_base.specs.Removed.{Removed}
use Rattle.simp_base.specs.WorkState.{is_only}

-- the clauses with their numbers; the number of the next one; how many codes of literals there are; the numbers noted for
-- each literal, by its code; for how many more clauses and numbers there is room
pub record ClauseData : Type 0 where
  pub clauses : List (ℕ × List Literal)
  pub next : ℕ
  pub codes : ℕ
  pub noted : List (List ℕ)
  pub room : ℕ
  pub number_room : ℕ

-- the literal is a unit: a clause is it alone
abbrev pub IsUnit : List (ℕ × List Literal) → Literal → Type 0
IsUnit cells l = (n : ℕ) × Contains cells (n, l ∷ [])

-- the number of a clause that is the literal alone, if there is one
abbrev pub IsUnitNumber : List (ℕ × List Literal) → Literal → Option ℕ → Type 0
IsUnitNumber cells l (Some n) = Contains cells (n, l ∷ [])
IsUnitNumber cells l None = (n : ℕ) → Contains cells (n, l ∷ []) → ⊥

-- a unit whose negation is one too, if there is such a unit
abbrev pub IsClash : List (ℕ × List Literal) → Option Literal → Type 0
IsClash cells (Some l) = IsUnit cells l × IsUnit cells (opposite l)
IsClash cells None = (l : Literal) → IsUnit cells l → IsUnit cells (opposite l) → ⊥

-- what is noted for a literal that may stand alone in a clause with this number
abbrev pub alone_after : Option ℕ → Bool → ℕ → Option ℕ
alone_after (Some n) b number = Some n
alone_after None true number = Some number
alone_after None false number = None

-- a clash stays; else there is one if the clause's only literal has its negation noted
abbrev pub IsClashAfter : List (Option ℕ) → List Literal → Option Literal → Option Literal → Type 0
IsClashAfter alone lits (Some l) after = after ≡ Some l
IsClashAfter alone lits None (Some l) = (is_only l lits ≡ true) × (slice_index_or alone (code_of (opposite l)) None ≢ None)
IsClashAfter alone lits None None = (l : Literal) → is_only l lits ≡ true → slice_index_or alone (code_of (opposite l)) None ≡ None

-- each clause stands at the place that its number has, and is noted for each of its literals; it is known which literals
-- stand alone in a clause, and whether two of them are opposite; each variable has two codes
pub record IsTable (cells : List (ℕ × List Literal)) (places : List ℕ) (singles : List (Option ℕ)) (clash : Option Literal) (notes : List (List ℕ)) : Type 0 where
  pub placed : (k : ℕ) (d : ℕ × List Literal) → k < length cells → slice_get places (slice_index_or cells k d).0 ≡ Some k
  pub alone : (l : Literal) → code_of l < length singles → IsUnitNumber cells l (slice_index_or singles (code_of l) None)
  pub agree : IsClash cells clash
  pub noted : (n : ℕ) (c : List Literal) (l : Literal) → Contains cells (n, c) → has c l ≡ true → Contains (slice_index_or notes (code_of l) []) n
  pub wide : length notes ≡ length singles
  pub inside : (n : ℕ) (c : List Literal) (l : Literal) → Contains cells (n, c) → has c l ≡ true → code_of l < length singles
  pub even : (k : ℕ) × (length singles ≡ 2 * k)

-- all but the notes and the rooms
pub record SameClauses (old new : ClauseData) : Type 0 where
  pub clauses : new.clauses ≡ old.clauses
  pub next : new.next ≡ old.next
  pub codes : new.codes ≡ old.codes

-- a clause of these literals can be put under the next number
pub record IsReady (t : ClauseData) (lits : List Literal) : Type 0 where
  pub room : 1 ≤ t.room
  pub number_room : 1 ≤ t.number_room
  pub noted : (l : Literal) → has lits l ≡ true → Contains (slice_index_or t.noted (code_of l) []) t.next

-- what was noted still is
pub record KeptNotes (old new : List (List ℕ)) : Type 0 where
  pub kept : (k n : ℕ) → Contains (slice_index_or old k []) n → Contains (slice_index_or new k []) n
  pub wide : length new ≡ length old

-- and the number is noted for these literals
pub record Noted (old new : List (List ℕ)) (lits : List Literal) (number : ℕ) : Type 0 where
  pub kept : KeptNotes old new
  pub there : (l : Literal) → has lits l ≡ true → Contains (slice_index_or new (code_of l) []) number

-- the clause with this number is gone
pub record RemovedNumber (old new : List (ℕ × List Literal)) (number : ℕ) : Type 0 where
  pub place : ℕ
  pub here : (d : ℕ × List Literal) → (slice_index_or old place d).0 ≡ number
  pub removed : Removed old new place

-- the units in their order, each with the number of its clause; how many codes of literals there are; for how many more units and
-- codes there is room
pub record UnitData : Type 0 where
  pub items : List (Literal × ℕ)
  pub codes : ℕ
  pub room : ℕ
  pub code_room : ℕ
