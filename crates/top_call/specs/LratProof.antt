-- A proof in LRAT as its checkers follow it, line by line: which clauses are alive, by their numbers, and the last number given.
use Rattle.std.specs.Prelude.{◌≡◌, ⊤, ℕ, zero, suc, true, List, [], ◌∷◌, Some, None, IsSomeAnd, slice_get}
use Rattle.sat_words.specs.Literal.{Literal}
use Rattle.sat_words.specs.Clause.{same_set}
use Rattle.rup_model.specs.Basics.{put}
use Rattle.rup_model.specs.Hints.{Numbered, hinted}
use Rattle.rup_model.specs.NumberedLines.{NumberedLine, Added, Deleted}

-- the clauses of a formula have the numbers from 1 on
abbrev pub numbered_clauses : List (List Literal) → Numbered
numbered_clauses F zero = None
numbered_clauses F (suc i) = slice_get F i

-- the clauses that are alive after a line, by their numbers
abbrev pub alive_after : Numbered → NumberedLine → Numbered
alive_after at (Added number lits hints) = put at number (Some lits)
alive_after at (Deleted last number lits) = put at number None

-- the last number given, after a line
abbrev pub given_after : ℕ → NumberedLine → ℕ
given_after last (Added number lits hints) = number
given_after last (Deleted told number lits) = last

-- a clause is added under the next number, and its hints show that it follows; a deletion tells the last number given, and that of a
-- clause that is alive, with the literals of the line
abbrev pub IsLratStep : ℕ → Numbered → NumberedLine → Type 0
IsLratStep last at (Added number lits hints) = (number ≡ suc last) × (hinted at lits hints ≡ true)
IsLratStep last at (Deleted told number lits) = (told ≡ last) × IsSomeAnd (at number) (λ c. same_set c lits ≡ true)

-- each line is such a step from what stands before it
abbrev pub IsLratProof : ℕ → Numbered → List NumberedLine → Type 0
IsLratProof last at [] = ⊤
IsLratProof last at (line ∷ lines) = IsLratStep last at line × IsLratProof (given_after last line) (alive_after at line) lines
