-- The bytes of a line in binary DRAT.
use Rattle.std.specs.Prelude.{ℕ, zero, suc, ◌+◌, ◌/◌, ◌%◌, nat_lt, List, [], ◌∷◌, ◌++◌, if◌then◌else◌}
use Rattle.std.specs.List.{flat_map}
use Rattle.sat_words.specs.Literal.{Literal, code_of}
use Rattle.sat_words.specs.declared.line.Line.{Line}
use Rattle.sat_words.specs.declared.line.Line.TheVariants.{Add, Del}

-- a number in as few groups of seven bits as hold it, at most k, low first, with 128 added to each but the last
unfoldable pub groups : ℕ → ℕ → List ℕ
groups zero number = []
groups (suc k) number = if nat_lt number 128 then number ∷ [] else (number % 128 + 128) ∷ groups k (number / 128)

-- the literal's code: five groups hold 35 bits
abbrev pub lit_bytes : Literal → List ℕ
lit_bytes lit = groups 5 (code_of lit)

-- the literals in their order
abbrev pub lits_bytes : List Literal → List ℕ
lits_bytes lits = flat_map lit_bytes lits

-- the literals, after a byte that says what the line does, and a zero
abbrev pub marked_bytes : ℕ → List Literal → List ℕ
marked_bytes mark lits = mark ∷ lits_bytes lits ++ 0 ∷ []

-- 97 is `a`, for a clause that is added, and 100 is `d`, for one that is deleted
abbrev pub line_bytes : Line → List ℕ
line_bytes (Add lits) = marked_bytes 97 lits
line_bytes (Del lits) = marked_bytes 100 lits
