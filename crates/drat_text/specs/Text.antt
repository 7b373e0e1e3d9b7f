-- The text of a DRAT proof, one line for each clause that is added or deleted.
use Rattle.std.specs.Prelude.{ℕ, ◌^◌, List, ◌++◌, codes, All}
use Rattle.std.specs.List.{flat_map}
use Rattle.sat_words.specs.Literal.{Literal, IsOn, lit_text}
use Rattle.sat_words.specs.declared.line.Line.{Line}
use Rattle.sat_words.specs.declared.line.Line.TheVariants.{Add, Del}
use Rattle.rup_model.specs.Log.{lits_of}

-- the literals in their order, each followed by one space
abbrev pub lits_text : List Literal → List ℕ
lits_text lits = flat_map (λ lit. lit_text lit ++ codes " ") lits

-- the literals, after `d` if the clause is deleted, then `0` and a newline
abbrev pub line_text : Line → List ℕ
line_text (Add lits) = lits_text lits ++ codes "0\n"
line_text (Del lits) = codes "d " ++ lits_text lits ++ codes "0\n"

-- the lines, one after another
abbrev pub text : List Line → List ℕ
text lines = flat_map line_text lines

-- each variable of the line is one that a proof may name: 1 to 2^30
abbrev pub IsSpelled : Line → Type 0
IsSpelled x = All (IsOn (2 ^ 30)) (lits_of x)

-- so is each of the lines
abbrev pub CanBeSpelled : List Line → Type 0
CanBeSpelled L = All IsSpelled L
