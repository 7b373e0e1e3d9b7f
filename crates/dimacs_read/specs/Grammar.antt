-- The DIMACS CNF format: a text is cut into lines, and a line into tokens.
use Rattle.std.specs.Prelude.{ℕ, ◌+◌, ◌-◌, ◌*◌, ◌^◌, Bool, true, false, not, ◌&&◌, ◌||◌, ◌==◌, nat_lt, nat_le, List, [], ◌∷◌, ◌++◌, length, filter, codes, bytes_eq, if◌then◌else◌, Result, Some, None, Ok, Err}
use Rattle.std.specs.declared.option.Option.{Option}
use Rattle.std.specs.List.{list_all}
use Rattle.sat_words.specs.Literal.{Literal}
use Rattle.sat_words.specs.Clause.{clause_of}
use Rattle.sat_words.specs.FormulaData.{FormulaData}
use Rattle.dimacs_read.specs.declared.stop.Code.{Code}
use Rattle.dimacs_read.specs.declared.stop.Code.TheVariants.{NoHeader, BadHeader, BadToken, LiteralRange, TooManyClauses, TooFewClauses, OpenClause, Limit}

-- the members before the first that passes the test
abbrev pub front : {X : Type 0} → (X → Bool) → List X → List X
front test [] = []
front test (x ∷ xs) = if test x then [] else x ∷ front test xs

-- what stands between and after the members that pass the test
abbrev pub later : {X : Type 0} → (X → Bool) → List X → List (List X)
later test [] = []
later test (x ∷ xs) = if test x then front test xs ∷ later test xs else later test xs

-- the parts of a list, cut at the members that pass the test
abbrev pub split : {X : Type 0} → (X → Bool) → List X → List (List X)
split test xs = front test xs ∷ later test xs

-- the byte ends a line
abbrev pub is_newline : ℕ → Bool
is_newline b = b == 10

-- tab, carriage return or space
abbrev pub is_blank : ℕ → Bool
is_blank b = b == 9 || b == 13 || b == 32

-- the byte is a decimal digit
abbrev pub is_digit : ℕ → Bool
is_digit b = nat_le 48 b && nat_le b 57

-- the lines of a text, without the newlines between them
abbrev pub lines : List ℕ → List (List ℕ)
lines text = split is_newline text

-- the line is not empty
abbrev pub has_bytes : List ℕ → Bool
has_bytes [] = false
has_bytes (b ∷ bytes) = true

-- the tokens of a line: its longest parts without a blank
abbrev pub tokens : List ℕ → List (List ℕ)
tokens line = filter has_bytes (split is_blank line)

-- the first byte of a line that is no blank; if there is none, the newline
abbrev pub mark : List ℕ → ℕ
mark [] = 10
mark (b ∷ line) = if is_blank b then mark line else b

-- the value of digits in decimal, after digits of this value
abbrev pub value_from : ℕ → List ℕ → ℕ
value_from n [] = n
value_from n (b ∷ bytes) = value_from (10 * n + (b - 48)) bytes

-- the value of a number: one digit or more
abbrev pub number : List ℕ → Option ℕ
number token = if has_bytes token && list_all is_digit token then Some (value_from 0 token) else None

-- the literal of a variable and a sign; 0 has no negative one
abbrev pub signed : Bool → Option ℕ → Option Literal
signed neg None = None
signed neg (Some n) = if neg && n == 0 then None else Some (record { var = n; neg = neg })

-- what an integer token stands for: a number, or a minus sign and a number that isn't 0
abbrev pub integer : List ℕ → Option Literal
integer [] = None
integer (b ∷ token) = if b == 45 then signed true (number token) else signed false (number (b ∷ token))

-- if something stands that may be bad, by its line
pub data Item : Type 0 where
  -- a token, by what it stands for
  Token : Option Literal → Item
  -- the % that ends the formula
  Mark : Item
  -- the end of the input
  End : Item

-- a place of the input: its line, from 1, and what stands there
pub record Place : Type 0 where
  pub line : ℕ
  pub item : Item

-- the tokens of lines, each at its line, from this line on
abbrev pub token_places : ℕ → List (List ℕ) → List Place
token_places line [] = []
token_places line (token ∷ more) = (record { line = line; item = Token (integer token) }) ∷ token_places line more

-- the places of the lines that follow this many others: comments have none, and nothing after the % has
abbrev pub places : ℕ → List (List ℕ) → List Place
places before [] = record { line = before; item = End } ∷ []
places before (line ∷ more) =
    if mark line == 37 then record { line = before + 1; item = Mark } ∷ []
    else if mark line == 99 then places (before + 1) more
    else token_places (before + 1) (tokens line) ++ places (before + 1) more

-- why the place is bad, if `ended` clauses were ended before it and the next has `open` literals
abbrev pub fault : (vars clauses ended begun : ℕ) → Item → Option Code
fault vars clauses ended begun (Token None) = Some BadToken
fault vars clauses ended begun (Token (Some l)) =
    if begun == 0 && nat_le clauses ended then Some TooManyClauses
    else if nat_lt vars l.var then Some LiteralRange
    else if nat_le (2 ^ 20) begun && not (l.var == 0) then Some Limit
    else None
fault vars clauses ended begun Mark =
    if not (begun == 0) then Some BadToken else if nat_lt ended clauses then Some TooFewClauses else None
fault vars clauses ended begun End =
    if not (begun == 0) then Some OpenClause else if nat_lt ended clauses then Some TooFewClauses else None

-- the clauses ended, after this place
abbrev pub ended_by : List (List Literal) → List Literal → Item → List (List Literal)
ended_by ended begun (Token (Some l)) = if l.var == 0 then ended ++ clause_of begun ∷ [] else ended
ended_by ended begun _ = ended

-- the literals of the clause not yet ended, after this place
abbrev pub begun_by : List Literal → Item → List Literal
begun_by begun (Token (Some l)) = if l.var == 0 then [] else begun ++ l ∷ []
begun_by begun _ = begun

-- a bad place
pub record Fault : Type 0 where
  pub code : Code
  pub line : ℕ

-- the formula, or the first bad place
abbrev pub Outcome : Type 0
Outcome = Result FormulaData Fault

-- this code at this line, if there is one; else the outcome
abbrev pub unless : Option Code → ℕ → Outcome → Outcome
unless None line outcome = outcome
unless (Some code) line outcome = Err (record { code = code; line = line })

-- the first bad place of these, after some clauses and the literals of one that is open
abbrev pub judge : (vars clauses : ℕ) → List (List Literal) → List Literal → List Place → Outcome
judge vars clauses ended begun [] = Ok (record { vars = vars; clauses = ended })
judge vars clauses ended begun (place ∷ more) =
    unless (fault vars clauses (length ended) (length begun) place.item) place.line
    (judge vars clauses (ended_by ended begun place.item) (begun_by begun place.item) more)

-- the numbers of variables and of clauses
pub record Sizes : Type 0 where
  pub vars : ℕ
  pub clauses : ℕ

-- the two sizes of a header, if both are numbers
abbrev pub both : Option ℕ → Option ℕ → Option Sizes
both (Some vars) (Some clauses) = Some (record { vars = vars; clauses = clauses })
both _ _ = None

-- the tokens of the header line: p, cnf and two numbers
abbrev pub sizes : List (List ℕ) → Option Sizes
sizes (p ∷ cnf ∷ vars ∷ clauses ∷ []) =
    if bytes_eq p (codes "p") && bytes_eq cnf (codes "cnf") then both (number vars) (number clauses) else None
sizes _ = None

-- the text from the header line on, by what its header says and the lines after it
abbrev pub opening : ℕ → Option Sizes → List (List ℕ) → Outcome
opening line None more = Err (record { code = BadHeader; line = line })
opening line (Some s) more =
    if nat_le (2 ^ 28) s.vars || nat_le (2 ^ 28) s.clauses then Err (record { code = Limit; line = line })
    else judge s.vars s.clauses [] [] (places line more)

-- the lines that follow this many others: blank lines and comments may stand before the header
abbrev pub preamble : ℕ → List (List ℕ) → Outcome
preamble before [] = Err (record { code = NoHeader; line = before })
preamble before (line ∷ more) =
    if mark line == 10 || mark line == 99 then preamble (before + 1) more
    else if mark line == 112 then opening (before + 1) (sizes (tokens line)) more
    else Err (record { code = NoHeader; line = before + 1 })

-- what a text of any length is
abbrev pub outcome : List ℕ → Outcome
outcome text = preamble 0 (lines text)
