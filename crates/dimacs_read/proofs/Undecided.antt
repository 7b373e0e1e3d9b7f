-- Wherever a reader stands, its text can go on in two ways.
use Rattle.std.proofs.Common.{◌≡◌, ◌∙◌, ℕ, ◌+◌, ◌*◌, ◌^◌, Bool, true, false, cond, not, ◌&&◌, ◌||◌, List, [], ◌∷◌, length, sym, ap, refl, arith}
use Rattle.std.proofs.lemmas.Bool.Decides.{nat_tests}
use Rattle.std.specs.Prelude.{codes, nat_eq, nat_lt, nat_le, Ok, Err, Some, None, if◌then◌else◌}
use Rattle.std.specs.declared.option.Option.{Option}
use Rattle.sat_words.specs.Literal.{Literal}
use Rattle.sat_words.specs.FormulaData.{FormulaData}
use Rattle.dimacs_read.specs.Grammar.{Outcome, outcome, Place, Token, End, unless, judge, signed, opening, ended_by, begun_by}
use Rattle.dimacs_read.specs.Body.{judged}
use Rattle.dimacs_read.specs.State.{rest}
use Rattle.dimacs_read.specs.declared.body.Body.{Body}
use Rattle.dimacs_read.specs.declared.spot.HeaderState.{HeaderState}
use Rattle.dimacs_read.specs.declared.spot.HeaderState.TheVariants.{P, AfterP, C, Cn, Cnf, AfterCnf, Vars, AfterVars, Clauses, AfterClauses}
use Rattle.dimacs_read.specs.declared.spot.State.{State}
use Rattle.dimacs_read.specs.declared.spot.State.TheVariants.{Preamble, PreambleComment, Header, Line, Comment, Gap, Minus, Number}
use Rattle.dimacs_read.specs.declared.stop.Code.{Code}
use Rattle.dimacs_read.specs.declared.stop.Code.TheVariants.{BadHeader, BadToken, LiteralRange, TooManyClauses, TooFewClauses, OpenClause, Limit}

is_header_code : Code → Bool
is_header_code BadHeader = true
is_header_code _ = false

is_token_code : Code → Bool
is_token_code BadToken = true
is_token_code _ = false

-- the header line is bad
bad_header : Outcome → Bool
bad_header (Ok formula) = false
bad_header (Err place) = is_header_code place.code

-- a token is bad
bad_token : Outcome → Bool
bad_token (Ok formula) = false
bad_token (Err place) = is_token_code place.code

apart : (test : Outcome → Bool) (p q found : Outcome) → test p ≡ true → test q ≡ false → p ≡ found → q ≡ found → ⊥
apart test p q found here there first second =
    let one : true ≡ false = sym here ∙ ap test (first ∙ sym second) ∙ there in
    cc

ending_by : (s t : Bool) (line : ℕ) (formula : FormulaData)
    → bad_token (unless (if not s then Some OpenClause else if t then Some TooFewClauses else None) line (Ok formula)) ≡ false
unfolding bad_token is_token_code
ending_by true true line formula = refl
ending_by true false line formula = refl
ending_by false true line formula = refl
ending_by false false line formula = refl

ending : (vars clauses : ℕ) (ended : List (List Literal)) (begun : List Literal) (line : ℕ) → bad_token (judge vars clauses ended begun (record { line = line; item = End } ∷ [])) ≡ false
ending vars clauses ended begun line = ending_by (nat_eq (length begun) 0) (nat_lt (length ended) clauses) line (record { vars = vars; clauses = ended })

literal_by : (s t u : Bool) (line : ℕ) (more : Outcome) → bad_token more ≡ false
    → bad_token (unless (if s then Some TooManyClauses else if t then Some LiteralRange else if u then Some Limit else None) line more) ≡ false
unfolding bad_token is_token_code
literal_by true t u line more none = refl
literal_by false true u line more none = refl
literal_by false false true line more none = refl
literal_by false false false line more none = none

literal_ending : (b : Body) (l : Literal) (line : ℕ)
    → bad_token (judged b (record { line = line; item = Token (Some l) } ∷ record { line = line; item = End } ∷ [])) ≡ false
literal_ending b l line =
    literal_by (nat_eq (length b.begun.items) 0 && nat_le b.clauses (length b.formula.clauses)) (nat_lt b.formula.vars l.var)
    (nat_le (2 ^ 20) (length b.begun.items) && not (nat_eq l.var 0)) line _
    (ending b.formula.vars b.clauses (ended_by b.formula.clauses b.begun.items (Token (Some l))) (begun_by b.begun.items (Token (Some l))) line)

token_ending : (b : Body) (token : Option Literal) (line : ℕ) (l : Literal) → token ≡ Some l
    → bad_token (judged b (record { line = line; item = Token token } ∷ record { line = line; item = End } ∷ [])) ≡ false
token_ending b token line l is = ap (λ (t : Option Literal). bad_token (judged b (record { line = line; item = Token t } ∷ record { line = line; item = End } ∷ []))) is ∙ literal_ending b l line

no_token : (b : Body) (token : Option Literal) (line : ℕ) (more : List Place) → token ≡ None → bad_token (judged b (record { line = line; item = Token token } ∷ more)) ≡ true
unfolding bad_token is_token_code
no_token b token line more is = rw is refl

-- a number of a sign that is none, or not
number_by : (zero : Bool) (neg : Bool) (n : ℕ) → (neg && nat_eq n 0) ≡ zero → (before : ℕ) (b : Body) (found : Outcome)
    → ((more : List ℕ) → rest (Number neg n) before b more ≡ found) → ⊥
number_by true neg n is before b found all =
    let none : signed neg (Some n) ≡ None = rw is refl in
    let positive : nat_eq (10 * n + 1) 0 ≡ false = grind (arith, nat_tests) in
    apart bad_token (rest (Number neg n) before b []) (rest (Number neg n) before b (codes "1")) found
    (no_token b (signed neg (Some n)) (before + 1) (record { line = before + 1; item = End } ∷ []) none)
    (token_ending b (signed neg (Some (10 * n + 1))) (before + 1) (record { var = 10 * n + 1; neg = neg }) (some_more neg (10 * n + 1) positive))
    (all []) (all (codes "1"))
  where
    some_more : (neg : Bool) (m : ℕ) → nat_eq m 0 ≡ false → signed neg (Some m) ≡ Some (record { var = m; neg = neg })
    some_more true m e = rw e refl
    some_more false m e = refl
number_by false neg n is before b found all =
    let some : signed neg (Some n) ≡ Some (record { var = n; neg = neg }) = rw is refl in
    apart bad_token (rest (Number neg n) before b (codes "x")) (rest (Number neg n) before b []) found
    (no_token b None (before + 1) (record { line = before + 1; item = End } ∷ []) refl)
    (token_ending b (signed neg (Some n)) (before + 1) (record { var = n; neg = neg }) some)
    (all (codes "x")) (all [])

sized_by : (t : Bool) (line : ℕ) (more : Outcome) → bad_header more ≡ false → bad_header (cond t (Err (record { code = Limit; line = line })) more) ≡ false
unfolding bad_header is_header_code
sized_by true line more none = refl
sized_by false line more none = none

opened_by : (s t : Bool) (line : ℕ) (formula : FormulaData)
    → bad_header (unless (if not s then Some OpenClause else if t then Some TooFewClauses else None) line (Ok formula)) ≡ false
unfolding bad_header is_header_code
opened_by true true line formula = refl
opened_by true false line formula = refl
opened_by false true line formula = refl
opened_by false false line formula = refl

sized : (m n line : ℕ) → bad_header (opening line (Some (record { vars = m; clauses = n })) []) ≡ false
sized m n line = sized_by (nat_le (2 ^ 28) m || nat_le (2 ^ 28) n) line _ (opened_by true (nat_lt 0 n) line (record { vars = m; clauses = [] }))

header_undecided : (spot : HeaderState) (before : ℕ) (b : Body) (found : Outcome) → ((more : List ℕ) → rest (Header spot) before b more ≡ found) → ⊥
unfolding bad_header is_header_code
header_undecided P before b found all = apart bad_header (rest (Header P) before b []) (rest (Header P) before b (codes " cnf 0 0")) found refl refl (all []) (all (codes " cnf 0 0"))
header_undecided AfterP before b found all = apart bad_header (rest (Header AfterP) before b []) (rest (Header AfterP) before b (codes "cnf 0 0")) found refl refl (all []) (all (codes "cnf 0 0"))
header_undecided C before b found all = apart bad_header (rest (Header C) before b []) (rest (Header C) before b (codes "nf 0 0")) found refl refl (all []) (all (codes "nf 0 0"))
header_undecided Cn before b found all = apart bad_header (rest (Header Cn) before b []) (rest (Header Cn) before b (codes "f 0 0")) found refl refl (all []) (all (codes "f 0 0"))
header_undecided Cnf before b found all = apart bad_header (rest (Header Cnf) before b []) (rest (Header Cnf) before b (codes " 0 0")) found refl refl (all []) (all (codes " 0 0"))
header_undecided AfterCnf before b found all = apart bad_header (rest (Header AfterCnf) before b []) (rest (Header AfterCnf) before b (codes "0 0")) found refl refl (all []) (all (codes "0 0"))
header_undecided (Vars n) before b found all = apart bad_header (rest (Header (Vars n)) before b []) (rest (Header (Vars n)) before b (codes " 0")) found refl (sized n 0 (before + 1)) (all []) (all (codes " 0"))
header_undecided (AfterVars n) before b found all = apart bad_header (rest (Header (AfterVars n)) before b []) (rest (Header (AfterVars n)) before b (codes "0")) found refl (sized n 0 (before + 1)) (all []) (all (codes "0"))
header_undecided (Clauses m n) before b found all = apart bad_header (rest (Header (Clauses m n)) before b (codes "x")) (rest (Header (Clauses m n)) before b []) found refl (sized m n (before + 1)) (all (codes "x")) (all [])
header_undecided (AfterClauses m n) before b found all = apart bad_header (rest (Header (AfterClauses m n)) before b (codes "x")) (rest (Header (AfterClauses m n)) before b []) found refl (sized m n (before + 1)) (all (codes "x")) (all [])

end_of : (before : ℕ) (b : Body) → bad_token (judged b (record { line = before; item = End } ∷ [])) ≡ false
end_of before b = ending b.formula.vars b.clauses b.formula.clauses b.begun.items before

-- no outcome is determined before anything was read
pub nothing_shown : (found : Outcome) → ((more : List ℕ) → outcome more ≡ found) → ⊥
unfolding bad_header is_header_code bad_token is_token_code
nothing_shown found all = apart bad_header (outcome (codes "p")) (outcome []) found refl refl (all (codes "p")) (all [])

-- no outcome is determined, however much was read
pub undecided : (spot : State) (before : ℕ) (b : Body) (found : Outcome) → ((more : List ℕ) → rest spot before b more ≡ found) → ⊥
unfolding bad_header is_header_code bad_token is_token_code
undecided Preamble before b found all = apart bad_header (rest Preamble before b (codes "p")) (rest Preamble before b []) found refl refl (all (codes "p")) (all [])
undecided PreambleComment before b found all = apart bad_header (rest PreambleComment before b (codes "\np")) (rest PreambleComment before b []) found refl refl (all (codes "\np")) (all [])
undecided (Header spot) before b found all = header_undecided spot before b found all
undecided Line before b found all = apart bad_token (rest Line before b (codes "x")) (rest Line before b []) found refl (end_of (before + 1) b) (all (codes "x")) (all [])
undecided Comment before b found all = apart bad_token (rest Comment before b (codes "\nx")) (rest Comment before b []) found refl (end_of (before + 1) b) (all (codes "\nx")) (all [])
undecided Gap before b found all = apart bad_token (rest Gap before b (codes "x")) (rest Gap before b []) found refl (end_of (before + 1) b) (all (codes "x")) (all [])
undecided Minus before b found all = apart bad_token (rest Minus before b []) (rest Minus before b (codes "1")) found refl (literal_ending b (record { var = 1; neg = true }) (before + 1)) (all []) (all (codes "1"))
undecided (Number neg n) before b found all = number_by (neg && nat_eq n 0) neg n refl before b found all
