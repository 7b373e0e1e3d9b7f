-- Worked inputs: what the definitions say of them, by computation.
use Rattle.std.proofs.Common.{◌≡◌, ℕ, true, false, List, [], ◌∷◌, refl}
use Rattle.std.specs.Prelude.{codes, Ok, Err}
use Rattle.sat_words.specs.Literal.{Literal}
use Rattle.dimacs_read.specs.Grammar.{Outcome, outcome}
use Rattle.dimacs_read.specs.declared.stop.Code.{Code}
use Rattle.dimacs_read.specs.declared.stop.Code.TheVariants.{NoHeader, BadHeader, BadToken, LiteralRange, TooManyClauses, TooFewClauses, OpenClause, Limit}

abbrev pos : ℕ → Literal
pos v = record { var = v; neg = false }

abbrev minus : ℕ → Literal
minus v = record { var = v; neg = true }

abbrev read : ℕ → List (List Literal) → Outcome
read vars clauses = Ok (record { vars = vars; clauses = clauses })

abbrev bad : Code → ℕ → Outcome
bad code line = Err (record { code = code; line = line })

plain : outcome (codes "p cnf 0 0\n") ≡ read 0 []
plain = refl

empty_clause : outcome (codes "p cnf 0 1\n0\n") ≡ read 0 ([] ∷ [])
empty_clause = refl

comment_and_lines : outcome (codes "c x\np cnf 3 3\n1 0 -1 2\n0 -2 -3 0\n") ≡ read 3 ((pos 1 ∷ []) ∷ (minus 1 ∷ pos 2 ∷ []) ∷ (minus 2 ∷ minus 3 ∷ []) ∷ [])
comment_and_lines = refl

repeats : outcome (codes "p cnf 2 3\n1 1 0\n2 -2 0\n-1 -2 -2 0") ≡ read 2 ((pos 1 ∷ []) ∷ (pos 2 ∷ minus 2 ∷ []) ∷ (minus 1 ∷ minus 2 ∷ []) ∷ [])
repeats = refl

percent : outcome (codes "p cnf 1 1\n-1 0\n%\n0\n") ≡ read 1 ((minus 1 ∷ []) ∷ [])
percent = refl

above_the_variables : outcome (codes "p cnf 1 1\n2 0\n") ≡ bad LiteralRange 2
above_the_variables = refl

too_few : outcome (codes "p cnf 2 2\n1 0\n") ≡ bad TooFewClauses 3
too_few = refl

too_many : outcome (codes "p cnf 2 0\n1 0\n") ≡ bad TooManyClauses 2
too_many = refl

open_at_the_end : outcome (codes "p cnf 2 1\n1 -2\n") ≡ bad OpenClause 3
open_at_the_end = refl

open_in_the_line : outcome (codes "p cnf 2 1\n1 -2") ≡ bad OpenClause 2
open_in_the_line = refl

no_header : outcome (codes "1 0\n") ≡ bad NoHeader 1
no_header = refl

no_sizes : outcome (codes "p cnf x 1\n") ≡ bad BadHeader 1
no_sizes = refl

many_variables : outcome (codes "p cnf 268435456 0\n") ≡ bad Limit 1
many_variables = refl

plus_sign : outcome (codes "p cnf 2 1\n1 +2 0\n") ≡ bad BadToken 2
plus_sign = refl

nothing : outcome [] ≡ bad NoHeader 1
nothing = refl

leading_zeros : outcome (codes "p  cnf  1  1\n01 0\n") ≡ read 1 ((pos 1 ∷ []) ∷ [])
leading_zeros = refl

two_zeros : outcome (codes "p cnf 1 1\n00\n") ≡ read 1 ([] ∷ [])
two_zeros = refl

minus_zero : outcome (codes "p cnf 1 1\n-0\n") ≡ bad BadToken 2
minus_zero = refl

comment_in_the_line : outcome (codes "p cnf 1 1\n1 c 0\n") ≡ bad BadToken 2
comment_in_the_line = refl

no_gap : outcome (codes "pcnf 1 1\n") ≡ bad BadHeader 1
no_gap = refl

a_token_more : outcome (codes "p cnf 1 1 x\n") ≡ bad BadHeader 1
a_token_more = refl

two_headers : outcome (codes "p cnf 1 1\np cnf 1 1\n") ≡ bad BadToken 2
two_headers = refl

no_room : outcome (codes "p cnf 0 0\n0\n") ≡ bad TooManyClauses 2
no_room = refl

percent_in_a_clause : outcome (codes "p cnf 1 1\n1\n%\n") ≡ bad BadToken 3
percent_in_a_clause = refl

percent_too_soon : outcome (codes "p cnf 2 2\n1 0\n%\n") ≡ bad TooFewClauses 3
percent_too_soon = refl

compressed : outcome (31 ∷ 139 ∷ 8 ∷ []) ≡ bad NoHeader 1
compressed = refl

long_size : outcome (codes "p cnf 99999999999999999999999 1\n") ≡ bad Limit 1
long_size = refl

long_literal : outcome (codes "p cnf 1 1\n99999999999999999999999 0\n") ≡ bad LiteralRange 2
long_literal = refl

carriage_returns : outcome (codes "p cnf 1 1\r\n-1 0\r\n") ≡ read 1 ((minus 1 ∷ []) ∷ [])
carriage_returns = refl
