-- What the rest of the header line means to a reader that stands in its midst.
use Rattle.std.specs.Prelude.{◌≡◌, ℕ, List, [], ◌∷◌, ◌++◌, filter, codes, if◌then◌else◌, MatchOption, Some, None}
use Rattle.std.specs.declared.option.Option.{Option}
use Rattle.std.specs.List.{list_all}
use Rattle.dimacs_read.specs.Grammar.{Sizes, front, later, is_blank, is_digit, has_bytes, tokens, value_from, number, both, sizes, opening}
use Rattle.dimacs_read.specs.declared.spot.HeaderState.{HeaderState}
use Rattle.dimacs_read.specs.declared.spot.HeaderState.TheVariants.{P, AfterP, C, Cn, Cnf, AfterCnf, Vars, AfterVars, Clauses, AfterClauses}

-- the number that digits spell after others of this value
abbrev pub digits_from : ℕ → List ℕ → Option ℕ
digits_from n bytes = if list_all is_digit bytes then Some (value_from n bytes) else None

-- the tokens after the one that a line begins with
abbrev pub later_tokens : List ℕ → List (List ℕ)
later_tokens line = filter has_bytes (later is_blank line)

-- the sizes, if the tokens after the number of variables are one number
abbrev pub behind_vars : Option ℕ → List (List ℕ) → Option Sizes
behind_vars vars (clauses ∷ []) = both vars (number clauses)
behind_vars vars _ = None

-- the sizes, if no token is behind the number of clauses
abbrev pub behind_clauses : Option ℕ → Option ℕ → List (List ℕ) → Option Sizes
behind_clauses vars clauses [] = both vars clauses
behind_clauses vars clauses (token ∷ more) = None

-- the sizes, by what is left of the header line
abbrev pub sizes_at : HeaderState → List ℕ → Option Sizes
sizes_at P line = sizes (tokens (codes "p" ++ line))
sizes_at AfterP line = sizes (tokens (codes "p " ++ line))
sizes_at C line = sizes (tokens (codes "p c" ++ line))
sizes_at Cn line = sizes (tokens (codes "p cn" ++ line))
sizes_at Cnf line = sizes (tokens (codes "p cnf" ++ line))
sizes_at AfterCnf line = sizes (tokens (codes "p cnf " ++ line))
sizes_at (Vars n) line = behind_vars (digits_from n (front is_blank line)) (later_tokens line)
sizes_at (AfterVars n) line = behind_vars (Some n) (tokens line)
sizes_at (Clauses n m) line = behind_clauses (Some n) (digits_from m (front is_blank line)) (later_tokens line)
sizes_at (AfterClauses n m) line = behind_clauses (Some n) (Some m) (tokens line)

-- two header lines open the same formula
abbrev pub Alike : Option Sizes → Option Sizes → Type 0
Alike a b = (line : ℕ) (more : List (List ℕ)) → opening line a more ≡ opening line b more

-- what the byte leads to in a header line; none if no line goes on so
abbrev pub HeaderLeads : HeaderState → ℕ → Option HeaderState → Type 0
HeaderLeads spot byte found = MatchOption found
    ((line : List ℕ) → sizes_at spot (byte ∷ line) ≡ None)
    (λ next. (line : List ℕ) → Alike (sizes_at next line) (sizes_at spot (byte ∷ line)))
