-- Lines of clauses, read one after another.
use Rattle.std.proofs.Common.{◌≡◌, ◌∙◌, ℕ, ◌+◌, ◌<◌, ◌≤◌, ◌^◌, List, [], ◌∷◌, ◌++◌, length, map, refl, ap, sym, arith, append_assoc, append-nil, length-append, suc, Bool, true, false}
use Rattle.std.specs.Prelude.{⊤, All, Some, None, Ok, ◌&&◌, not, nat_eq, nat_le, nat_lt}
use Rattle.std.specs.declared.option.Option.{Option}
use Rattle.std.proofs.lemmas.Bool.Decides.{nat_tests}
use Rattle.sat_words.specs.Literal.{Literal, IsOn, lit_text}
use Rattle.sat_words.specs.Clause.{clause_of}
use Rattle.sat_words.specs.declared.line.Line.TheVariants.{Add}
use Rattle.drat_text.specs.Text.{lits_text, text}
use Rattle.dimacs_read.specs.Grammar.{Place, Token, fault, judge, ended_by, begun_by, unless, places, token_places, tokens, lines, is_newline, mark}
use Rattle.dimacs_read.specs.declared.stop.Code.{Code}
use Rattle.top_call.specs.Plain.{IsWritten}
use Rattle.top_call.proofs.PlainNumbers.{integer_lit_text, lit_text_from, lit_text_has_bytes}
use Rattle.top_call.proofs.PlainTokens.{Free, free_both, cut, from_blank_free, from_newline_free, first_token, mark_of_word}

-- the line of a clause, without its newline
abbrev pub clause_line : List Literal → List ℕ
clause_line c = lits_text c ++ 48 ∷ []

line_first : (l : Literal) (c : List Literal) → clause_line (l ∷ c) ≡ lit_text l ++ 32 ∷ clause_line c
line_first l c = append_assoc (lit_text l ++ 32 ∷ []) (lits_text c) (48 ∷ []) ∙ append_assoc (lit_text l) (32 ∷ []) (clause_line c)

-- the literals are on variables that can be spelled
abbrev pub Lawful : ℕ → List Literal → Type 0
Lawful vars [] = ⊤
Lawful vars (l ∷ c) = IsOn vars l × Lawful vars c

lawful : (vars : ℕ) (c : List Literal) → All (IsOn vars) c → Lawful vars c
lawful vars [] p = tt
lawful vars (l ∷ c) p = (p 0 l (omega arith), lawful vars c (λ k d h. p (suc k) d (omega arith)))

-- each clause can be written
abbrev pub AllWritten : ℕ → List (List Literal) → Type 0
AllWritten vars [] = ⊤
AllWritten vars (c ∷ cs) = (length c ≤ 2 ^ 20) × Lawful vars c × AllWritten vars cs

pub all_written : (vars : ℕ) (cs : List (List Literal)) → All (IsWritten vars) cs → AllWritten vars cs
all_written vars [] p = tt
all_written vars (c ∷ cs) p =
    let first = p 0 c (omega arith) in
    (first.few, lawful vars c first.on_variables, all_written vars cs (λ k d h. p (suc k) d (omega arith)))

line_newline_free : (vars : ℕ) (c : List Literal) → vars < 2 ^ 28 → Lawful vars c → Free is_newline (clause_line c)
line_newline_free vars [] few p = (refl, tt)
line_newline_free vars (l ∷ c) few (on, p) =
    rw (line_first l c)
    (free_both is_newline (lit_text l) (32 ∷ clause_line c) (from_newline_free 45 (lit_text l) (omega arith) (lit_text_from l on.low (omega (arith, on.high))))
    (refl, line_newline_free vars c few p))

line_tokens : (vars : ℕ) (c : List Literal) → vars < 2 ^ 28 → Lawful vars c → tokens (clause_line c) ≡ map lit_text c ++ (48 ∷ []) ∷ []
line_tokens vars [] few p = refl
line_tokens vars (l ∷ c) few (on, p) =
    let high : l.var < 2 ^ 64 = omega (arith, on.high) in
    ap tokens (line_first l c) ∙ first_token (lit_text l) (clause_line c) (from_blank_free 45 (lit_text l) (omega arith) (lit_text_from l on.low high)) (lit_text_has_bytes l on.low high)
    ∙ ap (λ (ts : List (List ℕ)). lit_text l ∷ ts) (line_tokens vars c few p)

line_mark : (vars : ℕ) (c : List Literal) → vars < 2 ^ 28 → Lawful vars c → (nat_eq (mark (clause_line c)) 37 ≡ false) × (nat_eq (mark (clause_line c)) 99 ≡ false)
line_mark vars [] few p = (refl, refl)
line_mark vars (l ∷ c) few (on, p) =
    let high : l.var < 2 ^ 64 = omega (arith, on.high) in
    rw (line_first l c) (mark_of_word (lit_text l) (32 ∷ clause_line c) (lit_text_from l on.low high) (lit_text_has_bytes l on.low high))

and_false : (a : Bool) → (a && false) ≡ false
and_false true = refl
and_false false = refl

-- a place that is not bad
good : (vars clauses line : ℕ) (ended : List (List Literal)) (begun : List Literal) (l : Literal) (more : List Place)
    → fault vars clauses (length ended) (length begun) (Token (Some l)) ≡ None
    → judge vars clauses ended begun (record { line = line; item = Token (Some l) } ∷ more)
    ≡ judge vars clauses (ended_by ended begun (Token (Some l))) (begun_by begun (Token (Some l))) more
good vars clauses line ended begun l more e = ap (λ (c : Option Code). unless c line (judge vars clauses (ended_by ended begun (Token (Some l))) (begun_by begun (Token (Some l))) more)) e

no_fault : (vars clauses e b : ℕ) (l : Literal) → e < clauses → l.var ≤ vars → (nat_le (2 ^ 20) b && not (nat_eq l.var 0)) ≡ false
    → fault vars clauses e b (Token (Some l)) ≡ None
no_fault vars clauses e b l room on small =
    let open_yet : nat_le clauses e ≡ false = grind (arith, nat_tests) in
    let within : nat_lt vars l.var ≡ false = grind (arith, nat_tests) in
    rw (open_yet, and_false (nat_eq b 0), within, small) refl

-- the literals of a line, and its 0
clause_places : (vars clauses line : ℕ) (ended : List (List Literal)) (begun c : List Literal) (more : List Place)
    → vars < 2 ^ 28 → length ended < clauses → length begun + length c ≤ 2 ^ 20 → Lawful vars c
    → judge vars clauses ended begun (token_places line (map lit_text c ++ (48 ∷ []) ∷ []) ++ more)
    ≡ judge vars clauses (ended ++ clause_of (begun ++ c) ∷ []) [] more
clause_places vars clauses line ended begun [] more few room short p =
    good vars clauses line ended begun (record { var = 0; neg = false }) more
    (no_fault vars clauses (length ended) (length begun) (record { var = 0; neg = false }) room (omega arith) (and_false (nat_le (2 ^ 20) (length begun))))
    ∙ ap (λ (d : List Literal). judge vars clauses (ended ++ clause_of d ∷ []) [] more) (let e : begun ≡ begun ++ [] = sym (append-nil begun) in e)
clause_places vars clauses line ended begun (l ∷ c) more few room short (on, p) =
    let low : 0 < l.var = on.low in
    let some : nat_eq l.var 0 ≡ false = grind (arith, nat_tests) in
    let small : nat_le (2 ^ 20) (length begun) ≡ false = grind (arith, nat_tests) in
    let shorter : length (begun ++ l ∷ []) + length c ≤ 2 ^ 20 = simp length-append (omega arith) in
    ap (λ (t : Option Literal). judge vars clauses ended begun (record { line = line; item = Token t } ∷ (token_places line (map lit_text c ++ (48 ∷ []) ∷ []) ++ more)))
    (integer_lit_text l low (omega (arith, on.high)))
    ∙ good vars clauses line ended begun l (token_places line (map lit_text c ++ (48 ∷ []) ∷ []) ++ more)
    (no_fault vars clauses (length ended) (length begun) l room on.high (rw small refl))
    ∙ rw some (clause_places vars clauses line ended (begun ++ l ∷ []) c more few room shorter p)
    ∙ ap (λ (d : List Literal). judge vars clauses (ended ++ clause_of d ∷ []) [] more) (append_assoc begun (l ∷ []) c)

next_line : (vars before : ℕ) (c : List Literal) (more : List (List ℕ)) → vars < 2 ^ 28 → Lawful vars c
    → places before (clause_line c ∷ more) ≡ token_places (before + 1) (map lit_text c ++ (48 ∷ []) ∷ []) ++ places (before + 1) more
next_line vars before c more few p =
    let marks = line_mark vars c few p in
    rw (marks.0, marks.1) (ap (λ (ts : List (List ℕ)). token_places (before + 1) ts ++ places (before + 1) more) (line_tokens vars c few p))

text_first : (c : List Literal) (cs : List (List Literal)) → text (map Add (c ∷ cs)) ≡ clause_line c ++ 10 ∷ text (map Add cs)
text_first c cs =
    append_assoc (lits_text c) (48 ∷ 10 ∷ []) (text (map Add cs)) ∙ sym (append_assoc (lits_text c) (48 ∷ []) (10 ∷ text (map Add cs)))

pub clauses_read : (vars clauses before : ℕ) (ended written : List (List Literal)) → vars < 2 ^ 28 → length ended + length written ≡ clauses
    → AllWritten vars written
    → judge vars clauses ended [] (places before (lines (text (map Add written)))) ≡ Ok (record { vars = vars; clauses = ended ++ map clause_of written })
clauses_read vars clauses before ended [] few count p =
    let enough : nat_lt (length ended) clauses ≡ false = grind (arith, nat_tests) in
    rw enough (ap (λ (cs : List (List Literal)). Ok (record { vars = vars; clauses = cs })) (let e : ended ≡ ended ++ [] = sym (append-nil ended) in e))
clauses_read vars clauses before ended (c ∷ cs) few count (short, on, p) =
    let next : length (ended ++ clause_of c ∷ []) + length cs ≡ clauses = simp length-append (omega arith) in
    ap (λ (t : List ℕ). judge vars clauses ended [] (places before (lines t))) (text_first c cs)
    ∙ ap (λ (ls : List (List ℕ)). judge vars clauses ended [] (places before ls))
    (cut is_newline (clause_line c) (text (map Add cs)) 10 (line_newline_free vars c few on) refl)
    ∙ ap (judge vars clauses ended []) (next_line vars before c (lines (text (map Add cs))) few on)
    ∙ clause_places vars clauses (before + 1) ended [] c (places (before + 1) (lines (text (map Add cs)))) few (omega arith) (omega (arith, short)) on
    ∙ clauses_read vars clauses (before + 1) (ended ++ clause_of c ∷ []) cs few next p
    ∙ ap (λ (ds : List (List Literal)). Ok (record { vars = vars; clauses = ds })) (append_assoc ended (clause_of c ∷ []) (map clause_of cs))
