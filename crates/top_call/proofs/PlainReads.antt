-- The plain form is read as its formula.
use Rattle.std.proofs.Common.{◌≡◌, ◌∙◌, ℕ, ◌<◌, ◌^◌, List, [], ◌∷◌, ◌++◌, length, map, refl, ap, sym, arith, append_assoc, false, codes}
use Rattle.std.specs.Prelude.{Some, Ok, nat_le}
use Rattle.std.specs.Fmt.{decimal}
use Rattle.std.specs.declared.option.Option.{Option}
use Rattle.std.proofs.lemmas.Bool.Decides.{nat_tests}
use Rattle.sat_words.specs.Literal.{Literal}
use Rattle.sat_words.specs.FormulaData.{FormulaData}
use Rattle.sat_words.specs.declared.line.Line.TheVariants.{Add}
use Rattle.drat_text.specs.Text.{text}
use Rattle.dimacs_read.specs.Grammar.{outcome, preamble, opening, judge, places, lines, tokens, sizes, Sizes, is_newline}
use Rattle.dimacs_read.specs.Input.{Reads, Short}
use Rattle.top_call.specs.Plain.{Plain, header}
use Rattle.top_call.proofs.PlainNumbers.{number_decimal, decimal_from, decimal_has_bytes}
use Rattle.top_call.proofs.PlainTokens.{Free, free_both, cut, from_blank_free, from_newline_free, first_token, last_token}
use Rattle.top_call.proofs.PlainClauses.{all_written, clauses_read}

-- the header line, without its newline
abbrev header_line : ℕ → ℕ → List ℕ
header_line vars clauses = codes "p cnf " ++ (decimal vars ++ 32 ∷ decimal clauses)

header_first : (vars clauses : ℕ) (rest : List ℕ) → header vars clauses ++ rest ≡ header_line vars clauses ++ 10 ∷ rest
header_first vars clauses rest = simp append_assoc

header_newline_free : (vars clauses : ℕ) → vars < 2 ^ 28 → clauses < 2 ^ 28 → Free is_newline (header_line vars clauses)
header_newline_free vars clauses few few2 =
    let first = from_newline_free 48 (decimal vars) (omega arith) (decimal_from vars (omega arith)) in
    let second = from_newline_free 48 (decimal clauses) (omega arith) (decimal_from clauses (omega arith)) in
    (refl, (refl, (refl, (refl, (refl, (refl, free_both is_newline (decimal vars) (32 ∷ decimal clauses) first (refl, second)))))))

header_tokens : (vars clauses : ℕ) → vars < 2 ^ 28 → clauses < 2 ^ 28
    → tokens (header_line vars clauses) ≡ codes "p" ∷ codes "cnf" ∷ decimal vars ∷ decimal clauses ∷ []
header_tokens vars clauses few few2 =
    let many : vars < 2 ^ 64 = omega arith in
    let many2 : clauses < 2 ^ 64 = omega arith in
    let numbers = decimal vars ++ 32 ∷ decimal clauses in
    first_token (codes "p") (codes "cnf" ++ 32 ∷ numbers) (refl, tt) refl
    ∙ ap (λ (ts : List (List ℕ)). codes "p" ∷ ts)
    (first_token (codes "cnf") numbers (refl, (refl, (refl, tt))) refl
    ∙ ap (λ (ts : List (List ℕ)). codes "cnf" ∷ ts)
    (first_token (decimal vars) (decimal clauses) (from_blank_free 48 (decimal vars) (omega arith) (decimal_from vars many)) (decimal_has_bytes vars many)
    ∙ ap (λ (ts : List (List ℕ)). decimal vars ∷ ts)
    (last_token (decimal clauses) (from_blank_free 48 (decimal clauses) (omega arith) (decimal_from clauses many2)) (decimal_has_bytes clauses many2))))

header_sizes : (vars clauses : ℕ) → vars < 2 ^ 28 → clauses < 2 ^ 28
    → sizes (tokens (header_line vars clauses)) ≡ Some (record { vars = vars; clauses = clauses })
header_sizes vars clauses few few2 =
    let one = number_decimal vars (omega arith) in
    let two = number_decimal clauses (omega arith) in
    ap sizes (header_tokens vars clauses few few2) ∙ rw (one, two) refl

opened : (vars clauses : ℕ) (more : List (List ℕ)) → vars < 2 ^ 28 → clauses < 2 ^ 28
    → opening 1 (Some (record { vars = vars; clauses = clauses })) more ≡ judge vars clauses [] [] (places 1 more)
opened vars clauses more few few2 =
    let one : nat_le (2 ^ 28) vars ≡ false = grind (arith, nat_tests) in
    let two : nat_le (2 ^ 28) clauses ≡ false = grind (arith, nat_tests) in
    rw (one, two) refl

header_read : (vars clauses : ℕ) (rest : List ℕ) → vars < 2 ^ 28 → clauses < 2 ^ 28
    → outcome (header vars clauses ++ rest) ≡ judge vars clauses [] [] (places 1 (lines rest))
header_read vars clauses rest few few2 =
    ap outcome (header_first vars clauses rest)
    ∙ ap (preamble 0) (cut is_newline (header_line vars clauses) rest 10 (header_newline_free vars clauses few few2) refl)
    ∙ ap (λ (s : Option Sizes). opening 1 s (lines rest)) (header_sizes vars clauses few few2)
    ∙ opened vars clauses (lines rest) few few2

pub plain_reads : (bytes : List ℕ) (formula : FormulaData) → Plain bytes formula → Reads bytes formula
plain_reads bytes formula p =
    Short p.few_bytes
    (ap outcome p.spelled ∙ header_read formula.vars (length p.written) (text (map Add p.written)) p.few_variables p.few_clauses
    ∙ clauses_read formula.vars (length p.written) 1 [] p.written p.few_variables (omega arith) (all_written formula.vars p.written p.lawful)
    ∙ ap (λ (cs : List (List Literal)). Ok (record { vars = formula.vars; clauses = cs })) (sym p.clauses))
