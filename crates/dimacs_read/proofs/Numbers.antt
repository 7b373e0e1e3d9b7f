-- A number in the midst of its digits.
use Rattle.std.proofs.Common.{◌≡◌, ◌∙◌, ℕ, ◌+◌, ◌-◌, ◌*◌, ◌<◌, ◌^◌, min, Bool, true, false, cond, ◌&&◌, List, ◌∷◌, ◌++◌, length, sym, ap, refl, arith}
use Rattle.std.proofs.lemmas.Bool.Decides.{nat_tests}
use Rattle.std.specs.Prelude.{nat_le, nat_lt, nat_eq, Some}
use Rattle.std.specs.declared.option.Option.{Option}
use Rattle.std.specs.List.{list_all}
use Rattle.sat_words.specs.Literal.{Literal}
use Rattle.dimacs_read.specs.Grammar.{Outcome, Place, Token, value_from, signed, is_digit, is_blank, is_newline, front, later, unless, token_places, places}
use Rattle.dimacs_read.specs.Bytes.{Passes}
use Rattle.dimacs_read.specs.Header.{digits_from, later_tokens}
use Rattle.dimacs_read.specs.Body.{judged, IsBadToken, IsLawful}
use Rattle.dimacs_read.specs.State.{rest, newlines_by, Leads, Stops}
use Rattle.dimacs_read.specs.declared.body.Body.{Body}
use Rattle.dimacs_read.specs.declared.stop.Code.TheVariants.{TooManyClauses, LiteralRange}
use Rattle.dimacs_read.specs.declared.stop.Halt.{Halt}
use Rattle.dimacs_read.specs.declared.stop.Halt.TheVariants.{Bad, Done, Memory}
use Rattle.dimacs_read.specs.declared.spot.State.TheVariants.{Number}
use Rattle.dimacs_read.proofs.Saturation.{Close, Same, Large, close_values}

-- a literal above the variables is bad, whatever it is
refused : (t : Bool) (line : ℕ) (p q : Outcome)
    → unless (cond t (Some TooManyClauses) (Some LiteralRange)) line p ≡ unless (cond t (Some TooManyClauses) (Some LiteralRange)) line q
refused true line p q = refl
refused false line p q = refl

some_literal : (neg : Bool) (n : ℕ) → 0 < n → signed neg (Some n) ≡ Some (record { var = n; neg = neg })
some_literal true n some = let e : nat_eq n 0 ≡ false = grind (arith, nat_tests) in rw e refl
some_literal false n some = refl

above : (vars n : ℕ) → vars < n → nat_lt vars n ≡ true
above vars n h = grind (arith, nat_tests)

large_literal : (b : Body) (neg : Bool) (m n line : ℕ) (more : List Place) → b.formula.vars < m → b.formula.vars < n
    → judged b (record { line = line; item = Token (Some (record { var = m; neg = neg })) } ∷ more) ≡ judged b (record { line = line; item = Token (Some (record { var = n; neg = neg })) } ∷ more)
large_literal b neg m n line more p q =
    rw (above b.formula.vars m p, above b.formula.vars n q)
    (refused (nat_eq (length b.begun.items) 0 && nat_le b.clauses (length b.formula.clauses)) line _ _)

close_literal : (b : Body) (neg : Bool) (m n line : ℕ) (more : List Place) → IsLawful b → Close m n
    → judged b (record { line = line; item = Token (signed neg (Some m)) } ∷ more) ≡ judged b (record { line = line; item = Token (signed neg (Some n)) } ∷ more)
close_literal b neg m n line more lawful (Same e) = ap (λ (k : ℕ). judged b (record { line = line; item = Token (signed neg (Some k)) } ∷ more)) e
close_literal b neg m n line more lawful (Large p q) =
    let few = lawful.few_variables in
    ap (λ (l : Option Literal). judged b (record { line = line; item = Token l } ∷ more)) (some_literal neg m (omega arith))
    ∙ large_literal b neg m n line more (omega arith) (omega arith)
    ∙ sym (ap (λ (l : Option Literal). judged b (record { line = line; item = Token l } ∷ more)) (some_literal neg n (omega arith)))

digits_by : (digits : Bool) (b : Body) (neg : Bool) (m n line : ℕ) (bytes : List ℕ) (more : List Place) → IsLawful b → list_all is_digit bytes ≡ digits → m ≡ min n (2 ^ 64 - 1)
    → judged b (record { line = line; item = Token (signed neg (digits_from m bytes)) } ∷ more) ≡ judged b (record { line = line; item = Token (signed neg (digits_from n bytes)) } ∷ more)
digits_by true b neg m n line bytes more lawful all is = rw all (close_literal b neg (value_from m bytes) (value_from n bytes) line more lawful (close_values m n bytes is))
digits_by false b neg m n line bytes more lawful all is = rw all refl

no_newline : (before byte : ℕ) → is_newline byte ≡ false → newlines_by before byte ≡ before
no_newline before byte is = rw is refl

pub number_digit : (b : Body) (neg : Bool) (n m byte digit : ℕ) → IsLawful b → Passes byte false false true → digit ≡ byte - 48 → m ≡ min (10 * n + digit) (2 ^ 64 - 1)
    → Leads (Number neg n) b byte (Number neg m) b
number_digit b neg n m byte digit lawful passes value is = λ before text.
    let bytes = front is_blank (front is_newline text) in
    let sum : m ≡ min (10 * n + (byte - 48)) (2 ^ 64 - 1) = is ∙ ap (λ (d : ℕ). min (10 * n + d) (2 ^ 64 - 1)) value in
    ap (λ (k : ℕ). rest (Number neg m) k b text) (no_newline before byte passes.newline_is)
    ∙ rw (passes.newline_is, passes.blank_is, passes.digit_is)
    (digits_by (list_all is_digit bytes) b neg m (10 * n + (byte - 48)) (before + 1) bytes
    (token_places (before + 1) (later_tokens (front is_newline text)) ++ places (before + 1) (later is_newline text)) lawful refl sum)

pub number_newline : (b c : Body) (neg : Bool) (n byte : ℕ) (stop : Halt) → byte ≡ 10 → IsBadToken b (Token (signed neg (Some n))) stop → Stops (Number neg n) b byte stop c
number_newline b c neg n byte (Bad code) is bad = λ before text. rw is (bad (before + 1) _)
number_newline b c neg n byte Done is bad = absurd bad
number_newline b c neg n byte Memory is bad = tt

pub number_blank : (b c : Body) (neg : Bool) (n byte : ℕ) (stop : Halt) → Passes byte false true false → IsBadToken b (Token (signed neg (Some n))) stop → Stops (Number neg n) b byte stop c
number_blank b c neg n byte (Bad code) passes bad = λ before text. rw (passes.newline_is, passes.blank_is) (bad (before + 1) _)
number_blank b c neg n byte Done passes bad = absurd bad
number_blank b c neg n byte Memory passes bad = tt
