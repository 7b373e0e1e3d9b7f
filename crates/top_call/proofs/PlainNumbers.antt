-- A number in decimal is read as its value, and a literal's text as the literal.
use Rattle.std.proofs.Common.{◌≡◌, ◌∙◌, ℕ, ◌+◌, ◌-◌, ◌*◌, ◌<◌, ◌≤◌, ◌^◌, List, [], ◌∷◌, length, refl, ap, sym, subst, arith, Bool, true, false}
use Rattle.std.specs.Prelude.{⊤, Some, nat_eq}
use Rattle.std.specs.List.{list_all}
use Rattle.std.specs.Char.{digit_value}
use Rattle.std.specs.Fmt.{decimal}
use Rattle.std.specs.Str.Parse.{AllDigits, digits_value_after}
use Rattle.std.proofs.lemmas.Bool.Decides.{nat_tests}
use Rattle.std.proofs.lemmas.Fmt.{decimal_is_IsNumeral}
use Rattle.std.proofs.lemmas.Str.Parse.{digit_from_value}
use Rattle.std.proofs.lemmas.Str.{digit_value_digit}
use Rattle.sat_words.specs.Literal.{Literal, lit_text}
use Rattle.drat_text.proofs.LitText.{lit_text-neg, lit_text-pos}
use Rattle.dimacs_read.specs.Grammar.{is_digit, has_bytes, value_from, number, signed, integer}

-- each byte is at least this one, and below the letters
abbrev pub From : ℕ → List ℕ → Type 0
From low [] = ⊤
From low (x ∷ xs) = (low ≤ x) × (x < 58) × From low xs

pub from_less : (low lower : ℕ) (xs : List ℕ) → lower ≤ low → From low xs → From lower xs
from_less low lower [] h p = tt
from_less low lower (x ∷ xs) h (above, below, p) = (omega arith, below, from_less low lower xs h p)

digit_byte : (x : ℕ) → digit_value x < 10 → is_digit x ≡ true
digit_byte x h =
    let within = digit_from_value x h in
    let low : 48 ≤ x = omega arith in
    let high : x ≤ 57 = omega arith in
    grind (arith, nat_tests)

digits_are_digits : (ds : List ℕ) → AllDigits 10 ds → list_all is_digit ds ≡ true
digits_are_digits [] p = refl
digits_are_digits (d ∷ ds) (digit, p) = rw (digit_byte d digit) (digits_are_digits ds p)

digits_from : (ds : List ℕ) → AllDigits 10 ds → From 48 ds
digits_from [] p = tt
digits_from (d ∷ ds) (digit, p) = let within = digit_from_value d digit in (omega arith, omega arith, digits_from ds p)

same_value : (n : ℕ) (ds : List ℕ) → AllDigits 10 ds → value_from n ds ≡ digits_value_after 10 n ds
same_value n [] p = refl
same_value n (d ∷ ds) (digit, p) =
    let is : digit_value d + 48 ≡ d = digit_value_digit d (digit_from_value d digit) in
    let step : 10 * n + (d - 48) ≡ n * 10 + digit_value d = omega arith in
    ap (λ (k : ℕ). value_from k ds) step ∙ same_value (n * 10 + digit_value d) ds p

some_bytes : (ds : List ℕ) → 0 < length ds → has_bytes ds ≡ true
some_bytes [] h = absurd (omega arith)
some_bytes (d ∷ ds) h = refl

pub decimal_from : (n : ℕ) → n < 2 ^ 64 → From 48 (decimal n)
decimal_from n h = digits_from (decimal n) (decimal_is_IsNumeral n h).0.1

pub decimal_has_bytes : (n : ℕ) → n < 2 ^ 64 → has_bytes (decimal n) ≡ true
decimal_has_bytes n h = some_bytes (decimal n) (decimal_is_IsNumeral n h).0.0

pub number_decimal : (n : ℕ) → n < 2 ^ 64 → number (decimal n) ≡ Some n
number_decimal n h =
    let numeral = decimal_is_IsNumeral n h in
    rw (some_bytes (decimal n) numeral.0.0, digits_are_digits (decimal n) numeral.0.1)
    (ap Some (same_value 0 (decimal n) numeral.0.1 ∙ numeral.1))

-- digits are no minus sign
unsigned : (ds : List ℕ) → From 48 ds → has_bytes ds ≡ true → integer ds ≡ signed false (number ds)
unsigned [] p e = cc
unsigned (d ∷ ds) (above, below, p) e = let not_minus : nat_eq d 45 ≡ false = grind (arith, nat_tests) in rw not_minus refl

signed_true : (n : ℕ) → 0 < n → signed true (Some n) ≡ Some (record { var = n; neg = true })
signed_true n some = let e : nat_eq n 0 ≡ false = grind (arith, nat_tests) in rw e refl

literal_by : (l : Literal) (b : Bool) → l.neg ≡ b → record { var = l.var; neg = b } ≡ l
literal_by l b e = λ i. record { var = l.var; neg = sym e i }

integer_by_sign : (l : Literal) (b : Bool) → l.neg ≡ b → 0 < l.var → l.var < 2 ^ 64 → integer (lit_text l) ≡ Some l
integer_by_sign l true e low high =
    ap integer (lit_text-neg l e)
    ∙ ap (signed true) (number_decimal l.var high) ∙ signed_true l.var low ∙ ap Some (literal_by l true e)
integer_by_sign l false e low high =
    ap integer (lit_text-pos l e) ∙ unsigned (decimal l.var) (decimal_from l.var high) (decimal_has_bytes l.var high)
    ∙ ap (signed false) (number_decimal l.var high) ∙ ap Some (literal_by l false e)

pub integer_lit_text : (l : Literal) → 0 < l.var → l.var < 2 ^ 64 → integer (lit_text l) ≡ Some l
integer_lit_text l low high = integer_by_sign l l.neg refl low high

text_by_sign : (l : Literal) (b : Bool) → l.neg ≡ b → 0 < l.var → l.var < 2 ^ 64 → From 45 (lit_text l) × (has_bytes (lit_text l) ≡ true)
text_by_sign l true e low high =
    let is : lit_text l ≡ 45 ∷ decimal l.var = lit_text-neg l e in
    subst (λ (t : List ℕ). From 45 t × (has_bytes t ≡ true)) (sym is)
    ((omega arith, omega arith, from_less 48 45 (decimal l.var) (omega arith) (decimal_from l.var high)), refl)
text_by_sign l false e low high =
    subst (λ (t : List ℕ). From 45 t × (has_bytes t ≡ true)) (sym (lit_text-pos l e))
    (from_less 48 45 (decimal l.var) (omega arith) (decimal_from l.var high), decimal_has_bytes l.var high)

pub lit_text_from : (l : Literal) → 0 < l.var → l.var < 2 ^ 64 → From 45 (lit_text l)
lit_text_from l low high = (text_by_sign l l.neg refl low high).0

pub lit_text_has_bytes : (l : Literal) → 0 < l.var → l.var < 2 ^ 64 → has_bytes (lit_text l) ≡ true
lit_text_has_bytes l low high = (text_by_sign l l.neg refl low high).1
