-- What stands at the front of bytes.
use Rattle.std.proofs.Common.{◌≡◌, ◌∙◌, ℕ, ◌+◌, ◌-◌, ◌*◌, ◌<◌, ◌≤◌, ◌^◌, true, false, List, [], ◌∷◌, ◌++◌, length, take, drop, take-append-drop, length-drop, Some, refl, ap, sym, arith, codes, All, inl, inr}
use Rattle.std.specs.Prelude.{nat_le, nat_lt}
use Rattle.std.specs.Char.{is_ascii_digit, digit_value}
use Rattle.std.specs.Fmt.{decimal}
use Rattle.std.specs.Str.Parse.{AllDigits, digits_value, digits_value_after}
use Rattle.std.proofs.lemmas.Bool.{cases_Bool}
use Rattle.std.proofs.lemmas.Bool.Decides.{nat_tests}
use Rattle.std.proofs.lemmas.List.{take_all, take_at}
use Rattle.std.proofs.lemmas.Fmt.{decimal_is_IsNumeral}
use Rattle.std.proofs.lemmas.Str.Parse.{digit_from_value}
use Rattle.std.proofs.lemmas.Str.{digit_value_digit}
use Rattle.sat_words.specs.Literal.{Literal, IsOn, lit_text}
use Rattle.drat_text.specs.Number.{variable, ends_at, number_from}
use Rattle.sat_words.specs.declared.line.Line.{Line}
use Rattle.sat_words.specs.declared.line.Line.TheVariants.{Add, Del}
use Rattle.rup_model.specs.Log.{lits_of}
use Rattle.drat_text.specs.Text.{lits_text, line_text}
use Rattle.drat_text.proofs.Tokens.{token_ends}
use Rattle.drat_text.proofs.Unique.{lits_text_first, others, first_is_token, end_is_no_token, lits_have_no_d, line_ends}
use Rattle.drat_text.proofs.LitText.{lit_text-neg, lit_text-pos}

-- a front, and what follows it
pub behind_front : (bytes front : List ℕ) → front ≡ take (length front) bytes → bytes ≡ front ++ take (length bytes - length front) (drop (length front) bytes)
behind_front bytes front e =
    let all : take (length bytes - length front) (drop (length front) bytes) ≡ drop (length front) bytes =
    take_all (length bytes - length front) (drop (length front) bytes) (omega (arith, length-drop (length front) bytes)) in
    sym (take-append-drop (length front) bytes) ∙ ap (λ (xs : List ℕ). xs ++ drop (length front) bytes) (sym e) ∙ ap (λ (xs : List ℕ). front ++ xs) (sym all)

pub front_taken : (bytes front more : List ℕ) → bytes ≡ front ++ more → front ≡ take (length front) bytes
front_taken bytes front more e = sym (ap (take (length front)) e ∙ take_at front more (length front) refl)

-- the digits of a number

le_value : (n : ℕ) (ds : List ℕ) → n ≤ digits_value_after 10 n ds
le_value n [] = omega arith
le_value n (d ∷ ds) = omega (arith, le_value (n * 10 + digit_value d) ds)

is_variable : (n : ℕ) → 0 < n → n ≤ 2 ^ 30 → variable n ≡ Some n
is_variable n low high =
    let some : nat_lt 0 n ≡ true = grind (arith, nat_tests) in
    let few : nat_le n (2 ^ 30) ≡ true = grind (arith, nat_tests) in
    rw (some, few) refl

goes_on : (n d : ℕ) → n ≤ 2 ^ 30 → 48 ≤ d → d ≤ 57 → ends_at n d ≡ false
goes_on n d few low high =
    let digit : is_ascii_digit d ≡ true = grind (arith, nat_tests) in
    let small : nat_lt (2 ^ 30) n ≡ false = grind (arith, nat_tests) in
    rw (digit, small) refl

number_of_digits : (ds more : List ℕ) (n : ℕ) → AllDigits 10 ds → 0 < digits_value_after 10 n ds → digits_value_after 10 n ds ≤ 2 ^ 30
    → number_from n (ds ++ 32 ∷ more) ≡ Some (digits_value_after 10 n ds)
number_of_digits [] more n p low high = is_variable n low high
number_of_digits (d ∷ ds) more n (digit, p) low high =
    let within = digit_from_value d digit in
    let is : digit_value d + 48 ≡ d = digit_value_digit d within in
    let least : n * 10 + digit_value d ≤ digits_value_after 10 (n * 10 + digit_value d) ds = le_value (n * 10 + digit_value d) ds in
    let value : n * 10 + (d - 48) ≡ n * 10 + digit_value d = omega arith in
    rw (goes_on n d (omega arith) (omega arith) (omega arith))
    (ap (λ (m : ℕ). number_from m (ds ++ 32 ∷ more)) value ∙ number_of_digits ds more (n * 10 + digit_value d) p low high)

pub number_of_decimal : (v : ℕ) (more : List ℕ) → 1 ≤ v → v ≤ 2 ^ 30 → number_from 0 (decimal v ++ 32 ∷ more) ≡ Some v
number_of_decimal v more low high =
    let numeral = decimal_is_IsNumeral v (omega arith) in
    let value : digits_value 10 (decimal v) ≡ v = numeral.1 in
    number_of_digits (decimal v) more 0 numeral.0.1 (omega arith) (omega arith) ∙ ap (λ (n : ℕ). Some n) value

-- a minus sign is no digit
sign_is_no_digit : (ds rest more : List ℕ) → AllDigits 10 ds → 0 < length ds → 45 ∷ rest ≡ ds ++ more → ⊥
sign_is_no_digit [] rest more p some e = omega arith
sign_is_no_digit (d ∷ ds) rest more (digit, p) some e =
    let same : 45 ≡ d = cc in
    let within = digit_from_value d digit in
    omega arith

-- after a minus sign stands the number of a negative literal
pub signed_front : (l : Literal) (digits more : List ℕ) → IsOn (2 ^ 30) l → 45 ∷ digits ≡ lit_text l ++ 32 ∷ more
    → (l.neg ≡ true) × (digits ≡ decimal l.var ++ 32 ∷ more)
signed_front l digits more on e = elim (cases_Bool l.neg) as (λ _. (l.neg ≡ true) × (digits ≡ decimal l.var ++ 32 ∷ more)) [
  | inl neg ↦
      (let whole : 45 ∷ digits ≡ 45 ∷ (decimal l.var ++ 32 ∷ more) = e ∙ ap (λ (xs : List ℕ). xs ++ 32 ∷ more) (lit_text-neg l neg) in
      (neg, cc))
  | inr pos ↦
      (let whole : 45 ∷ digits ≡ decimal l.var ++ 32 ∷ more = e ∙ ap (λ (xs : List ℕ). xs ++ 32 ∷ more) (lit_text-pos l pos) in
      let numeral = decimal_is_IsNumeral l.var (omega (arith, on.high)) in
      absurd (sign_is_no_digit (decimal l.var) digits (32 ∷ more) numeral.0.1 numeral.0.0 whole))
]

-- if no literal stands behind some literals, and the bytes begin with the literals of a line, its end stands there
pub line_end : (a c : List Literal) (rest more : List ℕ) → All (IsOn (2 ^ 30)) a → All (IsOn (2 ^ 30)) c
    → ((l : Literal) (m : List ℕ) → IsOn (2 ^ 30) l → rest ≡ lit_text l ++ 32 ∷ m → ⊥) → lits_text a ++ rest ≡ lits_text c ++ 48 ∷ 10 ∷ more → rest ≡ 48 ∷ 10 ∷ more
line_end [] [] rest more p q none e = e
line_end [] (m ∷ d) rest more p q none e = absurd (none m _ (q 0 m (omega arith)) (e ∙ lits_text_first m d (48 ∷ 10 ∷ more)))
line_end (l ∷ a) [] rest more p q none e =
    absurd (end_is_no_token 48 10 32 (lit_text l) more _ (omega arith) (omega arith) (omega arith) (first_is_token l a p) (sym e ∙ lits_text_first l a rest))
line_end (l ∷ a) (m ∷ d) rest more p q none e =
    let split = sym (lits_text_first l a rest) ∙ e ∙ lits_text_first m d (48 ∷ 10 ∷ more) in
    let both = token_ends (lit_text l) (lit_text m) _ _ (first_is_token l a p) (first_is_token m d q) split in
    line_end a d rest more (others (IsOn (2 ^ 30)) l a p) (others (IsOn (2 ^ 30)) m d q) none both.1

-- what stands behind `d` where the bytes begin with a line
pub behind_d : (x : Line) (rest more : List ℕ) → All (IsOn (2 ^ 30)) (lits_of x) → codes "d " ++ rest ≡ line_text x ++ more → rest ≡ (lits_text (lits_of x) ++ codes "0\n") ++ more
behind_d (Del c) rest more on e = cc
behind_d (Add c) rest more on e = absurd (lits_have_no_d 48 100 c (10 ∷ more) (32 ∷ rest) (omega arith) (omega arith) on (sym (line_ends c more) ∙ sym e))

-- and where they don't begin with `d`
pub not_behind_d : (x : Line) (bytes more : List ℕ) → ((rest : List ℕ) → bytes ≡ codes "d " ++ rest → ⊥) → bytes ≡ line_text x ++ more → bytes ≡ (lits_text (lits_of x) ++ codes "0\n") ++ more
not_behind_d (Add c) bytes more none e = e
not_behind_d (Del c) bytes more none e = absurd (none ((lits_text c ++ codes "0\n") ++ more) e)
