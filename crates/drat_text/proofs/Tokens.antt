-- A literal's text is a token: it has no blank and no `d`, ends at the first space, and says which literal it is.
use Rattle.std.proofs.Common.{◌≡◌, ℕ, ◌<◌, ◌^◌, List, [], ◌∷◌, ◌++◌, refl, sym, subst, arith, Bool, true, false, codes, cond}
use Rattle.std.specs.Prelude.{⊤}
use Rattle.std.specs.Fmt.{decimal}
use Rattle.std.specs.Str.Parse.{AllDigits}
use Rattle.std.proofs.lemmas.Fmt.{decimal_is_IsNumeral, decimal_injective}
use Rattle.std.proofs.lemmas.Str.Parse.{digit_from_value}
use Rattle.sat_words.specs.Literal.{Literal, lit_text}

-- each byte is above a space and below `d`
abbrev pub IsToken : List ℕ → Type 0
IsToken [] = ⊤
IsToken (x ∷ xs) = (32 < x) × (x < 100) × IsToken xs

digits_are_token : (ds : List ℕ) → AllDigits 10 ds → IsToken ds
digits_are_token [] p = tt
digits_are_token (d ∷ ds) (digit, p) = let within = digit_from_value d digit in (omega arith, omega arith, digits_are_token ds p)

decimal_is_token : (v : ℕ) → v < 2 ^ 64 → IsToken (decimal v)
decimal_is_token v h = digits_are_token (decimal v) (decimal_is_IsNumeral v h).0.1

signed_is_token : (neg : Bool) (v : ℕ) → v < 2 ^ 64 → IsToken (cond neg (codes "-" ++ decimal v) (decimal v))
signed_is_token true v h = (omega arith, omega arith, decimal_is_token v h)
signed_is_token false v h = decimal_is_token v h

pub lit_text_is_token : (l : Literal) → l.var < 2 ^ 64 → IsToken (lit_text l)
lit_text_is_token l h = signed_is_token l.neg l.var h

-- two lists that begin with a token and a space
pub token_ends : (xs ys s t : List ℕ) → IsToken xs → IsToken ys → xs ++ 32 ∷ s ≡ ys ++ 32 ∷ t → (xs ≡ ys) × (s ≡ t)
token_ends [] [] s t p q e = (refl, cc)
token_ends [] (y ∷ ys) s t p (above, below, rest) e = let same : 32 ≡ y = cc in absurd (omega arith)
token_ends (x ∷ xs) [] s t (above, below, rest) q e = let same : x ≡ 32 = cc in absurd (omega arith)
token_ends (x ∷ xs) (y ∷ ys) s t (above, below, rest) (above2, below2, rest2) e =
    let same : x ≡ y = cc in
    let tail : xs ++ 32 ∷ s ≡ ys ++ 32 ∷ t = cc in
    let both = token_ends xs ys s t rest rest2 tail in
    (let front : xs ≡ ys = both.0 in cc, both.1)

decimal_has_no_sign : (v : ℕ) (xs : List ℕ) → v < 2 ^ 64 → decimal v ≡ 45 ∷ xs → ⊥
decimal_has_no_sign v xs h e =
    let digits : AllDigits 10 (45 ∷ xs) = subst (AllDigits 10) e (decimal_is_IsNumeral v h).0.1 in
    let within = digit_from_value 45 digits.0 in
    omega arith

same_from_signed : (a b : Bool) (m n : ℕ) → m < 2 ^ 64 → n < 2 ^ 64
    → cond a (codes "-" ++ decimal m) (decimal m) ≡ cond b (codes "-" ++ decimal n) (decimal n) → (a ≡ b) × (m ≡ n)
same_from_signed true true m n p q e = (refl, decimal_injective m n p q (let tail : decimal m ≡ decimal n = cc in tail))
same_from_signed false false m n p q e = (refl, decimal_injective m n p q e)
same_from_signed true false m n p q e = absurd (decimal_has_no_sign n (decimal m) q (sym e))
same_from_signed false true m n p q e = absurd (decimal_has_no_sign m (decimal n) p e)

pub same_from_lit_text : (l m : Literal) → l.var < 2 ^ 64 → m.var < 2 ^ 64 → lit_text l ≡ lit_text m → l ≡ m
same_from_lit_text l m p q e =
    let both = same_from_signed l.neg m.neg l.var m.var p q e in
    λ i. record { var = both.1 i; neg = both.0 i }
