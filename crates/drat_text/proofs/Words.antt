-- Words that are written one after another from a place on.
use Rattle.std.proofs.Common.{◌≡◌, ◌∙◌, Bool, true, false, List, ◌++◌, ℕ, [], append_assoc, ap, refl, codes, cond}
use Rattle.std.specs.Fmt.{decimal}
use Rattle.sat_words.specs.Literal.{Literal, lit_text}

-- a front, the front that one word more makes of it, and the front that the next word makes of that
pub two_words : (front next last first second both : List ℕ) → next ≡ front ++ first → last ≡ next ++ second → first ++ second ≡ both → last ≡ front ++ both
two_words front next last first second both p q whole =
    q ∙ ap (λ (xs : List ℕ). xs ++ second) p ∙ append_assoc front first second ∙ ap (λ (xs : List ℕ). front ++ xs) whole

sign_by : (neg : Bool) (digits : List ℕ) → cond neg (codes "-") [] ++ digits ≡ cond neg (codes "-" ++ digits) digits
sign_by true digits = refl
sign_by false digits = refl

-- a literal's text is its sign and its digits
pub sign_and_digits : (l : Literal) → cond l.neg (codes "-") [] ++ decimal l.var ≡ lit_text l
sign_and_digits l = sign_by l.neg (decimal l.var)
