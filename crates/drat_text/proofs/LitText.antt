-- A literal's text by its sign.
use Rattle.std.proofs.Common.{◌≡◌, ◌∷◌, ◌++◌, ap, Bool, true, false, codes, cond}
use Rattle.std.specs.Fmt.{decimal}
use Rattle.sat_words.specs.Literal.{Literal, lit_text}

pub lit_text-neg : (l : Literal) → l.neg ≡ true → lit_text l ≡ 45 ∷ decimal l.var
lit_text-neg l e = ap (λ (b : Bool). cond b (codes "-" ++ decimal l.var) (decimal l.var)) e

pub lit_text-pos : (l : Literal) → l.neg ≡ false → lit_text l ≡ decimal l.var
lit_text-pos l e = ap (λ (b : Bool). cond b (codes "-" ++ decimal l.var) (decimal l.var)) e
