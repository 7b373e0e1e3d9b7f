-- How many clauses are true, counted one by one.
use Rattle.std.proofs.Common.{◌≡◌, ℕ, zero, suc, ◌+◌, ◌<◌, Bool, true, false, List, [], ◌∷◌, length, take, get_or, refl, sym, ap, ◌∙◌, subst, arith}
use Rattle.std.specs.Prelude.{if◌then◌else◌}
use Rattle.sat_words.specs.Literal.{Literal}
use Rattle.sat_words.specs.Truth.{clause_true}
use Rattle.top_call.specs.Answer.{satisfied}

first : (b : Bool) → (if b then 1 else 0) ≡ (if b then 0 + 1 else 0)
first true = refl
first false = refl

later : (y c : Bool) (s t : ℕ) → t ≡ (if c then s + 1 else s) → (if y then suc t else t) ≡ (if c then (if y then suc s else s) + 1 else (if y then suc s else s))
later true true s t e = omega (arith, e)
later true false s t e = ap suc e
later false true s t e = e
later false false s t e = e

pub none_counted : (model : List Bool) → satisfied model [] ≡ 0
unfolding satisfied
none_counted model = refl

pub next_counted : (model : List Bool) (cs : List (List Literal)) (i : ℕ) (c : List Literal) → i < length cs → c ≡ get_or cs i c
    → satisfied model (take (i + 1) cs) ≡ (if clause_true model c then satisfied model (take i cs) + 1 else satisfied model (take i cs))
unfolding satisfied
next_counted model [] i c lt e = absurd (omega arith)
next_counted model (y ∷ cs) zero c lt e = subst (λ (x : List Literal). (if clause_true model y then 1 else 0) ≡ (if clause_true model x then 0 + 1 else 0)) (sym e) (first (clause_true model y))
next_counted model (y ∷ cs) (suc i) c lt e =
    let n : suc i + 1 ≡ suc (i + 1) = omega arith in
    ap (λ (k : ℕ). satisfied model (take k (y ∷ cs))) n
    ∙ later (clause_true model y) (clause_true model c) (satisfied model (take i cs)) (satisfied model (take (i + 1) cs)) (next_counted model cs i c (omega arith) e)
