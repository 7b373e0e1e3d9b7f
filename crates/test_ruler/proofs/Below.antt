-- What the first numbers pass, one number after another.
use Rattle.std.proofs.Common.{◌≡◌, ◌∙◌, ℕ, zero, suc, ◌+◌, ◌<◌, Bool, true, false, ◌&&◌, ◌||◌, refl, sym, ap, arith}
use Rattle.std.proofs.lemmas.Bool.{and_parts}
use mathlib.Core.Logic.{dite}
use native.Mathlib.Decide.{ℕ_discrete}
use Rattle.test_ruler.specs.Models.{each_below, some_below}

pub each_zero : (p : ℕ → Bool) → each_below 0 p ≡ true
unfolding each_below
each_zero p = refl

pub some_zero : (p : ℕ → Bool) → some_below 0 p ≡ false
unfolding some_below
some_zero p = refl

each_suc : (n : ℕ) (p : ℕ → Bool) → each_below (suc n) p ≡ (each_below n p && p n)
unfolding each_below
each_suc n p = refl

some_suc : (n : ℕ) (p : ℕ → Bool) → some_below (suc n) p ≡ (some_below n p || p n)
unfolding some_below
some_suc n p = refl

-- one number more passes
pub each_more : (n : ℕ) (p : ℕ → Bool) → each_below n p ≡ true → p n ≡ true → each_below (n + 1) p ≡ true
each_more n p before here =
    let e : n + 1 ≡ suc n = omega arith in
    ap (λ (k : ℕ). each_below k p) e ∙ each_suc n p ∙ ap (λ (b : Bool). b && p n) before ∙ here

-- whether one passes, with one number more
pub some_more : (n : ℕ) (p : ℕ → Bool) (before here : Bool) → before ≡ some_below n p → here ≡ p n → (before || here) ≡ some_below (n + 1) p
some_more n p before here b h =
    let e : n + 1 ≡ suc n = omega arith in
    (λ i. b i || h i) ∙ sym (some_suc n p) ∙ ap (λ (k : ℕ). some_below k p) (sym e)

and_false : (b : Bool) → (b && false) ≡ false
and_false true = refl
and_false false = refl

-- if one number does not pass, not each does
pub each_broken : (m n : ℕ) (p : ℕ → Bool) → n < m → p n ≡ false → each_below m p ≡ false
each_broken zero n p lt bad = absurd (omega arith)
each_broken (suc m) n p lt bad =
    each_suc m p ∙ dite (ℕ_discrete n m)
    (λ e. ap (λ (k : ℕ). each_below m p && p k) (sym e) ∙ ap (λ (b : Bool). each_below m p && b) bad ∙ and_false (each_below m p))
    (λ ne. ap (λ (b : Bool). b && p m) (each_broken m n p (omega arith) bad))

-- if each passes, this one does
pub each_at : (m n : ℕ) (p : ℕ → Bool) → each_below m p ≡ true → n < m → p n ≡ true
each_at zero n p all lt = absurd (omega arith)
each_at (suc m) n p all lt =
    let h = and_parts (each_below m p) (p m) (sym (each_suc m p) ∙ all) in
    dite (ℕ_discrete n m)
    (λ e. ap p e ∙ h.1)
    (λ ne. each_at m n p h.0 (omega arith))
