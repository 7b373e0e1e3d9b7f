-- Assignments by their numbers.
use Rattle.std.proofs.Common.{◌≡◌, ◌∙◌, ℕ, suc, ◌+◌, ◌-◌, ◌/◌, ◌%◌, ◌==◌, ◌<◌, Bool, List, [], ◌∷◌, ◌++◌, take, set, length, true, false, not, ◌||◌, append_assoc, append-nil, sym, ap, subst, arith}
use Rattle.std.proofs.lemmas.List.{take_more_set, take_all}
use Rattle.std.proofs.lemmas.Bool.{false≢true}
use mathlib.Core.Logic.{dite}
use native.Mathlib.Decide.{ℕ_discrete}
use Rattle.test_ruler.specs.Models.{bits_from}

-- one value more
pub bits_more : (values : List Bool) (index rest place : ℕ) (bit : Bool) (all : List Bool) → length values ≡ 6 → index < 6 → place ≡ index → bit ≡ (rest % 2 == 1) → take index values ++ bits_from (6 - index) rest ≡ all → take (index + 1) (set values place bit) ++ bits_from (6 - (index + 1)) (rest / 2) ≡ all
bits_more values index rest place bit all long lt at is before =
    let k : ℕ = 5 - index in
    let e : 6 - index ≡ suc k = omega arith in
    let f : 6 - (index + 1) ≡ k = omega arith in
    ap (λ (p : ℕ). take (index + 1) (set values p bit) ++ bits_from (6 - (index + 1)) (rest / 2)) at
    ∙ ap (λ (xs : List Bool). xs ++ bits_from (6 - (index + 1)) (rest / 2)) (take_more_set values index bit (omega arith))
    ∙ ap (λ (m : ℕ). take index values ++ bit ∷ [] ++ bits_from m (rest / 2)) f
    ∙ append_assoc (take index values) (bit ∷ []) (bits_from k (rest / 2))
    ∙ ap (λ (b : Bool). take index values ++ b ∷ bits_from k (rest / 2)) is
    ∙ ap (λ (m : ℕ). take index values ++ bits_from m rest) (sym e)
    ∙ before

-- all six are there
pub bits_done : (values : List Bool) (rest : ℕ) (all : List Bool) → length values ≡ 6 → take 6 values ++ bits_from 0 rest ≡ all → values ≡ all
bits_done values rest all long before = sym (append-nil (take 6 values) ∙ take_all 6 values (omega arith)) ∙ before

-- what holds of the numbers before holds of those up to this one
pub one_more : (P : ℕ → Type 0) (number : ℕ) → ((n : ℕ) → n < number → P n) → P number → (n : ℕ) → n < number + 1 → P n
one_more P number each here n lt = dite (ℕ_discrete n number) (λ e. subst P (sym e) here) (λ ne. each n (omega arith))

pub implied : (m f : Bool) → (not m || f) ≡ true → m ≡ true → f ≡ true
implied true f h e = h
implied false f h e = absurd (false≢true e)
