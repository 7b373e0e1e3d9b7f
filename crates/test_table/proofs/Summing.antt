-- Sums that wrap, and sums that stop at the greatest number.
use Rattle.std.proofs.Common.{◌≡◌, ◌∙◌, ℕ, ◌+◌, ◌*◌, ◌/◌, ◌%◌, ◌<◌, ◌++◌, ◌∷◌, [], List, length, get_or, min, sum_by, take, sym, ap, arith}
use Rattle.std.proofs.Math.Nat.{mod-add-div', add-mul-mod_self_right}
use Rattle.std.proofs.lemmas.List.{take_more}
use Rattle.std.proofs.lemmas.List.Sums.{sum_by_push}
use Rattle.sat_words.specs.Literal.{Literal, code_of}
use Rattle.test_table.specs.Reads.{code_sum}

-- what wrapped before wraps once
mod_plus : (x c m : ℕ) → (x % m + c) % m ≡ (x + c) % m
mod_plus x c m =
    let e = mod-add-div' x m in
    let s : x % m + c + x / m * m ≡ x + c = omega (arith, e) in
    sym (add-mul-mod_self_right (x % m + c) (x / m) m) ∙ ap (λ (n : ℕ). n % m) s

-- the sum with one literal more
pub sum_more : (lits : List Literal) (start place s m : ℕ) (d x : Literal) → place < length lits → x ≡ get_or lits place d → s ≡ (start + code_sum (take place lits)) % m → (s + code_of x) % m ≡ (start + code_sum (take (place + 1) lits)) % m
sum_more lits start place s m d x lt is before =
    let t : code_sum (take (place + 1) lits) ≡ code_sum (take place lits) + code_of x = ap code_sum (take_more lits place d lt ∙ ap (λ (y : Literal). take place lits ++ y ∷ []) (sym is)) ∙ sum_by_push code_of (take place lits) x in
    let n : start + code_sum (take place lits) + code_of x ≡ start + code_sum (take (place + 1) lits) = omega (arith, t) in
    ap (λ (y : ℕ). (y + code_of x) % m) before ∙ mod_plus (start + code_sum (take place lits)) (code_of x) m ∙ ap (λ (y : ℕ). y % m) n

-- the sum of all literals once more
pub sum_again : (done s all m : ℕ) → s ≡ (done * all) % m → (s + all) % m ≡ ((done + 1) * all) % m
sum_again done s all m before =
    let n : done * all + all ≡ (done + 1) * all = omega arith in
    ap (λ (y : ℕ). (y + all) % m) before ∙ mod_plus (done * all) all m ∙ ap (λ (y : ℕ). y % m) n

-- the sum with one item more, up to the greatest number
pub capped_more : {X : Type 0} (f : X → ℕ) (xs : List X) (i s m : ℕ) (d x : X) → i < length xs → x ≡ get_or xs i d → s ≡ min (sum_by f (take i xs)) m → min (s + f x) m ≡ min (sum_by f (take (i + 1) xs)) m
capped_more {X} f xs i s m d x lt is before =
    let t : sum_by f (take (i + 1) xs) ≡ sum_by f (take i xs) + f x = ap (sum_by f) (take_more xs i d lt ∙ ap (λ (y : X). take i xs ++ y ∷ []) (sym is)) ∙ sum_by_push f (take i xs) x in
    omega (arith, t, before)
