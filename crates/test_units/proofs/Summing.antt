-- What writers were known, one writer after another.
use Rattle.std.proofs.Common.{◌≡◌, ◌∙◌, ℕ, ◌+◌, ◌<◌, ◌++◌, ◌∷◌, [], List, fold, get_or, length, max, min, sum_by, take, sym, ap, arith}
use Rattle.std.proofs.lemmas.List.{take_more}
use Rattle.std.proofs.lemmas.List.Sums.{fold_more, sum_by_push}

-- the sum with one item more, up to the greatest number
pub capped_more : {X : Type 0} (f : X → ℕ) (xs : List X) (i s m : ℕ) (d x : X) → i < length xs → x ≡ get_or xs i d → s ≡ min (sum_by f (take i xs)) m → min (s + f x) m ≡ min (sum_by f (take (i + 1) xs)) m
capped_more {X} f xs i s m d x lt is before =
    let t : sum_by f (take (i + 1) xs) ≡ sum_by f (take i xs) + f x = ap (sum_by f) (take_more xs i d lt ∙ ap (λ (y : X). take i xs ++ y ∷ []) (sym is)) ∙ sum_by_push f (take i xs) x in
    omega (arith, t, before)

-- the greatest with one item more
pub greatest_more : {X : Type 0} (f : X → ℕ) (xs : List X) (i n : ℕ) (d x : X) → i < length xs → x ≡ get_or xs i d → n ≡ fold (λ (k : ℕ) (y : X). max k (f y)) 0 (take i xs) → max n (f x) ≡ fold (λ (k : ℕ) (y : X). max k (f y)) 0 (take (i + 1) xs)
greatest_more {X} f xs i n d x lt is before =
    ap (λ (k : ℕ). max k (f x)) before ∙ ap (λ (y : X). max (fold (λ (k : ℕ) (z : X). max k (f z)) 0 (take i xs)) (f y)) is ∙ sym (fold_more (λ (k : ℕ) (y : X). max k (f y)) 0 xs i d lt)
