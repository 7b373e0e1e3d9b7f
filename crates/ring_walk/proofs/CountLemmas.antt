-- The count of a clause, literal by literal; and no count of a clause in order is large.
use Rattle.std.proofs.Common.{◌≡◌, ◌∙◌, ℕ, ◌+◌, ◌*◌, ◌<◌, ◌≤◌, cond, Bool, true, false, List, [], length, get_or, take, sym, ap, arith, All}
use Rattle.std.specs.Prelude.{◌^◌, if◌then◌else◌}
use Rattle.std.specs.List.{count_by, sum_by}
use Rattle.std.proofs.lemmas.List.{length-map, ext_get_or}
use Rattle.std.proofs.lemmas.List.Sums.{sum_by_more, sum_by-take-le, sum_by-le, count_by-le-length}
use Rattle.sat_words.specs.Literal.{Literal, IsOn}
use Rattle.sat_words.specs.Clause.{InOrder}
use Rattle.ring_walk.specs.declared.tally.Count.{Count}
use Rattle.ring_walk.specs.Tally.{nothing, count_at, raised}
use Rattle.ring_walk.specs.Truths.{share, count_of, counts_of}
use Rattle.ring_walk.proofs.Ordered.{short}
use Rattle.ring_walk.proofs.Flipping.{count_get}

same_counts : (a b : Count) → a.trues ≡ b.trues → a.sum ≡ b.sum → a ≡ b
same_counts a b e f = λ i. record { trues = e i; sum = f i }

-- one more literal, which is true
pub count_yes : (T : Literal → Bool) (c : List Literal) (k : ℕ) (l : Literal) → k < length c → l ≡ get_or c k l → T l ≡ true → count_of T (take (k + 1) c) ≡ raised (count_of T (take k c)) l.var
count_yes T c k l lt is y =
    let n = sum_by_more (λ m. cond {A = ℕ} (T m) 1 0) c k l lt in
    let s = sum_by_more (share T) c k l lt in
    let a : cond {A = ℕ} (T (get_or c k l)) 1 0 ≡ 1 = ap (λ (m : Literal). cond {A = ℕ} (T m) 1 0) (sym is) ∙ ap (λ (b : Bool). cond {A = ℕ} b 1 0) y in
    let b : share T (get_or c k l) ≡ l.var = ap (share T) (sym is) ∙ ap (λ (b : Bool). if b then l.var else 0) y in
    same_counts (count_of T (take (k + 1) c)) (raised (count_of T (take k c)) l.var) (omega arith) (omega arith)

-- one more literal, which is false
pub count_no : (T : Literal → Bool) (c : List Literal) (k : ℕ) (l : Literal) → k < length c → l ≡ get_or c k l → T l ≡ false → count_of T (take (k + 1) c) ≡ count_of T (take k c)
count_no T c k l lt is n =
    let m = sum_by_more (λ m. cond {A = ℕ} (T m) 1 0) c k l lt in
    let s = sum_by_more (share T) c k l lt in
    let a : cond {A = ℕ} (T (get_or c k l)) 1 0 ≡ 0 = ap (λ (m : Literal). cond {A = ℕ} (T m) 1 0) (sym is) ∙ ap (λ (b : Bool). cond {A = ℕ} b 1 0) n in
    let b : share T (get_or c k l) ≡ 0 = ap (share T) (sym is) ∙ ap (λ (b : Bool). if b then l.var else 0) n in
    same_counts (count_of T (take (k + 1) c)) (count_of T (take k c)) (omega arith) (omega arith)

share-le : (T : Literal → Bool) (l : Literal) → share T l ≤ l.var
share-le T l = by (T l)
  where
    by : (b : Bool) → (if b then l.var else 0) ≤ l.var
    by true = omega arith
    by false = omega arith

-- few literals are true, and the sum of their variables is not large
pub few : (T : Literal → Bool) (vars : ℕ) (c : List Literal) → vars ≤ 2 ^ 30 → InOrder c → All (IsOn vars) c → count_by T c ≤ 2 ^ 31 + 2
few T vars c small o on =
    let s = short vars c o on in
    let n = count_by-le-length T c in
    omega arith

pub small_sum : (T : Literal → Bool) (vars : ℕ) (c : List Literal) → vars ≤ 2 ^ 30 → InOrder c → All (IsOn vars) c → sum_by (share T) c ≤ (2 ^ 31 + 2) * 2 ^ 30
small_sum T vars c small o on =
    let s = short vars c o on in
    let n = sum_by-le (share T) (2 ^ 30) c (λ k d lt. let h = (on k d lt).high in let e = share-le T (get_or c k d) in omega arith) in
    omega arith

-- and so of the first ones
pub few_of : (T : Literal → Bool) (vars : ℕ) (c : List Literal) (k : ℕ) → vars ≤ 2 ^ 30 → InOrder c → All (IsOn vars) c → count_by T (take k c) ≤ 2 ^ 31 + 2
few_of T vars c k small o on = let f = few T vars c small o on in let t = sum_by-take-le (λ m. cond {A = ℕ} (T m) 1 0) c k in omega arith

pub small_sum_of : (T : Literal → Bool) (vars : ℕ) (c : List Literal) (k : ℕ) → vars ≤ 2 ^ 30 → InOrder c → All (IsOn vars) c → sum_by (share T) (take k c) ≤ (2 ^ 31 + 2) * 2 ^ 30
small_sum_of T vars c k small o on = let f = small_sum T vars c small o on in let t = sum_by-take-le (share T) c k in omega arith

-- each clause is counted
pub all_counted : (T : Literal → Bool) (G : List (List Literal)) (cs : List Count) → length cs ≡ length G → ((j : ℕ) → j < length G → count_at cs j ≡ count_of T (get_or G j [])) → cs ≡ counts_of T G
all_counted T G cs len each = ext_get_or nothing cs (counts_of T G) (len ∙ sym (length-map G (count_of T))) (λ i lt. each i (omega arith) ∙ sym (count_get T G i (omega arith)))
