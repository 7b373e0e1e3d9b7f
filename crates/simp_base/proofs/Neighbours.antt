-- In a clause in order a literal stands beside its negation.
use Rattle.std.proofs.Common.{◌≡◌, ℕ, zero, suc, ◌+◌, ◌-◌, ◌*◌, ◌<◌, ◌≤◌, Bool, true, false, not, cond, ◌||◌, List, [], ◌∷◌, length, drop, get_or, refl, sym, ap, subst, ◌∙◌, inl, inr, arith}
use Rattle.std.specs.List.{AllByRecursion}
use Rattle.std.specs.List.Sorted.{IsStrictlySortedBy}
use Rattle.std.specs.declared.cmp.Ordering.TheVariants.{Less}
use Rattle.std.specs.Ordering.{nat_cmp}
use Rattle.std.proofs.Math.Seq.{drop-cons}
use Rattle.std.proofs.lemmas.Bool.{or_left, or_right, or_cases, true≢false, false≢true}
use Rattle.std.proofs.lemmas.Bool.Decides.{nat_tests}
use Rattle.sat_words.specs.Literal.{Literal, opposite, same, code_of, lit_cmp}
use Rattle.sat_words.specs.Clause.{has, InOrder, has_opposites}
use Rattle.sat_words.proofs.Members.{same-true, same-refl, opposite-opposite}
use Rattle.rup_model.proofs.Covers.{both_true}
use Rattle.rup_model.proofs.Lists.{In, In_any, any_In, has_In, In_has}

abbrev pub neighbours : List Literal → Bool
neighbours [] = false
neighbours (l ∷ []) = false
neighbours (l ∷ k ∷ c) = same k (opposite l) || neighbours (k ∷ c)

is_below : (a b : ℕ) → nat_cmp a b ≡ Less → a < b
is_below a b e = grind (arith, nat_tests)

above : (l : Literal) (c : List Literal) → AllByRecursion (λ k. lit_cmp l k ≡ Less) c → (m : Literal) → In m c → code_of l < code_of m
above l [] all m i = absurd i
above l (k ∷ c) all m (inl e) = subst (λ x. code_of l < code_of x) e (is_below (code_of l) (code_of k) all.0)
above l (k ∷ c) all m (inr i) = above l c all.1 m i

-- the codes of a literal and its negation are next to each other
next_codes : (l : Literal) → (code_of l < code_of (opposite l)) → code_of (opposite l) ≡ code_of l + 1
next_codes l = by l.neg
  where
    by : (b : Bool) → 2 * l.var + cond b 1 0 < 2 * l.var + cond (not b) 1 0 → 2 * l.var + cond (not b) 1 0 ≡ (2 * l.var + cond b 1 0) + 1
    by true lt = absurd (omega arith)
    by false lt = omega arith

differs : (l : Literal) → l ≡ opposite l → ⊥
differs l e = by l.neg (λ i. (e i).neg)
  where
    by : (b : Bool) → b ≡ not b → ⊥
    by true f = true≢false f
    by false f = true≢false (sym f)

first_beside : (l : Literal) (c : List Literal) → InOrder (l ∷ c) → In (opposite l) c → neighbours (l ∷ c) ≡ true
unfolding IsStrictlySortedBy
first_beside l [] o i = absurd i
first_beside l (k ∷ c) o (inl e) = or_left _ _ (ap (λ x. same x (opposite l)) e ∙ same-refl (opposite l))
first_beside l (k ∷ c) o (inr i) =
    let a : code_of l < code_of k = is_below (code_of l) (code_of k) o.0.0 in
    let b : code_of k < code_of (opposite l) = above k c o.1.0 (opposite l) i in
    let n = next_codes l (omega arith) in
    absurd (omega arith)

pub beside : (c : List Literal) → InOrder c → has_opposites c ≡ true → neighbours c ≡ true
unfolding IsStrictlySortedBy
beside c o h = let t = In_any (λ l. has c (opposite l)) c h in beside_of c o t.0 t.1 (has_In c (opposite t.0) t.2)
  where
    beside_of : (d : List Literal) → InOrder d → (l : Literal) → In l d → In (opposite l) d → neighbours d ≡ true
    beside_of [] p l i j = absurd i
    beside_of (m ∷ d) p l (inl e) (inl f) = absurd (differs l (sym e ∙ f))
    beside_of (m ∷ d) p l (inl e) (inr j) = first_beside m d p (subst (λ x. In (opposite x) d) (sym e) j)
    beside_of (m ∷ d) p l (inr i) (inl f) = first_beside m d p (subst (λ x. In x d) (sym (ap opposite f ∙ opposite-opposite l)) i)
    beside_of (m ∷ []) p l (inr i) (inr j) = absurd i
    beside_of (m ∷ k ∷ d) p l (inr i) (inr j) = or_right _ _ (beside_of (k ∷ d) p.1 l i j)

pub opposed : (c : List Literal) → neighbours c ≡ true → has_opposites c ≡ true
opposed c h = let t = pair_in c h in any_In (λ l. has c (opposite l)) c t.0 t.1 (In_has c (opposite t.0) t.2)
  where
    pair_in : (d : List Literal) → neighbours d ≡ true → (l : Literal) × In l d × In (opposite l) d
    pair_in [] e = absurd (false≢true e)
    pair_in (l ∷ []) e = absurd (false≢true e)
    pair_in (l ∷ k ∷ d) e = elim (or_cases (same k (opposite l)) (neighbours (k ∷ d)) e) as (λ _. (x : Literal) × In x (l ∷ k ∷ d) × In (opposite x) (l ∷ k ∷ d)) [
      | inl s ↦ (l, inl refl, inr (inl (same-true k (opposite l) s)))
      | inr r ↦ (let t = pair_in (k ∷ d) r in (t.0, inr t.1, inr t.2))
    ]

-- a pair at a place, or one place on
pub pair_here : (c : List Literal) (i : ℕ) (k l : Literal) → 1 ≤ i → i < length c → k ≡ get_or c i k → l ≡ get_or c (i - 1) l → neighbours (drop (i - 1) c) ≡ (same k (opposite l) || neighbours (drop i c))
pair_here c zero k l low lt ek el = absurd (omega arith)
pair_here c (suc i) k l low lt ek el =
    let z : suc i - 1 ≡ i = omega arith in
    ap (λ j. neighbours (drop j c)) z
    ∙ ap neighbours (drop-cons c i l (omega arith) ∙ ap (λ x. x ∷ drop (suc i) c) (ap (λ j. get_or c j l) (sym z) ∙ sym el))
    ∙ ap (λ xs. neighbours (l ∷ xs)) (drop-cons c (suc i) k lt ∙ ap (λ x. x ∷ drop (suc (suc i)) c) (sym ek))
    ∙ ap (λ xs. same k (opposite l) || neighbours xs) (sym (drop-cons c (suc i) k lt ∙ ap (λ x. x ∷ drop (suc (suc i)) c) (sym ek)))

-- so the neighbours tell
pub beside_or_not : (c : List Literal) → InOrder c → has_opposites c ≡ neighbours c
beside_or_not c o = both_true (has_opposites c) (neighbours c) (beside c o) (opposed c)

-- less than two literals are left
pub last_alone : (c : List Literal) (i : ℕ) → length c ≤ i + 1 → neighbours (drop i c) ≡ false
last_alone [] zero le = refl
last_alone [] (suc i) le = refl
last_alone (l ∷ []) zero le = refl
last_alone (l ∷ k ∷ c) zero le = absurd (omega arith)
last_alone (l ∷ c) (suc i) le = last_alone c i (omega arith)
