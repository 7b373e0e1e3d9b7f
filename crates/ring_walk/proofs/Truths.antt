-- What a tally has to do with an assignment.
use Rattle.std.proofs.Common.{◌≡◌, ◌∙◌, ℕ, ◌≤◌, ◌+◌, Bool, true, false, not, ◌&&◌, ◌||◌, ◌==◌, List, [], ◌∷◌, refl, sym, ap, subst, inl, inr, arith, cond}
use Rattle.std.specs.Prelude.{◌-◌}
use Rattle.std.specs.List.{count_by, sum_by, list_any}
use Rattle.std.proofs.lemmas.Bool.{cases_eq, cases_Bool, ne_eqb, false≢true, and_parts}
use Rattle.std.proofs.lemmas.List.Sums.{sum_by-cons}
use Rattle.sat_words.specs.Literal.{Literal, same}
use Rattle.sat_words.specs.Clause.{has, distinct_lits}
use Rattle.sat_words.proofs.Members.{same-true, same-refl}
use Rattle.ring_walk.specs.declared.tally.Count.{Count}
use Rattle.ring_walk.specs.Tally.{CanLower, is_false, is_by, raised, lowered}
use Rattle.ring_walk.specs.Truths.{share, count_of, counts_of, with_lit, without_lit, is_sole}

pub count_first : (T : Literal → Bool) (l : Literal) (c : List Literal) → count_by T (l ∷ c) ≡ cond {A = ℕ} (T l) 1 0 + count_by T c
count_first T l c = sum_by-cons (λ k. cond {A = ℕ} (T k) 1 0) l c

pub sum_first : (T : Literal → Bool) (l : Literal) (c : List Literal) → sum_by (share T) (l ∷ c) ≡ cond {A = ℕ} (T l) l.var 0 + sum_by (share T) c
sum_first T l c = sum_by-cons (share T) l c

-- a clause is false exactly where its count says so
pub false_is : (T : Literal → Bool) (c : List Literal) → is_false (count_of T c) ≡ not (list_any T c)
false_is T [] = refl
false_is T (l ∷ c) = elim (cases_Bool (T l)) as (λ _. is_false (count_of T (l ∷ c)) ≡ not (list_any T (l ∷ c))) [
  | inl y ↦ (let e : count_by T (l ∷ c) ≡ 1 + count_by T c = count_first T l c ∙ ap (λ (b : Bool). cond {A = ℕ} b 1 0 + count_by T c) y in
      ne_eqb (count_by T (l ∷ c)) 0 (λ z. omega arith) ∙ sym (ap (λ (b : Bool). not (b || list_any T c)) y))
  | inr n ↦ (let e : count_by T (l ∷ c) ≡ 0 + count_by T c = count_first T l c ∙ ap (λ (b : Bool). cond {A = ℕ} b 1 0 + count_by T c) n in
      let same_count : count_by T (l ∷ c) ≡ count_by T c = omega arith in
      ap (λ (m : ℕ). m == 0) same_count ∙ false_is T c ∙ sym (ap (λ (b : Bool). not (b || list_any T c)) n))
]

-- where none is in the set, nothing is counted
none_in : (T : Literal → Bool) (v : ℕ) (c : List Literal) → count_by T c ≡ 0 → (sum_by (share T) c ≡ 0) × (list_any (λ l. T l && (l.var == v)) c ≡ false)
none_in T v [] e = (refl, refl)
none_in T v (l ∷ c) e = elim (cases_Bool (T l)) as (λ _. (sum_by (share T) (l ∷ c) ≡ 0) × (list_any (λ k. T k && (k.var == v)) (l ∷ c) ≡ false)) [
  | inl y ↦ (let d : count_by T (l ∷ c) ≡ 1 + count_by T c = count_first T l c ∙ ap (λ (b : Bool). cond {A = ℕ} b 1 0 + count_by T c) y in absurd (omega arith))
  | inr n ↦ (
      let d : count_by T (l ∷ c) ≡ 0 + count_by T c = count_first T l c ∙ ap (λ (b : Bool). cond {A = ℕ} b 1 0 + count_by T c) n in
      let r = none_in T v c (omega arith) in
      let s : sum_by (share T) (l ∷ c) ≡ 0 + sum_by (share T) c = sum_first T l c ∙ ap (λ (b : Bool). cond {A = ℕ} b l.var 0 + sum_by (share T) c) n in
      let r0 = r.0 in
      (omega arith, ap (λ (b : Bool). (b && (l.var == v)) || list_any (λ k. T k && (k.var == v)) c) n ∙ r.1))
]

-- the sum of one is its variable
one_in : (T : Literal → Bool) (v : ℕ) (c : List Literal) → count_by T c ≡ 1 → (sum_by (share T) c == v) ≡ list_any (λ l. T l && (l.var == v)) c
one_in T v [] e = absurd (omega arith)
one_in T v (l ∷ c) e = elim (cases_Bool (T l)) as (λ _. (sum_by (share T) (l ∷ c) == v) ≡ list_any (λ k. T k && (k.var == v)) (l ∷ c)) [
  | inl y ↦ (
      let d : count_by T (l ∷ c) ≡ 1 + count_by T c = count_first T l c ∙ ap (λ (b : Bool). cond {A = ℕ} b 1 0 + count_by T c) y in
      let r = none_in T v c (omega arith) in
      let s : sum_by (share T) (l ∷ c) ≡ l.var + sum_by (share T) c = sum_first T l c ∙ ap (λ (b : Bool). cond {A = ℕ} b l.var 0 + sum_by (share T) c) y in
      let r0 = r.0 in
      let same_sum : sum_by (share T) (l ∷ c) ≡ l.var = omega arith in
      ap (λ (m : ℕ). m == v) same_sum ∙ sym (ap (λ (b : Bool). (b && (l.var == v)) || list_any (λ k. T k && (k.var == v)) c) y ∙ ap (λ (b : Bool). (l.var == v) || b) r.1 ∙ or_false (l.var == v)))
  | inr n ↦ (
      let d : count_by T (l ∷ c) ≡ 0 + count_by T c = count_first T l c ∙ ap (λ (b : Bool). cond {A = ℕ} b 1 0 + count_by T c) n in
      let s : sum_by (share T) (l ∷ c) ≡ 0 + sum_by (share T) c = sum_first T l c ∙ ap (λ (b : Bool). cond {A = ℕ} b l.var 0 + sum_by (share T) c) n in
      let same_sum : sum_by (share T) (l ∷ c) ≡ sum_by (share T) c = omega arith in
      ap (λ (m : ℕ). m == v) same_sum ∙ one_in T v c (omega arith) ∙ sym (ap (λ (b : Bool). (b && (l.var == v)) || list_any (λ k. T k && (k.var == v)) c) n))
]
  where
    or_false : (b : Bool) → (b || false) ≡ b
    or_false true = refl
    or_false false = refl

-- a clause is true by the variable alone exactly where its count says so
pub by_is : (T : Literal → Bool) (v : ℕ) (c : List Literal) → is_by v (count_of T c) ≡ is_sole T v c
by_is T v c = elim (cases_eq (count_by T c) 1) as (λ _. is_by v (count_of T c) ≡ is_sole T v c) [
  | inl e ↦ ap (λ (b : Bool). (count_by T c == 1) && b) (one_in T v c e)
  | inr ne ↦ ap (λ (b : Bool). b && (sum_by (share T) c == v)) (ne_eqb (count_by T c) 1 ne) ∙ sym (ap (λ (b : Bool). b && list_any (λ l. T l && (l.var == v)) c) (ne_eqb (count_by T c) 1 ne))
]

-- a literal that the clause does not have changes nothing
other_set : (T U : Literal → Bool) (c : List Literal) → ((k : Literal) → has c k ≡ true → U k ≡ T k) → (count_by U c ≡ count_by T c) × (sum_by (share U) c ≡ sum_by (share T) c)
other_set T U [] h = (refl, refl)
other_set T U (k ∷ c) h =
    let first : U k ≡ T k = h k (ap (λ (b : Bool). b || has c k) (same-refl k)) in
    let r = other_set T U c (λ j i. h j (ap (λ (b : Bool). same j k || b) i ∙ or_true (same j k))) in
    let r0 = r.0 in
    let r1 = r.1 in
    let cu = count_first U k c in
    let ct = count_first T k c in
    let su = sum_first U k c in
    let st = sum_first T k c in
    let a : cond {A = ℕ} (U k) 1 0 ≡ cond {A = ℕ} (T k) 1 0 = ap (λ (b : Bool). cond {A = ℕ} b 1 0) first in
    let s : cond {A = ℕ} (U k) k.var 0 ≡ cond {A = ℕ} (T k) k.var 0 = ap (λ (b : Bool). cond {A = ℕ} b k.var 0) first in
    (omega arith, omega arith)
  where
    or_true : (b : Bool) → (b || true) ≡ true
    or_true true = refl
    or_true false = refl

not_same : (c : List Literal) (k l : Literal) → has c k ≡ true → has c l ≡ false → same k l ≡ false
not_same c k l h no_l = elim (cases_Bool (same k l)) as (λ _. same k l ≡ false) [
  | inl y ↦ absurd (false≢true (sym no_l ∙ subst (λ (x : Literal). has c x ≡ true) (same-true k l y) h))
  | inr n ↦ n
]

apart : (c : List Literal) (k : Literal) → distinct_lits (k ∷ c) ≡ true → (has c k ≡ false) × (distinct_lits c ≡ true)
apart c k d = let both = and_parts (not (has c k)) (distinct_lits c) d in (by (has c k) both.0, both.1)
  where
    by : (b : Bool) → not b ≡ true → b ≡ false
    by true e = absurd (false≢true e)
    by false e = refl

same_counts : (a b : Count) → a.trues ≡ b.trues → a.sum ≡ b.sum → a ≡ b
same_counts a b e f = λ i. record { trues = e i; sum = f i }

-- a clause without the literal
pub raise_other : (T : Literal → Bool) (l : Literal) (c : List Literal) → has c l ≡ false → count_of (with_lit l T) c ≡ count_of T c
raise_other T l c no_l = let r = other_set T (with_lit l T) c (λ k h. ap (λ (b : Bool). b || T k) (not_same c k l h no_l)) in same_counts (count_of (with_lit l T) c) (count_of T c) r.0 r.1

-- a clause with the literal, which was not in the set
pub raise_own : (T : Literal → Bool) (l : Literal) (c : List Literal) → distinct_lits c ≡ true → T l ≡ false → has c l ≡ true → count_of (with_lit l T) c ≡ raised (count_of T c) l.var
raise_own T l [] d open_l h = absurd (false≢true h)
raise_own T l (k ∷ c) d open_l h =
    let p = apart c k d in
    elim (cases_Bool (same l k)) as (λ _. count_of (with_lit l T) (k ∷ c) ≡ raised (count_of T (k ∷ c)) l.var) [
      | inl y ↦ (
          let is : l ≡ k = same-true l k y in
          let r = other_set T (with_lit l T) c (λ j i. ap (λ (b : Bool). b || T j) (not_same c j l i (subst (λ (x : Literal). has c x ≡ false) (sym is) p.0))) in
          let r0 = r.0 in
          let r1 = r.1 in
          let now : with_lit l T k ≡ true = subst (λ (x : Literal). (same x l || T x) ≡ true) is (ap (λ (b : Bool). b || T l) (same-refl l)) in
          let was : T k ≡ false = subst (λ (x : Literal). T x ≡ false) is open_l in
          let a : cond {A = ℕ} (with_lit l T k) 1 0 ≡ 1 = ap (λ (b : Bool). cond {A = ℕ} b 1 0) now in
          let b : cond {A = ℕ} (T k) 1 0 ≡ 0 = ap (λ (b : Bool). cond {A = ℕ} b 1 0) was in
          let e : cond {A = ℕ} (with_lit l T k) k.var 0 ≡ k.var = ap (λ (b : Bool). cond {A = ℕ} b k.var 0) now in
          let f : cond {A = ℕ} (T k) k.var 0 ≡ 0 = ap (λ (b : Bool). cond {A = ℕ} b k.var 0) was in
          let v : l.var ≡ k.var = ap (λ (x : Literal). x.var) is in
          let cu = count_first (with_lit l T) k c in
          let ct = count_first T k c in
          let su = sum_first (with_lit l T) k c in
          let st = sum_first T k c in
          let n1 : count_by (with_lit l T) (k ∷ c) ≡ count_by T (k ∷ c) + 1 = omega arith in
          let n2 : sum_by (share (with_lit l T)) (k ∷ c) ≡ sum_by (share T) (k ∷ c) + l.var = omega arith in
          same_counts (count_of (with_lit l T) (k ∷ c)) (raised (count_of T (k ∷ c)) l.var) n1 n2)
      | inr n ↦ (
          let in_c : has c l ≡ true = sym (ap (λ (b : Bool). b || has c l) n) ∙ h in
          let r = raise_own T l c p.1 open_l in_c in
          let rt : count_by (with_lit l T) c ≡ count_by T c + 1 = ap (λ (x : Count). x.trues) r in
          let rs : sum_by (share (with_lit l T)) c ≡ sum_by (share T) c + l.var = ap (λ (x : Count). x.sum) r in
          let turned : same k l ≡ false = elim (cases_Bool (same k l)) as (λ _. same k l ≡ false) [ inl y ↦ absurd (false≢true (sym n ∙ subst (λ (x : Literal). same l x ≡ true) (sym (same-true k l y)) (same-refl l))) | inr m ↦ m ] in
          let kept : with_lit l T k ≡ T k = ap (λ (b : Bool). b || T k) turned in
          let a : cond {A = ℕ} (with_lit l T k) 1 0 ≡ cond {A = ℕ} (T k) 1 0 = ap (λ (b : Bool). cond {A = ℕ} b 1 0) kept in
          let e : cond {A = ℕ} (with_lit l T k) k.var 0 ≡ cond {A = ℕ} (T k) k.var 0 = ap (λ (b : Bool). cond {A = ℕ} b k.var 0) kept in
          let cu = count_first (with_lit l T) k c in
          let ct = count_first T k c in
          let su = sum_first (with_lit l T) k c in
          let st = sum_first T k c in
          let n1 : count_by (with_lit l T) (k ∷ c) ≡ count_by T (k ∷ c) + 1 = omega arith in
          let n2 : sum_by (share (with_lit l T)) (k ∷ c) ≡ sum_by (share T) (k ∷ c) + l.var = omega arith in
          same_counts (count_of (with_lit l T) (k ∷ c)) (raised (count_of T (k ∷ c)) l.var) n1 n2)
    ]

-- a set without a literal, and with it again
with_again : (T : Literal → Bool) (l : Literal) → T l ≡ true → with_lit l (without_lit l T) ≡ T
with_again T l y = λ i k. at k i
  where
    at : (k : Literal) → with_lit l (without_lit l T) k ≡ T k
    at k = elim (cases_Bool (same k l)) as (λ _. with_lit l (without_lit l T) k ≡ T k) [
      | inl e ↦ ap (λ (b : Bool). b || (T k && not (same k l))) e ∙ sym (subst (λ (x : Literal). T x ≡ true) (sym (same-true k l e)) y)
      | inr n ↦ ap (λ (b : Bool). b || (T k && not b)) n ∙ and_true (T k)
    ]
      where
        and_true : (b : Bool) → (b && true) ≡ b
        and_true true = refl
        and_true false = refl

out_of : (T : Literal → Bool) (l : Literal) → without_lit l T l ≡ false
out_of T l = ap (λ (b : Bool). T l && not b) (same-refl l) ∙ and_false (T l)
  where
    and_false : (b : Bool) → (b && false) ≡ false
    and_false true = refl
    and_false false = refl

-- a clause with a true literal has one more than without it
pub one_less : (T : Literal → Bool) (l : Literal) (c : List Literal) → distinct_lits c ≡ true → T l ≡ true → has c l ≡ true → count_of T c ≡ raised (count_of (without_lit l T) c) l.var
one_less T l c d y h = ap (λ (U : Literal → Bool). count_of U c) (sym (with_again T l y)) ∙ raise_own (without_lit l T) l c d (out_of T l) h

pub lower_own : (T : Literal → Bool) (l : Literal) (c : List Literal) → distinct_lits c ≡ true → T l ≡ true → has c l ≡ true → count_of (without_lit l T) c ≡ lowered (count_of T c) l.var
lower_own T l c d y h =
    let e = one_less T l c d y h in
    let a : count_by T c ≡ count_by (without_lit l T) c + 1 = ap (λ (x : Count). x.trues) e in
    let b : sum_by (share T) c ≡ sum_by (share (without_lit l T)) c + l.var = ap (λ (x : Count). x.sum) e in
    let n1 : count_by (without_lit l T) c ≡ count_by T c - 1 = omega arith in
    let n2 : sum_by (share (without_lit l T)) c ≡ sum_by (share T) c - l.var = omega arith in
    same_counts (count_of (without_lit l T) c) (lowered (count_of T c) l.var) n1 n2

pub lower_other : (T : Literal → Bool) (l : Literal) (c : List Literal) → has c l ≡ false → count_of (without_lit l T) c ≡ count_of T c
lower_other T l c no_l = let r = other_set T (without_lit l T) c (λ k h. ap (λ (b : Bool). T k && not b) (not_same c k l h no_l) ∙ and_true (T k)) in same_counts (count_of (without_lit l T) c) (count_of T c) r.0 r.1
  where
    and_true : (b : Bool) → (b && true) ≡ b
    and_true true = refl
    and_true false = refl

-- the only true literal is on the variables
one_on : (T : Literal → Bool) (vars : ℕ) (c : List Literal) → ((k : Literal) → has c k ≡ true → k.var ≤ vars) → count_by T c ≡ 1 → sum_by (share T) c ≤ vars
one_on T vars [] on e = absurd (omega arith)
one_on T vars (l ∷ c) on e = elim (cases_Bool (T l)) as (λ _. sum_by (share T) (l ∷ c) ≤ vars) [
  | inl y ↦ (
      let d : count_by T (l ∷ c) ≡ 1 + count_by T c = count_first T l c ∙ ap (λ (b : Bool). cond {A = ℕ} b 1 0 + count_by T c) y in
      let r = none_in T 0 c (omega arith) in
      let r0 = r.0 in
      let s : sum_by (share T) (l ∷ c) ≡ l.var + sum_by (share T) c = sum_first T l c ∙ ap (λ (b : Bool). cond {A = ℕ} b l.var 0 + sum_by (share T) c) y in
      let high = on l (ap (λ (b : Bool). b || has c l) (same-refl l)) in
      omega arith)
  | inr n ↦ (
      let d : count_by T (l ∷ c) ≡ 0 + count_by T c = count_first T l c ∙ ap (λ (b : Bool). cond {A = ℕ} b 1 0 + count_by T c) n in
      let s : sum_by (share T) (l ∷ c) ≡ 0 + sum_by (share T) c = sum_first T l c ∙ ap (λ (b : Bool). cond {A = ℕ} b l.var 0 + sum_by (share T) c) n in
      let r = one_on T vars c (λ k h. on k (ap (λ (b : Bool). same k l || b) h ∙ or_true (same k l))) (omega arith) in
      omega arith)
]
  where
    or_true : (b : Bool) → (b || true) ≡ true
    or_true true = refl
    or_true false = refl

pub can_lower : (T : Literal → Bool) (vars : ℕ) (l : Literal) (c : List Literal) → distinct_lits c ≡ true → T l ≡ true → has c l ≡ true → ((k : Literal) → has c k ≡ true → k.var ≤ vars) → CanLower vars (count_of T c) l.var
can_lower T vars l c d y h on =
    let e = one_less T l c d y h in
    let a : count_by T c ≡ count_by (without_lit l T) c + 1 = ap (λ (x : Count). x.trues) e in
    let b : sum_by (share T) c ≡ sum_by (share (without_lit l T)) c + l.var = ap (λ (x : Count). x.sum) e in
    record {
      some = omega arith;
      within = omega arith;
      alone = λ one. let r = none_in (without_lit l T) 0 c (omega arith) in let r0 = r.0 in omega arith;
      two = λ t. let r = one_on (without_lit l T) vars c on (omega arith) in omega arith;
    }

-- all clauses
pub falses_are : (T : Literal → Bool) (G : List (List Literal)) → count_by is_false (counts_of T G) ≡ count_by (λ c. not (list_any T c)) G
falses_are T [] = refl
falses_are T (c ∷ G) =
    sum_by-cons (λ (x : Count). cond {A = ℕ} (is_false x) 1 0) (count_of T c) (counts_of T G)
    ∙ (let r = falses_are T G in let e = ap (λ (b : Bool). cond {A = ℕ} b 1 0) (false_is T c) in let f = sum_by-cons (λ (d : List Literal). cond {A = ℕ} (not (list_any T d)) 1 0) c G in omega arith)

pub soles_are : (T : Literal → Bool) (v : ℕ) (G : List (List Literal)) → count_by (is_by v) (counts_of T G) ≡ count_by (is_sole T v) G
soles_are T v [] = refl
soles_are T v (c ∷ G) =
    sum_by-cons (λ (x : Count). cond {A = ℕ} (is_by v x) 1 0) (count_of T c) (counts_of T G)
    ∙ (let r = soles_are T v G in let e = ap (λ (b : Bool). cond {A = ℕ} b 1 0) (by_is T v c) in let f = sum_by-cons (λ (d : List Literal). cond {A = ℕ} (is_sole T v d) 1 0) c G in omega arith)
