-- A clause in order is short, and has no literal twice.
use Rattle.std.proofs.Common.{◌≡◌, ◌∙◌, ℕ, zero, suc, ◌+◌, ◌*◌, ◌<◌, ◌≤◌, ◌==◌, cond, Bool, true, false, not, ◌||◌, List, [], ◌∷◌, length, refl, sym, ap, subst, inl, inr, ◌⊎◌, arith, All}
use Rattle.std.specs.List.{AllByRecursion}
use Rattle.std.specs.List.Sorted.{IsStrictlySortedBy}
use Rattle.std.specs.declared.cmp.Ordering.TheVariants.{Less}
use Rattle.std.specs.Ordering.{nat_cmp}
use Rattle.std.proofs.lemmas.Bool.{or_left, or_cases, and_from, and_parts, cases_Bool, eq-eqb, eqb-true, not-true, true≢false, false≢true}
use Rattle.std.proofs.lemmas.Bool.Decides.{nat_tests}
use Rattle.std.proofs.lemmas.List.Sums.{sum_by-cons}
use Rattle.sat_words.specs.Literal.{Literal, IsOn, same, code_of, lit_cmp}
use Rattle.sat_words.specs.Clause.{has, InOrder, distinct_lits}
use Rattle.sat_words.proofs.Members.{same-true, same-refl}
use Rattle.ring_walk.specs.Occurrences.{codes_of, times}

is_below : (a b : ℕ) → nat_cmp a b ≡ Less → a < b
is_below a b e = grind (arith, nat_tests)

above : (l : Literal) (c : List Literal) → AllByRecursion (λ k. lit_cmp l k ≡ Less) c → (m : Literal) → has c m ≡ true → code_of l < code_of m
above l [] all m h = absurd (false≢true h)
above l (k ∷ c) all m h = elim (or_cases (same m k) (has c m) h) as (λ _. code_of l < code_of m) [
  | inl e ↦ subst (λ (x : Literal). code_of l < code_of x) (sym (same-true m k e)) (is_below (code_of l) (code_of k) all.0)
  | inr i ↦ above l c all.1 m i
]

absent : (l : Literal) (c : List Literal) → AllByRecursion (λ k. lit_cmp l k ≡ Less) c → has c l ≡ false
absent l c all = elim (cases_Bool (has c l)) as (λ _. has c l ≡ false) [
  | inl h ↦ absurd (omega (arith, above l c all l h))
  | inr e ↦ e
]

pub distinct : (c : List Literal) → InOrder c → distinct_lits c ≡ true
unfolding IsStrictlySortedBy
distinct [] o = refl
distinct (l ∷ c) o = and_from (not (has c l)) (distinct_lits c) (ap not (absent l c o.0)) (distinct c o.1)

-- the codes from the first on
span : (b : ℕ) (l : Literal) (c : List Literal) → InOrder (l ∷ c) → ((m : Literal) → has (l ∷ c) m ≡ true → code_of m < b) → code_of l + length (l ∷ c) ≤ b
unfolding IsStrictlySortedBy
span b l [] o below = omega (arith, below l (or_left (same l l) false (same-refl l)))
span b l (k ∷ c) o below =
    let up = is_below (code_of l) (code_of k) o.0.0 in
    let rest = span b k c o.1 (λ m h. below m (or_true (same m l) (has (k ∷ c) m) h)) in
    omega arith
  where
    or_true : (x y : Bool) → y ≡ true → (x || y) ≡ true
    or_true true y e = refl
    or_true false y e = e

pub all_has : (P : Literal → Type 0) (c : List Literal) (k : Literal) → All P c → has c k ≡ true → P k
all_has P [] k all h = absurd (false≢true h)
all_has P (x ∷ c) k all h = elim (or_cases (same k x) (has c k) h) as (λ _. P k) [
  | inl e ↦ subst P (sym (same-true k x e)) (all 0 x (omega arith))
  | inr t ↦ all_has P c k (λ j d lt. all (suc j) d (omega arith)) t
]

pub code_low : (vars : ℕ) (l : Literal) → IsOn vars l → code_of l < codes_of vars
code_low vars l on = by l.neg
  where
    by : (b : Bool) → 2 * l.var + cond b 1 0 < 2 * (vars + 1)
    by true = let h = on.high in omega arith
    by false = let h = on.high in omega arith

pub short : (vars : ℕ) (c : List Literal) → InOrder c → All (IsOn vars) c → length c ≤ codes_of vars
short vars [] o on = omega arith
short vars (l ∷ c) o on =
    let all = span (codes_of vars) l c o (λ m h. code_low vars m (all_has (IsOn vars) (l ∷ c) m on h)) in
    omega arith

-- how often a clause has the literal of a code

times_first : (x : ℕ) (l : Literal) (c : List Literal) → times x (l ∷ c) ≡ cond {A = ℕ} (code_of l == x) 1 0 + times x c
times_first x l c = sum_by-cons (λ k. cond {A = ℕ} (code_of k == x) 1 0) l c

yes : (b : Bool) → b ≡ true → ◌≡◌ {A = ℕ} (cond {A = ℕ} b 1 0) 1
yes true e = refl
yes false e = absurd (false≢true e)

nope : (b : Bool) → b ≡ false → ◌≡◌ {A = ℕ} (cond {A = ℕ} b 1 0) 0
nope true e = absurd (true≢false e)
nope false e = refl

pub has_times : (l : Literal) (c : List Literal) → has c l ≡ true → 1 ≤ times (code_of l) c
has_times l [] h = absurd (false≢true h)
has_times l (k ∷ c) h = elim (or_cases (same l k) (has c l) h) as (λ _. 1 ≤ times (code_of l) (k ∷ c)) [
  | inl e ↦ (let f = times_first (code_of l) k c in let y = yes (code_of k == code_of l) (eq-eqb (code_of k) (code_of l) (ap code_of (sym (same-true l k e)))) in omega arith)
  | inr t ↦ (let f = times_first (code_of l) k c in let r = has_times l c t in omega arith)
]

pub times_has : (l : Literal) (c : List Literal) → 1 ≤ times (code_of l) c → has c l ≡ true
times_has l [] h = absurd (omega arith)
times_has l (k ∷ c) h = elim (cases_Bool (code_of k == code_of l)) as (λ _. has (k ∷ c) l ≡ true) [
  | inl e ↦ or_left (same l k) (has c l) (eq-eqb (code_of l) (code_of k) (sym (eqb-true (code_of k) (code_of l) e)))
  | inr n ↦ (
      let f = times_first (code_of l) k c in
      let z = nope (code_of k == code_of l) n in
      or_true (same l k) (has c l) (times_has l c (omega arith)))
]
  where
    or_true : (x y : Bool) → y ≡ true → (x || y) ≡ true
    or_true true y e = refl
    or_true false y e = e

pub times_once : (x : ℕ) (c : List Literal) → distinct_lits c ≡ true → times x c ≤ 1
times_once x [] d = omega arith
times_once x (l ∷ c) d =
    let p = and_parts (not (has c l)) (distinct_lits c) d in
    let f = times_first x l c in
    let r = times_once x c p.1 in
    elim (cases_Bool (code_of l == x)) as (λ _. times x (l ∷ c) ≤ 1) [
      | inl e ↦ (
          let y = yes (code_of l == x) e in
          let none : times x c ≡ 0 = elim (cases_zero (times x c)) as (λ _. times x c ≡ 0) [
            | inl z ↦ z
            | inr some ↦ absurd (true≢false (sym (times_has l c (subst (λ (n : ℕ). 1 ≤ times n c) (sym (eqb-true (code_of l) x e)) some)) ∙ not-true (has c l) p.0))
          ] in
          omega arith)
      | inr n ↦ (let z = nope (code_of l == x) n in omega arith)
    ]
  where
    cases_zero : (n : ℕ) → (n ≡ 0) ⊎ (1 ≤ n)
    cases_zero zero = inl refl
    cases_zero (suc n) = inr (omega arith)
