-- Clauses in order of number are the start clauses of the program's opening.
use Rattle.std.proofs.Common.{◌≡◌, ◌≢◌, ◌∙◌, ℕ, zero, suc, ◌+◌, ◌<◌, ◌≤◌, ◌==◌, Bool, true, false, cond, List, [], ◌∷◌, ◌++◌, map, filter, length, get_or, Option, Some, None, refl, sym, ap, subst, inl, inr, arith, Contains, eq-eqb, ne_eqb}
use Rattle.std.specs.List.{filter_map, cons_option, range_with_len, sum_by}
use Rattle.std.specs.List.Sorted.{IsPermutation, IsNonDecreasingBy}
use Rattle.std.specs.Option.{option_and_then, option_map}
use Rattle.std.proofs.lemmas.Bool.{true≢false}
use Rattle.std.proofs.lemmas.List.Sums.{sum_by-append}
use Rattle.std.proofs.lemmas.Bool.Decides.{nat_tests}
use Rattle.std.proofs.lemmas.List.Sorted.{IsPermutation-sym, Contains-permutation, sum_by-IsPermutation}
use Rattle.sat_words.specs.Literal.{Literal}
use Rattle.sat_words.specs.Clause.{clause_of}
use Rattle.rup_model.specs.Basics.{one_if}
use Rattle.rup_model.specs.Journal.{Book}
use Rattle.rup_model.specs.Opening.{Start, start_at}
use Rattle.rup_model.proofs.Lists.{In, Contains_In, In_Contains}
use Rattle.simp_base.specs.WorkState.{HaveOwnNumbers}
use Rattle.simp_base.specs.Parts.{takes_part}
use Rattle.simp_base.proofs.Filters.{In_filter, filter_In}
use Rattle.simp_base.proofs.Order.{in_book, part_in_order}
use Rattle.ruler_simp.specs.Left.{start_of}

abbrev pub Cell : Type 0
Cell = ℕ × List Literal

-- Rising numbers

-- the numbers rise, from this one on
abbrev pub Rising : ℕ → List Cell → Type 0
Rising a [] = Unit {0}
Rising a (x ∷ xs) = (a ≤ x.0) × Rising (suc x.0) xs

-- how many have the number
abbrev at : ℕ → List Cell → ℕ
at n xs = sum_by (λ (c : Cell). one_if (c.0 == n)) xs

at_cons : (n : ℕ) (x : Cell) (xs : List Cell) → at n (x ∷ xs) ≡ one_if (x.0 == n) + at n xs
at_cons n x xs = let e : at n ((x ∷ []) ++ xs) ≡ (0 + one_if (x.0 == n)) + at n xs = sum_by-append (λ (c : Cell). one_if (c.0 == n)) (x ∷ []) xs in omega (arith, e)

-- no two have one number
abbrev AtMostOne : List Cell → Type 0
AtMostOne xs = (n : ℕ) → at n xs ≤ 1

one_at : (n m : ℕ) → n ≡ m → one_if (n == m) ≡ 1
one_at n m e = ap one_if (eq-eqb n m e)

none_at : (n m : ℕ) → n ≢ m → one_if (n == m) ≡ 0
none_at n m ne = ap one_if (ne_eqb n m ne)

at_none : (n : ℕ) (xs : List Cell) → ((i : ℕ) (d : Cell) → i < length xs → (get_or xs i d).0 ≢ n) → at n xs ≡ 0
at_none n [] f = refl
at_none n (x ∷ xs) f = let h = none_at x.0 n (f 0 x (omega arith)) in let r = at_none n xs (λ i d lt. f (suc i) d (omega arith)) in let q = at_cons n x xs in omega arith

own_once : (xs : List Cell) → HaveOwnNumbers xs → AtMostOne xs
own_once [] own n = omega arith
own_once (x ∷ xs) own n = subst (λ (k : ℕ). k ≤ 1) (sym (at_cons n x xs)) (by (x.0 == n) refl (own_once xs (λ i j d ij jl. own (suc i) (suc j) d (omega arith) (omega arith)) n))
  where
    by : (b : Bool) → (x.0 == n) ≡ b → at n xs ≤ 1 → one_if b + at n xs ≤ 1
    by true e le =
        let is : x.0 ≡ n = grind (arith, nat_tests, e) in
        let none = at_none n xs (λ i d lt q. own 0 (suc i) d (omega arith) (omega arith) (is ∙ sym q)) in omega arith
    by false e le = omega arith

filter_once : (p : Cell → Bool) (xs : List Cell) → AtMostOne xs → AtMostOne (filter p xs)
filter_once p xs once n = let a = less xs in let b = once n in omega arith
  where
    less : (ys : List Cell) → at n (filter p ys) ≤ at n ys
    less [] = omega arith
    less (y ∷ ys) = by (p y) (less ys)
      where
        by : (b : Bool) → at n (filter p ys) ≤ at n ys → at n (cond b (y ∷ filter p ys) (filter p ys)) ≤ at n (y ∷ ys)
        by true le = let q = at_cons n y (filter p ys) in let t = at_cons n y ys in omega arith
        by false le = let t = at_cons n y ys in omega arith

-- numbers in order that differ rise
rising : (a : ℕ) (xs : List Cell) → IsNonDecreasingBy (λ (c : Cell). c.0) xs → AtMostOne xs → ((d : Cell) → 0 < length xs → a ≤ (get_or xs 0 d).0) → Rising a xs
rising a [] up once low = tt
rising a (x ∷ []) up once low = (low x (omega arith), tt)
rising a (x ∷ y ∷ xs) up once low =
    (low x (omega arith), rising (suc x.0) (y ∷ xs) (λ i j d ij jl. up (suc i) (suc j) d (omega arith) (omega arith)) (λ n. (let h = once n in let q = at_cons n x (y ∷ xs) in omega arith)) (λ d lt. above))
  where
    above : suc x.0 ≤ y.0
    above =
        let le : x.0 ≤ y.0 = up 0 1 x (omega arith) (omega arith) in
        let ne : x.0 ≢ y.0 = (λ e. let h = once y.0 in let p = one_at x.0 y.0 e in let q = one_at y.0 y.0 refl in let s = at_cons y.0 x (y ∷ xs) in let t = at_cons y.0 y xs in absurd (omega arith)) in
        omega arith

-- Start clauses

abbrev take_start : ℕ → List Literal → Option Start
take_start n c = cond (takes_part c) (Some (record { number = n; lits = clause_of c })) None

-- none has the first number
raise : (a : ℕ) (xs : List Cell) → Rising a xs → ((c : List Literal) → In (a, c) xs → ⊥) → Rising (a + 1) xs
raise a [] r none = tt
raise a (x ∷ xs) r none =
    let le = r.0 in
    let ne : a ≢ x.0 = (λ e. none x.1 (inl (λ i. (sym e i, x.1)))) in
    (omega arith, r.1)

-- a higher number is none of these
past : (a : ℕ) (xs : List Cell) (n : ℕ) (c : List Literal) → Rising a xs → In (n, c) xs → a ≤ n
past a [] n c r i = absurd i
past a (x ∷ xs) n c r (inl e) = let le = r.0 in let q : x.0 ≡ n = ap (λ (y : Cell). y.0) e in omega arith
past a (x ∷ xs) n c r (inr i) = let le = past (suc x.0) xs n c r.1 i in let lo = r.0 in omega arith

-- the cells are clauses of the book that take part, each in order, with numbers below this one
abbrev Held : Book → ℕ → List Cell → Type 0
Held b m xs = (n : ℕ) (c : List Literal) → In (n, c) xs → (option_map clause_of (b.clause n) ≡ Some c) × (takes_part c ≡ true) × (n < m)

-- all of them from this number on
abbrev Whole : Book → ℕ → List Cell → Type 0
Whole b a xs = (n : ℕ) (c : List Literal) → a ≤ n → b.clause n ≡ Some c → takes_part c ≡ true → In (n, clause_of c) xs

abbrev Are : Book → ℕ → ℕ → List Cell → Type 0
Are b a k xs = map start_of xs ≡ filter_map (start_at b) (range_with_len a k)

module _ (b : Book) (a k : ℕ) (rec : (ys : List Cell) → Rising (a + 1) ys → Held b (a + 1 + k) ys → Whole b (a + 1) ys → Are b (a + 1) k ys) (xs : List Cell) (r : Rising a xs) (f : Held b (a + suc k) xs) (g : Whole b a xs) where
  bound : (n : ℕ) → n < a + suc k → n < a + 1 + k
  bound n lt = omega arith

  none_here : ((c : List Literal) → In (a, c) xs → ⊥) → Are b (a + 1) k xs
  none_here none = rec xs (raise a xs r none) (λ n c i. (let h = f n c i in (h.0, h.1, bound n h.2))) (λ n c le. g n c (omega arith))

  one_here : (c : List Literal) → (ys : List Cell) → Rising a ys → In (a, c) ys → Held b (a + suc k) ys → Whole b a ys
      → map start_of ys ≡ record { number = a; lits = c } ∷ filter_map (start_at b) (range_with_len (a + 1) k)
  one_here c [] s i held whole = absurd i
  one_here c (y ∷ ys) s (inr i) held whole = let le = past (suc y.0) ys a c s.1 i in let lo = s.0 in absurd (omega arith)
  one_here c (y ∷ ys) s (inl e) held whole =
      let first : y.0 ≡ a = ap (λ (z : Cell). z.0) e in
      let up : suc y.0 ≡ a + 1 = omega arith in
      let rest : Are b (a + 1) k ys =
      rec ys (subst (λ (m : ℕ). Rising m ys) up s.1)
      (λ n d j. (let h = held n d (inr j) in (h.0, h.1, bound n h.2)))
      (λ n d le h q. later n (clause_of d) le (whole n d (omega arith) h q)) in
      ap (λ (z : Cell). start_of z ∷ map start_of ys) e ∙ ap (λ (ss : List Start). record { number = a; lits = c } ∷ ss) rest
    where
      later : (n : ℕ) (d : List Literal) → a + 1 ≤ n → In (n, d) (y ∷ ys) → In (n, d) ys
      later n d le (inl q) = let one : a ≡ n = ap (λ (z : Cell). z.0) (sym e ∙ q) in absurd (omega arith)
      later n d le (inr j) = j

  part_here : (c : List Literal) → b.clause a ≡ Some c → (t : Bool) → takes_part c ≡ t → map start_of xs ≡ cons_option (cond t (Some (record { number = a; lits = clause_of c })) None) (filter_map (start_at b) (range_with_len (a + 1) k))
  part_here c is true part = one_here (clause_of c) xs r (g a c (omega arith) is part) f g
  part_here c is false part = none_here (λ d i. (
      let h = f a d i in
      let both : Some (clause_of c) ≡ Some d = sym (ap (option_map clause_of) is) ∙ h.0 in
      let same_d : clause_of c ≡ d = cc in
      true≢false (sym h.1 ∙ ap takes_part (sym same_d) ∙ part_in_order c ∙ part)))

  here : (o : Option (List Literal)) → b.clause a ≡ o → map start_of xs ≡ cons_option (option_and_then (take_start a) o) (filter_map (start_at b) (range_with_len (a + 1) k))
  here None is = none_here (λ c i. (let both : None ≡ Some c = sym (ap (option_map clause_of) is) ∙ (f a c i).0 in let none : ⊥ = cc in none))
  here (Some c) is = part_here c is (takes_part c) refl

starts_from : (b : Book) (a k : ℕ) (xs : List Cell) → Rising a xs → Held b (a + k) xs → Whole b a xs → Are b a k xs
starts_from b a zero [] r f g = refl
starts_from b a zero (x ∷ xs) r f g = let lo = r.0 in let hi = (f x.0 x.1 (inl refl)).2 in absurd (omega arith)
starts_from b a (suc k) xs r f g = here b a k (λ ys s u v. starts_from b (a + 1) k ys s u v) xs r f g (b.clause a) refl

-- the clauses of a book in order of number, those that take part
pub starts_are : (b : Book) (m : ℕ) (cells xs : List Cell) → HaveOwnNumbers cells → IsPermutation (filter (λ (c : Cell). takes_part c.1) cells) xs → IsNonDecreasingBy (λ (c : Cell). c.0) xs
    → ((n : ℕ) (c : List Literal) → Contains cells (n, c) → option_map clause_of (b.clause n) ≡ Some c) → ((n : ℕ) (c : List Literal) → b.clause n ≡ Some c → takes_part c ≡ true → Contains cells (n, clause_of c))
    → ((n : ℕ) (c : List Literal) → b.clause n ≡ Some c → (1 ≤ n) × (n < 1 + m)) → map start_of xs ≡ filter_map (start_at b) (range_with_len 1 m)
starts_are b m cells xs own perm up held all within =
    starts_from b 1 m xs
    (rising 1 xs up (λ n. subst (λ (k : ℕ). k ≤ 1) (sym (sum_by-IsPermutation (λ (c : Cell). one_if (c.0 == n)) kept xs perm)) (filter_once (λ (c : Cell). takes_part c.1) cells (own_once cells own) n)) low)
    (λ n c i. (let h = member n c i in let is = held n c (In_Contains cells (n, c) h.0) in (is, h.1, (there n c h.0).1)))
    (λ n c le is part. Contains_In xs (n, clause_of c) (Contains-permutation kept xs (n, clause_of c) perm (In_Contains kept (n, clause_of c)
    (In_filter (λ (d : Cell). takes_part d.1) cells (n, clause_of c) (Contains_In cells (n, clause_of c) (all n c is part)) (part_in_order c ∙ part)))))
  where
    kept : List Cell
    kept = filter (λ (c : Cell). takes_part c.1) cells

    member : (n : ℕ) (c : List Literal) → In (n, c) xs → In (n, c) cells × (takes_part c ≡ true)
    member n c i = filter_In (λ (d : Cell). takes_part d.1) cells (n, c) (Contains_In kept (n, c) (Contains-permutation xs kept (n, c) (IsPermutation-sym kept xs perm) (In_Contains xs (n, c) i)))

    there : (n : ℕ) (c : List Literal) → In (n, c) cells → (1 ≤ n) × (n < 1 + m)
    there n c i = let t = in_book (b.clause n) c (held n c (In_Contains cells (n, c) i)) in within n t.0 t.1

    low : (d : Cell) → 0 < length xs → 1 ≤ (get_or xs 0 d).0
    low d lt = first xs (λ n c i. (there n c (member n c i).0).0) d lt
      where
        first : (ys : List Cell) → ((n : ℕ) (c : List Literal) → In (n, c) ys → 1 ≤ n) → (e : Cell) → 0 < length ys → 1 ≤ (get_or ys 0 e).0
        first [] f e h = absurd (omega arith)
        first (y ∷ ys) f e h = f y.0 y.1 (inl refl)
