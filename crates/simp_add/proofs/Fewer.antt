-- The clauses of two literals with their common sets are twice as many as the sets, or more.
use Rattle.std.proofs.Common.{◌≡◌, ◌∙◌, ℕ, zero, suc, ◌+◌, ◌<◌, ◌≤◌, Bool, true, false, List, [], ◌∷◌, length, Option, Some, None, sym, refl, ap, subst, arith, inl, inr, ◌⊎◌, ⊎_elim, Contains, cond, ◌||◌, ◌&&◌}
use Rattle.std.specs.List.{filter, filter_map, cons_option, range_with_len}
use Rattle.std.specs.Prelude.{nat_lt, ⊤}
use Rattle.std.proofs.lemmas.Bool.{true≢false, false≢true, cases_order, or_cases, and_from, not-true, lt-ltb}
use Rattle.sat_words.specs.Literal.{Literal, same}
use Rattle.sat_words.specs.Clause.{has, same_set}
use Rattle.rup_model.proofs.Covers.{same_has}
use Rattle.sat_words.proofs.Insertion.{same_set_from}
use Rattle.rup_model.proofs.Lists.{In, any_In, Contains_In}
use Rattle.simp_base.specs.WorkState.{WorkState, IsWork}
use Rattle.simp_base.proofs.Removal.{same_number}
use Rattle.simp_base.proofs.Filters.{filter_In}
use Rattle.simp_add.specs.Common.{others, is_first, common_at, commons}
use Rattle.simp_add.proofs.Finding.{Cell, parts, counted_at, there_alive, whole_has, whole_set}
use Rattle.simp_add.proofs.Sharing.{free_of, others_are}

-- More pigeons, more holes

abbrev Apart : {X : Type 0} → List X → Type 0
Apart [] = ⊤
Apart (x ∷ xs) = (In x xs → ⊥) × Apart xs

module _ {X : Type 0} {Y : Type 0} (R : X → Y → Type 0) (one : (x z : X) (y : Y) → R x y → R z y → x ≡ z) where
  record Split (y : Y) (ys : List Y) : Type 0 where
    rest : List Y
    less : suc (length rest) ≡ length ys
    stays : (z : Y) → In z ys → (y ≡ z) ⊎ In z rest

  split : (y : Y) (ys : List Y) → In y ys → Split y ys
  split y [] i = absurd i
  split y (z ∷ ys) (inl e) = record { rest = ys; less = refl; stays = λ v i. ⊎_elim (λ (q : z ≡ v). inl (sym e ∙ q)) (λ (j : In v ys). inr j) i }
  split y (z ∷ ys) (inr i) = let t = split y ys i in record {
    rest = z ∷ t.rest;
    less = ap suc t.less;
    stays = λ v j. ⊎_elim (λ (q : z ≡ v). inr (inl q)) (λ (h : In v ys). ⊎_elim (λ (q : y ≡ v). inl q) (λ (g : In v t.rest). inr (inr g)) (t.stays v h)) j;
  }

  pub pigeons : (xs : List X) (ys : List Y) → Apart xs → ((x : X) → In x xs → (y : Y) × In y ys × R x y) → length xs ≤ length ys
  pigeons [] ys d f = omega arith
  pigeons (x ∷ xs) ys d f =
      let a = f x (inl refl) in
      let s = split a.0 ys a.1 in
      let r = pigeons xs s.rest d.1 (λ z i. (
      let b = f z (inr i) in
      (b.0, ⊎_elim (λ (q : a.0 ≡ b.0). absurd (d.0 (subst (λ (v : X). In v xs) (one z x a.0 (subst (R z) (sym q) b.2) a.2) i))) (λ (h : In b.0 s.rest). h) (s.stays b.0 b.1), b.2))) in
      let l = s.less in omega arith

-- Numbers that give something

abbrev is_some : {Y : Type 0} → Option Y → Bool
is_some None = false
is_some (Some y) = true

abbrev somes : {Y : Type 0} → (ℕ → Option Y) → List ℕ → List ℕ
somes f ns = filter (λ n. is_some (f n)) ns

as_many : {Y : Type 0} (f : ℕ → Option Y) (ns : List ℕ) → length (somes f ns) ≡ length (filter_map f ns)
as_many f [] = refl
as_many {Y} f (n ∷ ns) = by (f n) (as_many f ns)
  where
    by : (o : Option Y) → length (somes f ns) ≡ length (filter_map f ns) → length (cond (is_some o) (n ∷ somes f ns) (somes f ns)) ≡ length (cons_option o (filter_map f ns))
    by None e = e
    by (Some y) e = ap suc e

some_of : {Y : Type 0} (o : Option Y) → is_some o ≡ true → (y : Y) × (o ≡ Some y)
some_of None h = absurd (false≢true h)
some_of (Some y) h = (y, refl)

-- a range has no number twice
range_from : (a k n : ℕ) → In n (range_with_len a k) → a ≤ n
range_from a zero n i = absurd i
range_from a (suc k) n (inl e) = omega arith
range_from a (suc k) n (inr i) = let le = range_from (a + 1) k n i in omega arith

range_apart : (a k : ℕ) → Apart (range_with_len a k)
range_apart a zero = tt
range_apart a (suc k) = ((λ i. let le = range_from (a + 1) k a i in omega arith), range_apart (a + 1) k)

filter_apart : (p : ℕ → Bool) (ns : List ℕ) → Apart ns → Apart (filter p ns)
filter_apart p [] d = tt
filter_apart p (n ∷ ns) d = by (p n) (filter_apart p ns d.1)
  where
    by : (b : Bool) → Apart (filter p ns) → Apart (cond b (n ∷ filter p ns) (filter p ns))
    by true e = ((λ i. d.0 (filter_In p ns n i).0), e)
    by false e = e

-- each number on either side
abbrev sides : List ℕ → List (ℕ × Bool)
sides [] = []
sides (n ∷ ns) = (n, true) ∷ (n, false) ∷ sides ns

sides_In : (ns : List ℕ) (y : ℕ × Bool) → In y (sides ns) → In y.0 ns
sides_In [] y i = absurd i
sides_In (n ∷ ns) y (inl e) = inl (ap (λ (z : ℕ × Bool). z.0) e)
sides_In (n ∷ ns) y (inr (inl e)) = inl (ap (λ (z : ℕ × Bool). z.0) e)
sides_In (n ∷ ns) y (inr (inr i)) = inr (sides_In ns y i)

sides_apart : (ns : List ℕ) → Apart ns → Apart (sides ns)
sides_apart [] d = tt
sides_apart (n ∷ ns) d = (
  (λ i. ⊎_elim (λ (e : (n, false) ≡ (n, true)). true≢false (sym (ap (λ (z : ℕ × Bool). z.1) e))) (λ (j : In (n, true) (sides ns)). d.0 (sides_In ns (n, true) j)) i),
  ((λ i. d.0 (sides_In ns (n, false) i)), sides_apart ns d.1),
)

twice_long : (ns : List ℕ) → length (sides ns) ≡ length ns + length ns
twice_long [] = refl
twice_long (n ∷ ns) = let r = twice_long ns in omega arith

-- The clauses of both literals

module _ (w : WorkState) (kept : IsWork w) (l k : Literal) (differ : same l k ≡ false) (gone : List ℕ)
    (there : (m : ℕ) (C : List Literal) → common_at w.clauses l k m ≡ Some C → (n : ℕ) (c : List Literal) → Contains w.clauses (n, c) → (same_set (l ∷ C) c ≡ true) ⊎ (same_set (k ∷ C) c ≡ true) → Contains gone n) where
  abbrev f : ℕ → Option (List Literal)
  f = common_at w.clauses l k

  -- the clause with the number y is that of m on this side
  abbrev On : ℕ × Bool → ℕ → Type 0
  On (m, true) y = (m ≡ y) × ((C : List Literal) × (f m ≡ Some C))
  On (m, false) y = (C : List Literal) × (f m ≡ Some C) × ((d : List Literal) × Contains w.clauses (y, d) × (same_set (k ∷ C) d ≡ true))

  -- a clause of the second literal is none that counts
  not_both : (m y : ℕ) → (C : List Literal) → f y ≡ Some C → On (m, false) y → ⊥
  not_both m y C e h =
      let t = counted_at w l k y C e in
      let p = parts w.clauses l k y t.0 t.2 in
      let u = counted_at w l k m h.0 h.1 in
      let q = parts w.clauses l k m u.0 u.2 in
      let is : t.0 ≡ h.2.0 = same_number w.clauses kept.numbers y t.0 h.2.0 t.1 h.2.1 in
      let in_set : has (k ∷ h.0) l ≡ true = same_has (k ∷ h.0) h.2.0 h.2.2 l ∙ ap (λ (c : List Literal). has c l) (sym is) ∙ p.holds in
      elim (or_cases (same l k) (has h.0 l) in_set) as (λ _. ⊥) [
        | inl a ↦ true≢false (sym a ∙ differ)
        | inr b ↦ true≢false (sym b ∙ ap (λ (D : List Literal). has D l) u.3 ∙ free_of l (others l u.0) q.not_first)
      ]

  -- two first clauses with the same literals are one
  firsts_one : (m z : ℕ) (c d : List Literal) → Contains w.clauses (m, c) → Contains w.clauses (z, d) → is_first w.clauses m c ≡ true → is_first w.clauses z d ≡ true → ((j : Literal) → has c j ≡ has d j) → m ≡ z
  firsts_one m z c d i j a b alike = elim (cases_order m z) as (λ _. m ≡ z) [
    | inl e ↦ e
    | inr (inl lt) ↦ absurd (true≢false (sym (any_In (λ (x : Cell). nat_lt x.0 z && same_set d x.1) w.clauses (m, c) (Contains_In w.clauses (m, c) i) (and_from _ _ (is_lt m z lt) (same_set_from d c (λ q. sym (alike q))))) ∙ not-true _ b))
    | inr (inr gt) ↦ absurd (true≢false (sym (any_In (λ (x : Cell). nat_lt x.0 m && same_set c x.1) w.clauses (z, d) (Contains_In w.clauses (z, d) j) (and_from _ _ (is_lt z m gt) (same_set_from c d alike))) ∙ not-true _ a))
  ]
    where
      is_lt : (a b : ℕ) → a < b → nat_lt a b ≡ true
      is_lt a b h = lt-ltb a b h

  seconds_one : (m z y : ℕ) → On (m, false) y → On (z, false) y → m ≡ z
  seconds_one m z y a b =
      let t = counted_at w l k m a.0 a.1 in
      let u = counted_at w l k z b.0 b.1 in
      let p = parts w.clauses l k m t.0 t.2 in
      let q = parts w.clauses l k z u.0 u.2 in
      let is : a.2.0 ≡ b.2.0 = same_number w.clauses kept.numbers y a.2.0 b.2.0 a.2.1 b.2.1 in
      let free_a : has a.0 k ≡ false = ap (λ (D : List Literal). has D k) t.3 ∙ free_of k (others l t.0) p.not_second in
      let free_b : has b.0 k ≡ false = ap (λ (D : List Literal). has D k) u.3 ∙ free_of k (others l u.0) q.not_second in
      let sets : (j : Literal) → has a.0 j ≡ has b.0 j = λ j. sym (others_are k a.0 a.2.0 free_a a.2.2 j) ∙ ap (λ (D : List Literal). has (others k D) j) is ∙ others_are k b.0 b.2.0 free_b b.2.2 j in
      firsts_one m z t.0 u.0 t.1 u.1 p.first q.first (λ j.
      sym (whole_has l t.0 p.holds j) ∙ ap (λ (D : List Literal). has (l ∷ D) j) (sym t.3) ∙ ap (λ (x : Bool). same j l || x) (sets j) ∙ ap (λ (D : List Literal). has (l ∷ D) j) u.3 ∙ whole_has l u.0 q.holds j)

  one_side : (x z : ℕ × Bool) (y : ℕ) → On x y → On z y → x ≡ z
  one_side (m, true) (z, true) y a b = λ i. ((a.0 ∙ sym b.0) i, true)
  one_side (m, true) (z, false) y a b = absurd (not_both z y a.1.0 (ap f (sym a.0) ∙ a.1.1) b)
  one_side (m, false) (z, true) y a b = absurd (not_both m y b.1.0 (ap f (sym b.0) ∙ b.1.1) a)
  one_side (m, false) (z, false) y a b = λ i. (seconds_one m z y a b i, false)

  all_on : (ns : List ℕ) → ((n : ℕ) → In n ns → (C : List Literal) × (f n ≡ Some C)) → (x : ℕ × Bool) → In x (sides ns) → (y : ℕ) × In y gone × On x y
  all_on ns given (m, true) i =
      let t = given m (sides_In ns (m, true) i) in
      let u = counted_at w l k m t.0 t.1 in
      let p = parts w.clauses l k m u.0 u.2 in
      (m, Contains_In gone m (there m t.0 t.1 m u.0 u.1 (inl (ap (λ (D : List Literal). same_set (l ∷ D) u.0) u.3 ∙ whole_set l u.0 p.holds))), (refl, t))
  all_on ns given (m, false) i =
      let t = given m (sides_In ns (m, false) i) in
      let u = counted_at w l k m t.0 t.1 in
      let p = parts w.clauses l k m u.0 u.2 in
      let a = there_alive w.clauses (k ∷ others l u.0) p.other in
      let s : same_set (k ∷ t.0) a.1 ≡ true = ap (λ (D : List Literal). same_set (k ∷ D) a.1) u.3 ∙ a.3 in
      (a.0, Contains_In gone a.0 (there m t.0 t.1 a.0 a.1 a.2 (inr s)), (t.0, t.1, (a.1, a.2, s)))

  pub twice_as_many : length (commons w l k) + length (commons w l k) ≤ length gone
  twice_as_many =
      let ns = range_with_len 0 (w.output.last + 1) in
      let le = pigeons On one_side (sides (somes f ns)) gone (sides_apart (somes f ns) (filter_apart (λ n. is_some (f n)) ns (range_apart 0 (w.output.last + 1))))
      (all_on (somes f ns) (λ n i. some_of (f n) (filter_In (λ m. is_some (f m)) ns n i).1)) in
      let a = twice_long (somes f ns) in
      let b = as_many f ns in
      omega arith
