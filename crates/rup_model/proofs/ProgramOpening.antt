-- The program's opening is an opening.
use Rattle.std.proofs.Common.{◌≡◌, ℕ, zero, suc, ◌+◌, ◌<◌, ◌==◌, nat_eq, Bool, true, false, not, ◌&&◌, cond, List, [], ◌∷◌, ◌++◌, map, length, All, Option, Some, None, refl, sym, ap, ◌∙◌, subst, inl, inr, arith, ne_eqb}
use Rattle.std.specs.declared.cmp.Ordering.TheVariants.{Less}
use Rattle.std.specs.Ordering.{nat_cmp}
use Rattle.std.specs.List.{list_all, fold, filter_map, cons_option, slice_get, range_with_len, AllByRecursion, IsDistinct}
use Rattle.std.specs.List.Sorted.{IsStrictlySortedBy}
use Rattle.std.specs.Option.{option_map, option_and_then}
use Rattle.std.specs.Set.{is_member, unique_keys}
use Rattle.std.proofs.lemmas.Bool.{and_parts, and_from, cases_Bool, not-true, true≢false}
use Rattle.std.proofs.lemmas.Bool.Decides.{nat_tests}
use Rattle.sat_words.specs.Literal.{Literal, same, lit_cmp, code_of}
use Rattle.sat_words.specs.Clause.{has, InOrder, same_set, distinct_lits, has_opposites, two_or_more, clause_of}
use Rattle.sat_words.proofs.Insertion.{InOrder-clause_of, clause_of_in_order}
use Rattle.rup_model.specs.declared.journal.TheConstants.{RULER_RING}
use Rattle.rup_model.specs.declared.journal.Entry.{Entry}
use Rattle.rup_model.specs.declared.journal.Entry.TheVariants.{Add, Del, Reduce, Round}
use Rattle.rup_model.specs.Journal.{Book, formula_book, spelled, book_after, book, added, is_told}
use Rattle.rup_model.specs.Opening.{is_rulers, IsRulersPart, Start, IsLong, IsStart, AreAscending, IsOpening, start_at, only_literal, program_opening}
use Rattle.rup_model.proofs.Lists.{In, any_In, has_In, In_has, In_get_or}
use Rattle.rup_model.proofs.Sums.{at_put}
use Rattle.rup_model.proofs.Units.{two_long, one_unit}

-- Lists

pub All_from_In : {X : Type 0} (P : X → Type 0) (xs : List X) → ((x : X) → In x xs → P x) → All P xs
All_from_In P xs f k d lt = f _ (In_get_or xs k d lt)

filter_map_In : {X Y : Type 0} (h : X → Option Y) (xs : List X) (y : Y) → In y (filter_map h xs) → (x : X) × In x xs × (h x ≡ Some y)
filter_map_In h [] y i = absurd i
filter_map_In {X} {Y} h (x ∷ xs) y i = by (h x) refl i (filter_map_In h xs y)
  where
    by : (o : Option Y) → h x ≡ o → In y (cons_option o (filter_map h xs)) → (In y (filter_map h xs) → (z : X) × In z xs × (h z ≡ Some y)) → (z : X) × In z (x ∷ xs) × (h z ≡ Some y)
    by None e k rec = let t = rec k in (t.0, inr t.1, t.2)
    by (Some z) e (inl q) rec = (x, inl refl, e ∙ ap (λ (w : Y). Some w) q)
    by (Some z) e (inr k) rec = let t = rec k in (t.0, inr t.1, t.2)

-- Literals in order are distinct

not_below_itself : (a : ℕ) → nat_cmp a a ≡ Less → ⊥
not_below_itself a e = grind (arith, nat_tests)

each_below : (x : Literal) (ys : List Literal) → AllByRecursion (λ y. lit_cmp x y ≡ Less) ys → (y : Literal) → In y ys → lit_cmp x y ≡ Less
each_below x [] all y i = absurd i
each_below x (z ∷ ys) all y (inl e) = subst (λ (w : Literal). lit_cmp x w ≡ Less) e all.0
each_below x (z ∷ ys) all y (inr i) = each_below x ys all.1 y i

pub distinct_in_order : (c : List Literal) → InOrder c → distinct_lits c ≡ true
unfolding IsStrictlySortedBy
distinct_in_order [] o = refl
distinct_in_order (l ∷ c) o =
    and_from _ _
    (elim (cases_Bool (has c l)) as (λ _. not (has c l) ≡ true) [
      | inl h ↦ absurd (not_below_itself (code_of l) (each_below l c o.0 l (has_In c l h)))
      | inr e ↦ ap not e
    ])
    (distinct_in_order c o.1)

-- Each clause that the ruler leaves alive is in order

abbrev pub Ordered : Book → Type 0
Ordered b = (n : ℕ) (c : List Literal) → b.clause n ≡ Some c → InOrder c

ordered_some : (o : Option (List Literal)) (c : List Literal) → option_map clause_of o ≡ Some c → InOrder c
ordered_some None c e = absurd (let no : ⊥ = cc in no)
ordered_some (Some d) c e = let same_c : clause_of d ≡ c = cc in subst InOrder same_c (InOrder-clause_of d)

pub formula_ordered : (F : List (List Literal)) → Ordered (formula_book F)
formula_ordered F zero c e = absurd (let no : ⊥ = cc in no)
formula_ordered F (suc i) c e = ordered_some (slice_get F i) c e

ordered_step : (b : Book) (e : Entry) → is_rulers e ≡ true → Ordered b → Ordered (book_after b e)
ordered_step b (Add x) r o n c =
    at_put b.clause b.next (Some (spelled x)) (λ y. y ≡ Some c → InOrder c) n
    (λ _ e. let same_c : spelled x ≡ c = cc in subst InOrder (sym (by (x.ring == RULER_RING) ruled) ∙ same_c) (InOrder-clause_of x.lits))
    (λ _. o n c)
  where
    ruled : (x.ring == RULER_RING) ≡ true
    ruled = (and_parts (x.ring == RULER_RING) _ r).0

    by : (t : Bool) → t ≡ true → cond t (clause_of x.lits) x.lits ≡ clause_of x.lits
    by true e = refl
    by false e = absurd (true≢false (sym e))
ordered_step b (Del q k) r o n c = at_put b.clause k None (λ y. y ≡ Some c → InOrder c) n (λ _ e. absurd (let no : ⊥ = cc in no)) (λ _. o n c)
ordered_step b (Reduce q) r o n c = o n c
ordered_step b (Round x) r o n c = absurd (true≢false (sym r))

ordered_from : (b : Book) (J : List Entry) → All (λ e. is_rulers e ≡ true) J → Ordered b → Ordered (fold book_after b J)
ordered_from b [] r o = o
ordered_from b (e ∷ J) r o = ordered_from (book_after b e) J (λ k d lt. r (suc k) d (omega arith)) (ordered_step b e (r 0 e (omega arith)) o)

pub rulers_ordered : (F : List (List Literal)) (J0 : List Entry) → All (λ e. is_rulers e ≡ true) J0 → Ordered (book F J0)
rulers_ordered F J0 r = ordered_from (formula_book F) J0 r (formula_ordered F)

-- Start clauses

abbrev take_start : ℕ → List Literal → Option Start
take_start n c = cond (two_or_more c && not (has_opposites c)) (Some (record { number = n; lits = clause_of c })) None

taken : (n : ℕ) (c : List Literal) (t : Bool) (s : Start) → cond t (Some (record { number = n; lits = c })) None ≡ Some s → (t ≡ true) × (s.number ≡ n) × (s.lits ≡ c)
taken n c true s e = let same_s : record { number = n; lits = c } ≡ s = cc in (refl, sym (ap (λ (x : Start). x.number) same_s), sym (ap (λ (x : Start). x.lits) same_s))
taken n c false s e = absurd (let no : ⊥ = cc in no)

-- the start clause under the number, and the clause that stands there
record Started (b : Book) (n : ℕ) (s : Start) : Type 0 where
  number : s.number ≡ n
  clause : List Literal
  alive : b.clause n ≡ Some clause
  lits : s.lits ≡ clause_of clause
  two : two_or_more clause ≡ true
  no_opposites : has_opposites clause ≡ false

started : (b : Book) (n : ℕ) (s : Start) → start_at b n ≡ Some s → Started b n s
started b n s = by (b.clause n) refl
  where
    by : (o : Option (List Literal)) → b.clause n ≡ o → option_and_then (take_start n) o ≡ Some s → Started b n s
    by None e h = absurd (let no : ⊥ = cc in no)
    by (Some c) e h =
        let t = taken n (clause_of c) (two_or_more c && not (has_opposites c)) s h in
        let p = and_parts (two_or_more c) (not (has_opposites c)) t.0 in
        record { number = t.1; clause = c; alive = e; lits = t.2; two = p.0; no_opposites = not-true _ p.1 }

is_start : (b : Book) (n : ℕ) (s : Start) → Ordered b → start_at b n ≡ Some s → IsStart b s
is_start b n s o e =
    let t = started b n s e in
    let in_order : InOrder t.clause = o n t.clause t.alive in
    let same_s : t.clause ≡ s.lits = sym (t.lits ∙ clause_of_in_order t.clause in_order) in
    record {
      alive = ap b.clause t.number ∙ t.alive ∙ ap (λ (d : List Literal). Some d) same_s;
      shape = subst IsLong same_s (record { long = two_long t.clause t.two; distinct = distinct_in_order t.clause in_order; no_opposites = t.no_opposites });
    }

abbrev starts_from : Book → ℕ → ℕ → List Start
starts_from b a n = filter_map (start_at b) (range_with_len a n)

abbrev numbers_of : List Start → List ℕ
numbers_of ss = map (λ s. s.number) ss

later : (b : Book) (k a n : ℕ) → k < a → AllByRecursion (λ y. nat_eq k y ≡ false) (numbers_of (starts_from b a n))
later b k a zero lt = tt
later b k a (suc n) lt = by (start_at b a) (λ s e. (started b a s e).number) (later b k (a + 1) n (omega arith))
  where
    by : (o : Option Start) → ((s : Start) → o ≡ Some s → s.number ≡ a) → AllByRecursion (λ y. nat_eq k y ≡ false) (numbers_of (starts_from b (a + 1) n))
        → AllByRecursion (λ y. nat_eq k y ≡ false) (numbers_of (cons_option o (starts_from b (a + 1) n)))
    by None f rec = rec
    by (Some s) f rec = (ne_eqb k s.number (λ e. let q = f s refl in absurd (omega arith)), rec)

numbers_distinct : (b : Book) (a n : ℕ) → IsDistinct nat_eq (numbers_of (starts_from b a n))
unfolding IsDistinct
numbers_distinct b a zero = tt
numbers_distinct b a (suc n) = by (start_at b a) (λ s e. (started b a s e).number) (numbers_distinct b (a + 1) n)
  where
    by : (o : Option Start) → ((s : Start) → o ≡ Some s → s.number ≡ a) → IsDistinct nat_eq (numbers_of (starts_from b (a + 1) n))
        → IsDistinct nat_eq (numbers_of (cons_option o (starts_from b (a + 1) n)))
    by None f rec = rec
    by (Some s) f rec = (later b s.number (a + 1) n (let q = f s refl in omega arith), rec)

pub less : (m n : ℕ) → m < n → nat_cmp m n ≡ Less
less m n lt = grind (arith, nat_tests)

rising : (b : Book) (k a n : ℕ) → k < a → AllByRecursion (λ y. nat_cmp k y ≡ Less) (numbers_of (starts_from b a n))
rising b k a zero lt = tt
rising b k a (suc n) lt = by (start_at b a) (λ s e. (started b a s e).number) (rising b k (a + 1) n (omega arith))
  where
    by : (o : Option Start) → ((s : Start) → o ≡ Some s → s.number ≡ a) → AllByRecursion (λ y. nat_cmp k y ≡ Less) (numbers_of (starts_from b (a + 1) n))
        → AllByRecursion (λ y. nat_cmp k y ≡ Less) (numbers_of (cons_option o (starts_from b (a + 1) n)))
    by None f rec = rec
    by (Some s) f rec = (less k s.number (let q = f s refl in omega arith), rec)

numbers_ascend : (b : Book) (a n : ℕ) → AreAscending (starts_from b a n)
unfolding IsStrictlySortedBy
numbers_ascend b a zero = tt
numbers_ascend b a (suc n) = by (start_at b a) (λ s e. (started b a s e).number) (numbers_ascend b (a + 1) n)
  where
    by : (o : Option Start) → ((s : Start) → o ≡ Some s → s.number ≡ a) → AreAscending (starts_from b (a + 1) n) → AreAscending (cons_option o (starts_from b (a + 1) n))
    by None f rec = rec
    by (Some s) f rec = (rising b s.number (a + 1) n (let q = f s refl in omega arith), rec)

-- they stand in order of number
pub program_ascends : (F : List (List Literal)) (J0 : List Entry) → AreAscending (program_opening F J0).starts
program_ascends F J0 = numbers_ascend (book F J0) 1 (length (F ++ added J0))

-- Units

only_same : (c : List Literal) (l : Literal) → only_literal c ≡ Some l → same_set (l ∷ []) c ≡ true
only_same [] l e = absurd (let no : ⊥ = cc in no)
only_same (k ∷ c) l e = by (list_all (same k) c) refl e
  where
    by : (t : Bool) → list_all (same k) c ≡ t → cond t (Some k) None ≡ Some l → same_set (l ∷ []) (k ∷ c) ≡ true
    by true all q = let same_k : k ≡ l = cc in subst (λ (m : Literal). same_set (m ∷ []) (k ∷ c) ≡ true) same_k (one_unit k c all)
    by false all q = absurd (let no : ⊥ = cc in no)

unique_In : (xs : List Literal) (l : Literal) → In l (unique_keys same xs) → In l xs
unique_In [] l i = i
unique_In (x ∷ xs) l i = by (is_member same xs x) i (unique_In xs l)
  where
    by : (t : Bool) → In l (cond t (unique_keys same xs) (x ∷ unique_keys same xs)) → (In l (unique_keys same xs) → In l xs) → In l (x ∷ xs)
    by true k rec = inr (rec k)
    by false (inl e) rec = inl e
    by false (inr k) rec = inr (rec k)

unique_distinct : (xs : List Literal) → distinct_lits (unique_keys same xs) ≡ true
unique_distinct [] = refl
unique_distinct (x ∷ xs) = by (is_member same xs x) refl (unique_distinct xs)
  where
    absent : is_member same xs x ≡ false → not (has (unique_keys same xs) x) ≡ true
    absent e = elim (cases_Bool (has (unique_keys same xs) x)) as (λ _. not (has (unique_keys same xs) x) ≡ true) [
      | inl h ↦ absurd (true≢false (sym (In_has xs x (unique_In xs x (has_In (unique_keys same xs) x h))) ∙ e))
      | inr f ↦ ap not f
    ]

    by : (t : Bool) → is_member same xs x ≡ t → distinct_lits (unique_keys same xs) ≡ true → distinct_lits (cond t (unique_keys same xs) (x ∷ unique_keys same xs)) ≡ true
    by true e rec = rec
    by false e rec = and_from _ _ (absent e) rec

unit_told : (F : List (List Literal)) (J0 : List Entry) (l : Literal) → In l (program_opening F J0).units → is_told F J0 l ≡ true
unit_told F J0 l i =
    let t = filter_map_In only_literal (F ++ added J0) l (unique_In (filter_map only_literal (F ++ added J0)) l i) in
    any_In (same_set (l ∷ [])) (F ++ added J0) t.0 t.1 (only_same t.0 l t.2)

-- each under a number of its own
pub program_numbers : (F : List (List Literal)) (J0 : List Entry) → IsDistinct nat_eq (map (λ s. s.number) (program_opening F J0).starts)
program_numbers F J0 = numbers_distinct (book F J0) 1 (length (F ++ added J0))

pub program_opens : (F : List (List Literal)) (J0 : List Entry) → IsRulersPart F J0 → IsOpening F (program_opening F J0)
program_opens F J0 r = record {
  rulers_part = r;
  starts = All_from_In (IsStart (book F J0)) (program_opening F J0).starts (λ s i.
      (let t = filter_map_In (start_at (book F J0)) (range_with_len 1 (length (F ++ added J0))) s i in is_start (book F J0) t.0 s (rulers_ordered F J0 r.rulers) t.2));
  numbers = program_numbers F J0;
  told = All_from_In (λ (l : Literal). is_told F J0 l ≡ true) (program_opening F J0).units (unit_told F J0);
  distinct = unique_distinct (filter_map only_literal (F ++ added J0));
}
