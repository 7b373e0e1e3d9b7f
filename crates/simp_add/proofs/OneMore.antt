-- A list that has one literal more than another.
use Rattle.std.proofs.Common.{◌≡◌, ◌∙◌, ℕ, zero, suc, ◌<◌, ◌≤◌, ltb, Bool, true, false, ◌||◌, cond, List, [], ◌∷◌, length, drop, get_or, Option, Some, None, sym, refl, ap, subst, arith, inl, inr, take}
use Rattle.std.specs.declared.cmp.Ordering.TheVariants.{Less}
use Rattle.std.specs.List.{AllByRecursion}
use Rattle.std.specs.List.Sorted.{IsStrictlySortedBy}
use Rattle.std.specs.Ordering.{nat_cmp}
use Rattle.std.proofs.lemmas.Bool.{or_left, or_parts, and_parts, and_from, cases_Bool, true≢false, false≢true}
use Rattle.std.proofs.lemmas.Bool.Decides.{nat_tests}
use Rattle.std.specs.Prelude.{◌-◌}
use Rattle.sat_words.specs.Literal.{Literal, same, code_of, lit_cmp}
use Rattle.sat_words.specs.Clause.{has, InOrder, same_set, insert_lit}
use Rattle.sat_words.proofs.Members.{same-true, same-refl}
use Rattle.sat_words.proofs.Insertion.{has-insert_lit, InOrder-insert_lit}
use Rattle.sat_words.proofs.Canonical.{same_clause}
use Rattle.rup_model.proofs.Covers.{both_true, same_has}
use Rattle.rup_model.proofs.Lists.{In, has_In}
use Rattle.simp_add.specs.Alike.{same_list, one_more}

-- Equal lists

pub same_list_true : (c d : List Literal) → same_list c d ≡ true → c ≡ d
same_list_true [] [] h = refl
same_list_true [] (k ∷ d) h = absurd (false≢true h)
same_list_true (l ∷ c) [] h = absurd (false≢true h)
same_list_true (l ∷ c) (k ∷ d) h = let p = and_parts (same l k) (same_list c d) h in let e = same-true l k p.0 in let f = same_list_true c d p.1 in λ i. e i ∷ f i

pub same_list_refl : (c : List Literal) → same_list c c ≡ true
same_list_refl [] = refl
same_list_refl (l ∷ c) = and_from _ _ (same-refl l) (same_list_refl c)

pub same_list_of : (c d : List Literal) → c ≡ d → same_list c d ≡ true
same_list_of c d e = ap (same_list c) (sym e) ∙ same_list_refl c

pub same_symm : (k l : Literal) → same k l ≡ same l k
same_symm k l = both_true _ _ (λ h. ap (same l) (same-true k l h) ∙ same-refl l) (λ h. ap (same k) (same-true l k h) ∙ same-refl k)

-- A literal more

pub longer : (c d : List Literal) (j : Literal) → one_more c d ≡ Some j → length d ≡ suc (length c)
longer [] [] j h = absurd (let no : ⊥ = cc in no)
longer [] (k ∷ []) j h = refl
longer [] (k ∷ i ∷ d) j h = absurd (let no : ⊥ = cc in no)
longer (l ∷ c) [] j h = absurd (let no : ⊥ = cc in no)
longer (l ∷ c) (k ∷ d) j h = by (same l k) (same_list (l ∷ c) d) refl h (longer c d j)
  where
    by : (a b : Bool) → same_list (l ∷ c) d ≡ b → cond a (one_more c d) (cond b (Some k) None) ≡ Some j → (one_more c d ≡ Some j → length d ≡ suc (length c)) → suc (length d) ≡ suc (suc (length c))
    by true b e h rec = ap suc (rec h)
    by false true e h rec = ap (λ (xs : List Literal). suc (length xs)) (sym (same_list_true (l ∷ c) d e))
    by false false e h rec = absurd (let no : ⊥ = cc in no)

pub other_length : (c d : List Literal) → (length d ≡ suc (length c) → ⊥) → one_more c d ≡ None
other_length c d ne = by (one_more c d) refl
  where
    by : (o : Option Literal) → one_more c d ≡ o → o ≡ None
    by None e = refl
    by (Some j) e = absurd (ne (longer c d j e))

-- the members
or_swap : (x y z : Bool) → (x || (y || z)) ≡ (y || (x || z))
or_swap true true z = refl
or_swap true false z = refl
or_swap false y z = refl

pub members : (c d : List Literal) (j : Literal) → one_more c d ≡ Some j → (m : Literal) → has d m ≡ (same m j || has c m)
members [] [] j h m = absurd (let no : ⊥ = cc in no)
members [] (k ∷ []) j h m = let e : k ≡ j = cc in ap (λ (x : Literal). same m x || false) e
members [] (k ∷ i ∷ d) j h m = absurd (let no : ⊥ = cc in no)
members (l ∷ c) [] j h m = absurd (let no : ⊥ = cc in no)
members (l ∷ c) (k ∷ d) j h m = by (same l k) (same_list (l ∷ c) d) refl refl h (λ e. members c d j e m)
  where
    by : (a b : Bool) → same l k ≡ a → same_list (l ∷ c) d ≡ b → cond a (one_more c d) (cond b (Some k) None) ≡ Some j → (one_more c d ≡ Some j → has d m ≡ (same m j || has c m)) → (same m k || has d m) ≡ (same m j || (same m l || has c m))
    by true b s e h rec = ap (λ (x : Bool). same m k || x) (rec h) ∙ or_swap (same m k) (same m j) (has c m) ∙ ap (λ (x : Literal). same m j || (same m x || has c m)) (sym (same-true l k s))
    by false true s e h rec =
        let one : k ≡ j = cc in
        ap (λ (x : Literal). same m x || has d m) one ∙ ap (λ (xs : List Literal). same m j || has xs m) (sym (same_list_true (l ∷ c) d e))
    by false false s e h rec = absurd (let no : ⊥ = cc in no)

-- in order, the literal is new

is_below : (a b : ℕ) → nat_cmp a b ≡ Less → a < b
is_below a b e = grind (arith, nat_tests)

above : (x : Literal) (ys : List Literal) → AllByRecursion (λ y. lit_cmp x y ≡ Less) ys → (y : Literal) → In y ys → code_of x < code_of y
above x [] all y i = absurd i
above x (z ∷ zs) all y (inl e) = subst (λ (l : Literal). code_of x < code_of l) e (is_below _ _ all.0)
above x (z ∷ zs) all y (inr i) = above x zs all.1 y i

pub head_new : (x : Literal) (ys : List Literal) → InOrder (x ∷ ys) → has ys x ≡ false
unfolding IsStrictlySortedBy
head_new x ys o = elim (cases_Bool (has ys x)) as (λ _. has ys x ≡ false) [
  | inl h ↦ (let lt = above x ys o.0 x (has_In ys x h) in absurd (omega arith))
  | inr e ↦ e
]

tail_order : (x : Literal) (ys : List Literal) → InOrder (x ∷ ys) → InOrder ys
unfolding IsStrictlySortedBy
tail_order x ys o = o.1

pub is_new : (c d : List Literal) (j : Literal) → InOrder d → one_more c d ≡ Some j → has c j ≡ false
is_new [] d j o h = refl
is_new (l ∷ c) [] j o h = absurd (let no : ⊥ = cc in no)
is_new (l ∷ c) (k ∷ d) j o h = by (same l k) (same_list (l ∷ c) d) refl refl h (is_new c d j (tail_order k d o))
  where
    by : (a b : Bool) → same l k ≡ a → same_list (l ∷ c) d ≡ b → cond a (one_more c d) (cond b (Some k) None) ≡ Some j → (one_more c d ≡ Some j → has c j ≡ false) → has (l ∷ c) j ≡ false
    by true b s e h rec =
        let there : has d j ≡ true = members c d j h j ∙ or_left _ _ (same-refl j) in
        let apart : same j l ≡ false = elim (cases_Bool (same j l)) as (λ _. same j l ≡ false) [
          | inl t ↦ absurd (true≢false (sym there ∙ ap (has d) (same-true j l t ∙ same-true l k s) ∙ head_new k d o))
          | inr f ↦ f
        ] in
        (λ i. apart i || rec h i)
    by false true s e h rec =
        let one : k ≡ j = cc in
        ap (λ (xs : List Literal). has xs j) (same_list_true (l ∷ c) d e) ∙ ap (has d) (sym one) ∙ head_new k d o
    by false false s e h rec = absurd (let no : ⊥ = cc in no)

-- each list in order with one literal more is found
inserted : (c : List Literal) (j : Literal) → has c j ≡ false → one_more c (insert_lit j c) ≡ Some j
inserted [] j h = refl
inserted (k ∷ c) j h = by (same j k) (ltb (code_of j) (code_of k)) refl (or_parts (same j k) (has c j) h) (inserted c j)
  where
    by : (a b : Bool) → same j k ≡ a → (same j k ≡ false) × (has c j ≡ false) → (has c j ≡ false → one_more c (insert_lit j c) ≡ Some j) → one_more (k ∷ c) (cond a (k ∷ c) (cond b (j ∷ k ∷ c) (k ∷ insert_lit j c))) ≡ Some j
    by true b e p rec = absurd (true≢false (sym e ∙ p.0))
    by false true e p rec =
        ap (λ (x : Bool). cond x (one_more c (k ∷ c)) (cond (same_list (k ∷ c) (k ∷ c)) (Some j) None)) (same_symm k j ∙ p.0)
        ∙ ap (λ (x : Bool). cond x (Some j) None) (same_list_refl (k ∷ c))
    by false false e p rec =
        ap (λ (x : Bool). cond x (one_more c (insert_lit j c)) (cond (same_list (k ∷ c) (insert_lit j c)) (Some k) None)) (same-refl k)
        ∙ rec p.1

pub is_found : (c d : List Literal) (j : Literal) → InOrder c → InOrder d → has c j ≡ false → same_set (j ∷ c) d ≡ true → one_more c d ≡ Some j
is_found c d j oc od free same_members =
    let is : d ≡ insert_lit j c = same_clause d (insert_lit j c) od (InOrder-insert_lit j c oc) (λ m. sym (same_has (j ∷ c) d same_members m) ∙ sym (has-insert_lit j c m)) in
    ap (one_more c) is ∙ inserted c j free

-- At a place

drop_here : (c : List Literal) (i : ℕ) (x : Literal) → i < length c → drop i c ≡ get_or c i x ∷ drop (suc i) c
drop_here [] i x lt = absurd (omega arith)
drop_here (l ∷ c) zero x lt = refl
drop_here (l ∷ c) (suc i) x lt = drop_here c i x (omega arith)

pub step_on : (c d : List Literal) (i : ℕ) (x : Literal) → i < length c → i < length d → same (get_or c i x) (get_or d i x) ≡ true → one_more (drop (suc i) c) (drop (suc i) d) ≡ one_more (drop i c) (drop i d)
step_on c d i x lc ld s =
    sym (ap (λ (b : Bool). cond b (one_more (drop (suc i) c) (drop (suc i) d)) (cond (same_list (get_or c i x ∷ drop (suc i) c) (drop (suc i) d)) (Some (get_or d i x)) None)) s)
    ∙ (let p = sym (drop_here c i x lc) in let q = sym (drop_here d i x ld) in λ k. one_more (p k) (q k))

pub differs_at : (c d : List Literal) (i : ℕ) (x : Literal) → i ≤ length c → length d ≡ suc (length c) → (i < length c → same (get_or c i x) (get_or d i x) ≡ false)
    → one_more (drop i c) (drop i d) ≡ cond (same_list (drop i c) (drop (suc i) d)) (Some (get_or d i x)) None
differs_at [] [] zero x le len ne = absurd (omega arith)
differs_at [] (k ∷ []) zero x le len ne = refl
differs_at [] (k ∷ j ∷ d) zero x le len ne = absurd (omega arith)
differs_at [] d (suc i) x le len ne = absurd (omega arith)
differs_at (l ∷ c) [] i x le len ne = absurd (omega arith)
differs_at (l ∷ c) (k ∷ d) zero x le len ne = ap (λ (b : Bool). cond b (one_more c d) (cond (same_list (l ∷ c) d) (Some k) None)) (ne (omega arith))
differs_at (l ∷ c) (k ∷ d) (suc i) x le len ne = differs_at c d i x (omega arith) (omega arith) (λ lt. ne (omega arith))

-- a part up to the end
pub take_whole : {X : Type 0} (xs : List X) (i : ℕ) → length xs ≤ i → take i xs ≡ xs
take_whole [] zero le = refl
take_whole [] (suc i) le = refl
take_whole (x ∷ xs) zero le = absurd (omega arith)
take_whole (x ∷ xs) (suc i) le = ap (λ (ys : List _). x ∷ ys) (take_whole xs i (omega arith))

long_rest : (c : List Literal) (p : ℕ) → length (drop p c) ≤ length c - p
long_rest [] zero = omega arith
long_rest [] (suc p) = omega arith
long_rest (x ∷ c) zero = omega arith
long_rest (x ∷ c) (suc p) = let r = long_rest c p in omega arith

pub rest_of : (c : List Literal) (p : ℕ) → take (length c - p) (drop p c) ≡ drop p c
rest_of c p = take_whole (drop p c) (length c - p) (long_rest c p)
