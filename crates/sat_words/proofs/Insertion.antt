-- A clause by insertion: its members are those of the list, it is in order, and a list in order is its own clause.
use Rattle.std.proofs.Common.{◌≡◌, ◌∙◌, ℕ, ltb, Bool, true, false, ◌||◌, cond, nat_eq, List, [], ◌∷◌, sym, refl, ap, arith}
use Rattle.std.specs.declared.cmp.Ordering.TheVariants.{Less}
use Rattle.std.specs.Ordering.{nat_cmp}
use Rattle.std.specs.List.{AllByRecursion}
use Rattle.std.specs.List.Sorted.{IsStrictlySortedBy}
use Rattle.std.proofs.lemmas.Bool.{or_left, or_right, and_from}
use Rattle.std.proofs.lemmas.Bool.Decides.{nat_tests}
use Rattle.sat_words.specs.Literal.{Literal, same, lit_cmp, code_of}
use Rattle.sat_words.specs.Clause.{has, InOrder, includes, same_set, insert_lit, clause_of}
use Rattle.sat_words.proofs.Members.{same-true, same-refl}
use Rattle.sat_words.proofs.Canonical.{same_clause}

-- Members

-- an `or` of three if the first two are one
or_once : (x y : Bool) → (x || y) ≡ (x || (x || y))
or_once true y = refl
or_once false y = refl

or_swap : (x y z : Bool) → (x || (y || z)) ≡ (y || (x || z))
or_swap true true z = refl
or_swap true false z = refl
or_swap false y z = refl

pub has-insert_lit : (l : Literal) (c : List Literal) (m : Literal) → has (insert_lit l c) m ≡ (same m l || has c m)
has-insert_lit l [] m = refl
has-insert_lit l (k ∷ c) m = by (has-insert_lit l c m) (same l k) (ltb (code_of l) (code_of k)) (same-true l k)
  where
    by : has (insert_lit l c) m ≡ (same m l || has c m) → (x y : Bool) → (x ≡ true → l ≡ k)
        → has (cond x (k ∷ c) (cond y (l ∷ k ∷ c) (k ∷ insert_lit l c))) m ≡ (same m l || (same m k || has c m))
    by rest true y one = or_once (same m k) (has c m) ∙ ap (λ (j : Literal). same m j || (same m k || has c m)) (sym (one refl))
    by rest false true one = refl
    by rest false false one = ap (λ b. same m k || b) rest ∙ or_swap (same m k) (same m l) (has c m)

pub has-clause_of : (c : List Literal) (m : Literal) → has (clause_of c) m ≡ has c m
has-clause_of [] m = refl
has-clause_of (l ∷ c) m = has-insert_lit l (clause_of c) m ∙ ap (λ b. same m l || b) (has-clause_of c m)

includes_from : (c d : List Literal) → ((l : Literal) → has d l ≡ true → has c l ≡ true) → includes c d ≡ true
includes_from c [] f = refl
includes_from c (l ∷ d) f = and_from _ _ (f l (or_left _ _ (same-refl l))) (includes_from c d (λ m h. f m (or_right _ _ h)))

pub same_set_from : (c d : List Literal) → ((l : Literal) → has c l ≡ has d l) → same_set c d ≡ true
same_set_from c d alike = and_from _ _ (includes_from c d (λ l h. alike l ∙ h)) (includes_from d c (λ l h. sym (alike l) ∙ h))

pub same_set-clause_of : (c : List Literal) → same_set c (clause_of c) ≡ true
same_set-clause_of c = same_set_from c (clause_of c) (λ l. sym (has-clause_of c l))

-- Order

is_less : (a b : ℕ) → ltb a b ≡ true → nat_cmp a b ≡ Less
is_less a b e = grind (arith, nat_tests)

is_more : (a b : ℕ) → nat_eq a b ≡ false → ltb a b ≡ false → nat_cmp b a ≡ Less
is_more a b e f = grind (arith, nat_tests)

less_through : (a b c : ℕ) → nat_cmp a b ≡ Less → nat_cmp b c ≡ Less → nat_cmp a c ≡ Less
less_through a b c e f = grind (arith, nat_tests)

-- what is below the first of a list in order is below the others
all_above : (l k : Literal) (c : List Literal) → lit_cmp l k ≡ Less → AllByRecursion (λ m. lit_cmp k m ≡ Less) c → AllByRecursion (λ m. lit_cmp l m ≡ Less) c
all_above l k [] e all = tt
all_above l k (m ∷ c) e all = (less_through (code_of l) (code_of k) (code_of m) e all.0, all_above l k c e all.1)

all_inserted : (P : Literal → Type 0) (l : Literal) (c : List Literal) → P l → AllByRecursion P c → AllByRecursion P (insert_lit l c)
all_inserted P l [] here all = (here, tt)
all_inserted P l (k ∷ c) here all = by (all_inserted P l c here all.1) (same l k) (ltb (code_of l) (code_of k))
  where
    by : AllByRecursion P (insert_lit l c) → (x y : Bool) → AllByRecursion P (cond x (k ∷ c) (cond y (l ∷ k ∷ c) (k ∷ insert_lit l c)))
    by rest true y = all
    by rest false true = (here, all)
    by rest false false = (all.0, rest)

pub InOrder-insert_lit : (l : Literal) (c : List Literal) → InOrder c → InOrder (insert_lit l c)
unfolding IsStrictlySortedBy
InOrder-insert_lit l [] p = (tt, tt)
InOrder-insert_lit l (k ∷ c) p =
    by (InOrder-insert_lit l c p.1) (same l k) (ltb (code_of l) (code_of k)) (is_less (code_of l) (code_of k)) (is_more (code_of l) (code_of k))
  where
    by : InOrder (insert_lit l c) → (x y : Bool) → (y ≡ true → lit_cmp l k ≡ Less) → (x ≡ false → y ≡ false → lit_cmp k l ≡ Less)
        → InOrder (cond x (k ∷ c) (cond y (l ∷ k ∷ c) (k ∷ insert_lit l c)))
    by rest true y below above = p
    by rest false true below above = ((below refl, all_above l k c (below refl) p.0), p)
    by rest false false below above = (all_inserted (λ m. lit_cmp k m ≡ Less) l c (above refl refl) p.0, rest)

pub InOrder-clause_of : (c : List Literal) → InOrder (clause_of c)
unfolding IsStrictlySortedBy
InOrder-clause_of [] = tt
InOrder-clause_of (l ∷ c) = InOrder-insert_lit l (clause_of c) (InOrder-clause_of c)

-- One list for one set

pub clause_of_in_order : (c : List Literal) → InOrder c → clause_of c ≡ c
clause_of_in_order c p = same_clause (clause_of c) c (InOrder-clause_of c) p (has-clause_of c)

-- a list in order with the members of another is the clause of that
pub is_clause_of : (c d : List Literal) → InOrder c → ((l : Literal) → has c l ≡ has d l) → c ≡ clause_of d
is_clause_of c d p alike = same_clause c (clause_of d) p (InOrder-clause_of d) (λ l. alike l ∙ sym (has-clause_of d l))

pub clause_of_alike : (c d : List Literal) → ((l : Literal) → has c l ≡ has d l) → clause_of c ≡ clause_of d
clause_of_alike c d alike = is_clause_of (clause_of c) d (InOrder-clause_of c) (λ l. has-clause_of c l ∙ alike l)
