-- Bounds on more and more resolvents.
use Rattle.std.proofs.Common.{◌≡◌, ℕ, ◌+◌, ◌<◌, ◌≤◌, Bool, true, false, not, List, [], ◌∷◌, ◌++◌, length, take, drop, get_or, cond, zero, suc, ◌⊎◌, sym, refl, ap, subst, ◌∙◌, inl, inr, arith, length-append, append_assoc, append-nil, map, add-one}
use Rattle.std.specs.List.{list_all}
use Rattle.std.proofs.lemmas.Bool.{cases_Bool, and_parts, and_from, true≢false, not-true, ltb-false, le-ltb}
use Rattle.std.proofs.lemmas.List.Folds.{list_all-append}
use Rattle.sat_words.specs.Literal.{Literal}
use Rattle.sat_words.specs.Clause.{has_opposites}
use Rattle.simp_elim.specs.Rule.{at_most}
use Rattle.simp_elim.specs.Resolution.{is_proper, resolved, resolved_with, resolvents}
use Rattle.simp_elim.specs.Bounds.{within, Extends}

-- what breaks the bounds breaks them with more
pub within_less : (most : ℕ) (R S : List (List Literal)) → within most (R ++ S) ≡ true → within most R ≡ true
within_less most R S h =
    let p = and_parts (at_most (length (R ++ S)) most) (list_all (λ c. at_most (length c) 100) (R ++ S)) h in
    let le : length (R ++ S) ≤ most = ltb-false most (length (R ++ S)) (not-true _ p.0) in
    let all = and_parts (list_all (λ c. at_most (length c) 100) R) (list_all (λ c. at_most (length c) 100) S) (sym (list_all-append (λ c. at_most (length c) 100) R S) ∙ p.1) in
    and_from _ _ (ap not (le-ltb most (length R) (omega (arith, le, length-append R S)))) all.0

pub breaks_more : (most : ℕ) (R S : List (List Literal)) → within most R ≡ false → within most (R ++ S) ≡ false
breaks_more most R S h =
    elim (cases_Bool (within most (R ++ S))) as (λ _. within most (R ++ S) ≡ false) [
      | inl e ↦ absurd (true≢false (sym (within_less most R S e) ∙ h))
      | inr f ↦ f
    ]

resolved_append : (l : Literal) (A B : List (List Literal)) (c : List Literal) → resolved_with l (A ++ B) c ≡ resolved_with l A c ++ resolved_with l B c
resolved_append l [] B c = refl
resolved_append l (a ∷ A) B c = by (is_proper (resolved l c a)) (resolved_append l A B c)
  where
    by : (b : Bool) → resolved_with l (A ++ B) c ≡ resolved_with l A c ++ resolved_with l B c
        → cond b (resolved l c a ∷ resolved_with l (A ++ B) c) (resolved_with l (A ++ B) c) ≡ cond b (resolved l c a ∷ resolved_with l A c) (resolved_with l A c) ++ resolved_with l B c
    by true e = ap (λ (r : List (List Literal)). resolved l c a ∷ r) e
    by false e = e

resolvents_append : (l : Literal) (A B N : List (List Literal)) → resolvents l (A ++ B) N ≡ resolvents l A N ++ resolvents l B N
resolvents_append l [] B N = refl
resolvents_append l (a ∷ A) B N = ap (λ (r : List (List Literal)). resolved_with l N a ++ r) (resolvents_append l A B N) ∙ sym (append_assoc (resolved_with l N a) (resolvents l A N) (resolvents l B N))

-- one too many, or one too long
one_breaks : (most : ℕ) (R : List (List Literal)) (c : List Literal) → (most ≤ length R) ⊎ (100 < length c) → within most (R ++ c ∷ []) ≡ false
one_breaks most R c h =
    elim (cases_Bool (within most (R ++ c ∷ []))) as (λ _. within most (R ++ c ∷ []) ≡ false) [
      | inr f ↦ f
      | inl e ↦ (
          let p = and_parts (at_most (length (R ++ c ∷ [])) most) (list_all (λ d. at_most (length d) 100) (R ++ c ∷ [])) e in
          let le : length (R ++ c ∷ []) ≤ most = ltb-false most (length (R ++ c ∷ [])) (not-true _ p.0) in
          let all = and_parts (list_all (λ d. at_most (length d) 100) R) (list_all (λ d. at_most (length d) 100) (c ∷ [])) (sym (list_all-append (λ d. at_most (length d) 100) R (c ∷ [])) ∙ p.1) in
          let short : length c ≤ 100 = ltb-false 100 (length c) (not-true _ (and_parts (at_most (length c) 100) true all.1).0) in
          elim h as (λ _. within most (R ++ c ∷ []) ≡ false) [
            | inl a ↦ absurd (omega (arith, le, length-append R (c ∷ []), a))
            | inr b ↦ absurd (omega arith)
          ])
    ]

within_one : (most : ℕ) (R : List (List Literal)) (c : List Literal) → within most R ≡ true → length R < most → length c ≤ 100 → within most (R ++ c ∷ []) ≡ true
within_one most R c w lt short =
    let p = and_parts (at_most (length R) most) (list_all (λ d. at_most (length d) 100) R) w in
    and_from _ _ (ap not (le-ltb most (length (R ++ c ∷ [])) (omega (arith, length-append R (c ∷ [])))))
    (list_all-append (λ d. at_most (length d) 100) R (c ∷ []) ∙ and_from _ _ p.1 (and_from _ true (ap not (le-ltb 100 (length c) short)) refl))

map_append : (f : ℕ → List Literal) (A B : List ℕ) → map f (A ++ B) ≡ map f A ++ map f B
map_append f [] B = refl
map_append f (a ∷ A) B = ap (λ (xs : List (List Literal)). f a ∷ xs) (map_append f A B)

-- a resolvent that is left out, or one that came
pub extends_nothing : (most : ℕ) (made : List (List Literal)) (x : Literal) (c d : List Literal) → within most made ≡ true → has_opposites (resolved x c d) ≡ true → Extends most made (resolved_with x (d ∷ []) c) made true
extends_nothing most made x c d w h = subst (λ (b : Bool). Extends most made (cond b (resolved x c d ∷ []) []) made true) (sym (ap not h)) (sym (append-nil made), w)

pub extends_one : (most : ℕ) (made new : List (List Literal)) (x : Literal) (c d : List Literal) → within most made ≡ true → has_opposites (resolved x c d) ≡ false
    → length made < most → length (resolved x c d) ≤ 100 → new ≡ made ++ resolved x c d ∷ [] → Extends most made (resolved_with x (d ∷ []) c) new true
extends_one most made new x c d w h lt short e =
    subst (λ (b : Bool). Extends most made (cond b (resolved x c d ∷ []) []) new true) (sym (ap not h))
    (e, ap (within most) e ∙ within_one most made (resolved x c d) w lt short)

pub extends_too_far : (most : ℕ) (made new : List (List Literal)) (x : Literal) (c d : List Literal) → has_opposites (resolved x c d) ≡ false
    → (most ≤ length made) ⊎ (100 < length (resolved x c d)) → Extends most made (resolved_with x (d ∷ []) c) new false
extends_too_far most made new x c d h out =
    subst (λ (b : Bool). Extends most made (cond b (resolved x c d ∷ []) []) new false) (sym (ap not h)) (one_breaks most made (resolved x c d) out)

-- One list after another
pub extends_more : (most : ℕ) (old mid new R S : List (List Literal)) (all : Bool) → Extends most old R mid true → Extends most mid S new all → Extends most old (R ++ S) new all
extends_more most old mid new R S true a b = (b.0 ∙ ap (λ (r : List (List Literal)). r ++ S) a.0 ∙ append_assoc old R S, b.1)
extends_more most old mid new R S false a b = ap (within most) (sym (append_assoc old R S) ∙ ap (λ (r : List (List Literal)). r ++ S) (sym a.0)) ∙ b

pub extends_no_more : (most : ℕ) (old new later R S : List (List Literal)) → Extends most old R new false → Extends most old (R ++ S) later false
extends_no_more most old new later R S a = ap (within most) (sym (append_assoc old R S)) ∙ breaks_more most (old ++ R) S a

-- the first elements of a list and one more
pub take_one : {X : Type 0} (xs : List X) (i : ℕ) (d : X) → i < length xs → take (suc i) xs ≡ take i xs ++ get_or xs i d ∷ []
take_one [] i d lt = absurd (omega arith)
take_one (x ∷ xs) zero d lt = refl
take_one (x ∷ xs) (suc i) d lt = ap (λ (ys : List _). x ∷ ys) (take_one xs i d (omega arith))

pub take_next : {X : Type 0} (xs : List X) (i : ℕ) (d : X) → i < length xs → take (i + 1) xs ≡ take i xs ++ get_or xs i d ∷ []
take_next xs i d lt = ap (λ j. take j xs) (add-one i) ∙ take_one xs i d lt

pub rest_after : {X : Type 0} (xs : List X) (i : ℕ) → take i xs ++ drop i xs ≡ xs
rest_after [] zero = refl
rest_after [] (suc i) = refl
rest_after (x ∷ xs) zero = refl
rest_after (x ∷ xs) (suc i) = ap (λ (ys : List _). x ∷ ys) (rest_after xs i)

-- a clause more, or one with which the bounds are broken
module _ (most : ℕ) (old mid new : List (List Literal)) (l : Literal) (f : ℕ → List Literal) (numbers : List ℕ) (i : ℕ) (clause : List Literal) (lt : i < length numbers) (is : f (get_or numbers i 0) ≡ clause) where
  firsts : map f (take (i + 1) numbers) ≡ map f (take i numbers) ++ clause ∷ []
  firsts = ap (map f) (take_next numbers i 0 lt) ∙ map_append f (take i numbers) (get_or numbers i 0 ∷ []) ∙ ap (λ (c : List Literal). map f (take i numbers) ++ c ∷ []) is

  whole : map f numbers ≡ map f (take (i + 1) numbers) ++ map f (drop (i + 1) numbers)
  whole = ap (map f) (sym (rest_after numbers (i + 1))) ∙ map_append f (take (i + 1) numbers) (drop (i + 1) numbers)

  pub second_more : (c : List Literal) (all : Bool) → Extends most old (resolved_with l (map f (take i numbers)) c) mid true → Extends most mid (resolved_with l (clause ∷ []) c) new all
      → Extends most old (resolved_with l (map f (take (i + 1) numbers)) c) new all
  second_more c all a b =
      subst (λ (R : List (List Literal)). Extends most old R new all)
      (sym (ap (λ (N : List (List Literal)). resolved_with l N c) firsts ∙ resolved_append l (map f (take i numbers)) (clause ∷ []) c))
      (extends_more most old mid new (resolved_with l (map f (take i numbers)) c) (resolved_with l (clause ∷ []) c) all a b)

  pub second_stops : (c : List Literal) (later : List (List Literal)) → Extends most old (resolved_with l (map f (take i numbers)) c) mid true → Extends most mid (resolved_with l (clause ∷ []) c) new false
      → Extends most old (resolved_with l (map f numbers) c) later false
  second_stops c later a b =
      subst (λ (R : List (List Literal)). Extends most old R later false)
      (sym (ap (λ (N : List (List Literal)). resolved_with l N c) whole ∙ resolved_append l (map f (take (i + 1) numbers)) (map f (drop (i + 1) numbers)) c))
      (extends_no_more most old new later (resolved_with l (map f (take (i + 1) numbers)) c) (resolved_with l (map f (drop (i + 1) numbers)) c) (second_more c false a b))

  pub first_more : (N : List (List Literal)) (all : Bool) → Extends most old (resolvents l (map f (take i numbers)) N) mid true → Extends most mid (resolved_with l N clause) new all
      → Extends most old (resolvents l (map f (take (i + 1) numbers)) N) new all
  first_more N all a b =
      subst (λ (R : List (List Literal)). Extends most old R new all)
      (sym (ap (λ (P : List (List Literal)). resolvents l P N) firsts ∙ resolvents_append l (map f (take i numbers)) (clause ∷ []) N ∙ ap (λ (R : List (List Literal)). resolvents l (map f (take i numbers)) N ++ R) (append-nil (resolved_with l N clause))))
      (extends_more most old mid new (resolvents l (map f (take i numbers)) N) (resolved_with l N clause) all a b)

  pub first_stops : (N : List (List Literal)) (later : List (List Literal)) → Extends most old (resolvents l (map f (take i numbers)) N) mid true → Extends most mid (resolved_with l N clause) new false
      → Extends most old (resolvents l (map f numbers) N) later false
  first_stops N later a b =
      subst (λ (R : List (List Literal)). Extends most old R later false)
      (sym (ap (λ (P : List (List Literal)). resolvents l P N) whole ∙ resolvents_append l (map f (take (i + 1) numbers)) (map f (drop (i + 1) numbers)) N))
      (extends_no_more most old new later (resolvents l (map f (take (i + 1) numbers)) N) (resolvents l (map f (drop (i + 1) numbers)) N) (first_more N false a b))

pub take_whole : {X : Type 0} (xs : List X) (i : ℕ) → length xs ≤ i → take i xs ≡ xs
take_whole [] zero le = refl
take_whole [] (suc i) le = refl
take_whole (x ∷ xs) zero le = absurd (omega arith)
take_whole (x ∷ xs) (suc i) le = ap (λ (ys : List _). x ∷ ys) (take_whole xs i (omega arith))
