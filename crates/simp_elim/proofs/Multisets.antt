-- What is made of a list goes by its elements alone, in any order.
use Rattle.std.proofs.Common.{◌≡◌, ℕ, ◌+◌, Bool, true, false, not, ◌||◌, ◌&&◌, List, [], ◌∷◌, ◌++◌, map, length, cond, nat_lt, sym, refl, ap, subst, ◌∙◌, arith}
use Rattle.std.specs.List.{sum_by, list_any, list_all, filter, flat_map}
use Rattle.std.proofs.lemmas.Bool.{lt-ltb}
use Rattle.std.proofs.lemmas.List.Sums.{sum_by-append}
use Rattle.sat_words.specs.Literal.{Literal, opposite}
use Rattle.sat_words.specs.Clause.{has}
use Rattle.simp_base.specs.WorkState.{is_only}
use Rattle.simp_base.specs.Multisets.{SameMultiset}
use Rattle.simp_elim.specs.Resolution.{positive, negative, occurs, occurrences, mentions, unmentioned, resolved, is_proper, resolved_with, resolvents, resolvents_on, eliminated}
use Rattle.simp_elim.specs.Rule.{at_most, has_unit_among, is_bounded, goes, eliminate_one}

pub sum_cons : {X : Type 0} (f : X → ℕ) (x : X) (xs : List X) → sum_by f (x ∷ xs) ≡ f x + sum_by f xs
sum_cons f x xs = let e : sum_by f ((x ∷ []) ++ xs) ≡ (0 + f x) + sum_by f xs = sum_by-append f (x ∷ []) xs in omega (arith, e)

pub same_refl : {X : Type 0} (xs : List X) → SameMultiset xs xs
same_refl xs = record { weighs = λ g. refl }

pub same_sym : {X : Type 0} (xs ys : List X) → SameMultiset xs ys → SameMultiset ys xs
same_sym xs ys s = record { weighs = λ g. sym (s.weighs g) }

pub same_trans : {X : Type 0} (xs ys zs : List X) → SameMultiset xs ys → SameMultiset ys zs → SameMultiset xs zs
same_trans xs ys zs s t = record { weighs = λ g. s.weighs g ∙ t.weighs g }

pub same_append : {X : Type 0} (xs ys us vs : List X) → SameMultiset xs ys → SameMultiset us vs → SameMultiset (xs ++ us) (ys ++ vs)
same_append xs ys us vs s t = record {
  weighs = λ g. let a = sum_by-append g xs us in let b = sum_by-append g ys vs in let c = s.weighs g in let d = t.weighs g in omega (arith, a, b, c, d);
}

-- the weights of what a filter, a map and a join leave are weights of what there was

pub sum_filter : {X : Type 0} (g : X → ℕ) (p : X → Bool) (xs : List X) → sum_by g (filter p xs) ≡ sum_by (λ x. cond (p x) (g x) 0) xs
sum_filter g p [] = refl
sum_filter {X} g p (x ∷ xs) = by (p x) refl (sum_filter g p xs)
  where
    by : (b : Bool) → p x ≡ b → sum_by g (filter p xs) ≡ sum_by (λ y. cond (p y) (g y) 0) xs → sum_by g (cond b (x ∷ filter p xs) (filter p xs)) ≡ sum_by (λ y. cond (p y) (g y) 0) (x ∷ xs)
    by true e r = let a = sum_cons g x (filter p xs) in let b = sum_cons (λ (y : X). cond (p y) (g y) 0) x xs in let h : cond (p x) (g x) 0 ≡ g x = ap (λ (c : Bool). cond c (g x) 0) e in omega (arith, a, b, h, r)
    by false e r = let b = sum_cons (λ (y : X). cond (p y) (g y) 0) x xs in let h : cond (p x) (g x) 0 ≡ 0 = ap (λ (c : Bool). cond c (g x) 0) e in omega (arith, b, h, r)

pub sum_map : {X Y : Type 0} (g : Y → ℕ) (f : X → Y) (xs : List X) → sum_by g (map f xs) ≡ sum_by (λ x. g (f x)) xs
sum_map g f [] = refl
sum_map g f (x ∷ xs) = let a = sum_cons g (f x) (map f xs) in let b = sum_cons (λ y. g (f y)) x xs in let r = sum_map g f xs in omega (arith, a, b, r)

sum_flat : {X Y : Type 0} (g : Y → ℕ) (f : X → List Y) (xs : List X) → sum_by g (flat_map f xs) ≡ sum_by (λ x. sum_by g (f x)) xs
sum_flat g f [] = refl
sum_flat g f (x ∷ xs) = let a = sum_by-append g (f x) (flat_map f xs) in let b = sum_cons (λ y. sum_by g (f y)) x xs in let r = sum_flat g f xs in omega (arith, a, b, r)

sum_alike : {X : Type 0} (g h : X → ℕ) (xs : List X) → ((x : X) → g x ≡ h x) → sum_by g xs ≡ sum_by h xs
sum_alike g h xs e = ap (λ (k : _ → ℕ). sum_by k xs) (λ i x. e x i)

pub same_filter : {X : Type 0} (p : X → Bool) (xs ys : List X) → SameMultiset xs ys → SameMultiset (filter p xs) (filter p ys)
same_filter p xs ys s = record { weighs = λ g. sum_filter g p xs ∙ s.weighs (λ x. cond (p x) (g x) 0) ∙ sym (sum_filter g p ys) }

pub same_map : {X Y : Type 0} (f : X → Y) (xs ys : List X) → SameMultiset xs ys → SameMultiset (map f xs) (map f ys)
same_map f xs ys s = record { weighs = λ g. sum_map g f xs ∙ s.weighs (λ x. g (f x)) ∙ sym (sum_map g f ys) }

pub same_flat : {X Y : Type 0} (f h : X → List Y) (xs ys : List X) → SameMultiset xs ys → ((x : X) → SameMultiset (f x) (h x)) → SameMultiset (flat_map f xs) (flat_map h ys)
same_flat f h xs ys s t = record {
  weighs = λ g. sum_flat g f xs ∙ s.weighs (λ x. sum_by g (f x)) ∙ sum_alike (λ x. sum_by g (f x)) (λ x. sum_by g (h x)) ys (λ x. (t x).weighs g) ∙ sym (sum_flat g h ys);
}

length_sum : {X : Type 0} (xs : List X) → length xs ≡ sum_by (λ x. 1) xs
length_sum [] = refl
length_sum (x ∷ xs) = let a = sum_cons (λ y. 1) x xs in let r = length_sum xs in omega (arith, a, r)

pub same_length : {X : Type 0} (xs ys : List X) → SameMultiset xs ys → length xs ≡ length ys
same_length xs ys s = length_sum xs ∙ s.weighs (λ x. 1) ∙ sym (length_sum ys)

any_sum : {X : Type 0} (p : X → Bool) (xs : List X) → list_any p xs ≡ nat_lt 0 (sum_by (λ x. cond (p x) 1 0) xs)
any_sum p [] = refl
any_sum {X} p (x ∷ xs) = by (p x) refl (any_sum p xs) ∙ ap (nat_lt 0) (sym (sum_cons (λ (y : X). cond (p y) 1 0) x xs))
  where
    by : (b : Bool) → p x ≡ b → list_any p xs ≡ nat_lt 0 (sum_by (λ (y : X). cond (p y) 1 0) xs) → (b || list_any p xs) ≡ nat_lt 0 (cond (p x) 1 0 + sum_by (λ (y : X). cond (p y) 1 0) xs)
    by true e r = let w : Bool → ℕ = λ c. cond c 1 0 in let h : w (p x) ≡ 1 = ap w e in sym (lt-ltb 0 (w (p x) + sum_by (λ (y : X). cond (p y) 1 0) xs) (omega (arith, h)))
    by false e r = let w : Bool → ℕ = λ c. cond c 1 0 in let h : w (p x) ≡ 0 = ap w e in r ∙ ap (nat_lt 0) (let k : sum_by (λ (y : X). cond (p y) 1 0) xs ≡ w (p x) + sum_by (λ (y : X). cond (p y) 1 0) xs = omega (arith, h) in k)

pub same_any : {X : Type 0} (p : X → Bool) (xs ys : List X) → SameMultiset xs ys → list_any p xs ≡ list_any p ys
same_any p xs ys s = any_sum p xs ∙ ap (nat_lt 0) (s.weighs (λ x. cond (p x) 1 0)) ∙ sym (any_sum p ys)

all_any : {X : Type 0} (p : X → Bool) (xs : List X) → list_all p xs ≡ not (list_any (λ x. not (p x)) xs)
all_any p [] = refl
all_any p (x ∷ xs) = by (p x) (all_any p xs)
  where
    by : (b : Bool) → list_all p xs ≡ not (list_any (λ y. not (p y)) xs) → (b && list_all p xs) ≡ not (not b || list_any (λ y. not (p y)) xs)
    by true r = r
    by false r = refl

pub same_all : {X : Type 0} (p : X → Bool) (xs ys : List X) → SameMultiset xs ys → list_all p xs ≡ list_all p ys
same_all p xs ys s = all_any p xs ∙ ap not (same_any (λ x. not (p x)) xs ys s) ∙ sym (all_any p ys)

-- Elimination

pub same_resolvents : (l : Literal) (P Q N M : List (List Literal)) → SameMultiset P Q → SameMultiset N M → SameMultiset (resolvents l P N) (resolvents l Q M)
same_resolvents l P Q N M s t = same_flat (resolved_with l N) (resolved_with l M) P Q s (λ c. same_filter is_proper (map (resolved l c) N) (map (resolved l c) M) (same_map (resolved l c) N M t))

pub same_eliminated : (l : Literal) (G H : List (List Literal)) → SameMultiset G H → SameMultiset (eliminated l G) (eliminated l H)
same_eliminated l G H s =
    same_append (unmentioned l G) (unmentioned l H) (resolvents_on l G) (resolvents_on l H)
    (same_filter (λ c. not (mentions l c)) G H s)
    (same_resolvents l (occurrences l G) (occurrences l H) (occurrences (opposite l) G) (occurrences (opposite l) H) (same_filter (occurs l) G H s) (same_filter (occurs (opposite l)) G H s))

pub same_bounded : (l : Literal) (G H : List (List Literal)) → SameMultiset G H → is_bounded l G ≡ is_bounded l H
same_bounded l G H s =
    let p = same_filter (occurs l) G H s in
    let n = same_filter (occurs (opposite l)) G H s in
    let r = same_resolvents l (occurrences l G) (occurrences l H) (occurrences (opposite l) G) (occurrences (opposite l) H) p n in
    let lp = same_length (occurrences l G) (occurrences l H) p in
    let ln = same_length (occurrences (opposite l) G) (occurrences (opposite l) H) n in
    let lr = same_length (resolvents_on l G) (resolvents_on l H) r in
    let short = same_all (λ c. at_most (length c) 100) (resolvents_on l G) (resolvents_on l H) r in
    λ i. at_most (lp i) 16 && at_most (ln i) 16 && at_most (lr i) (lp i + ln i) && short i

pub same_units : (U : List Literal) (v : ℕ) (G H : List (List Literal)) → SameMultiset G H → has_unit_among U G v ≡ has_unit_among U H v
same_units U v G H s =
    let p = same_any (is_only (positive v)) G H s in
    let n = same_any (is_only (negative v)) G H s in
    λ i. (has U (positive v) || p i) || (has U (negative v) || n i)

pub same_goes : (U : List Literal) (v : ℕ) (G H : List (List Literal)) → SameMultiset G H → goes U G v ≡ goes U H v
same_goes U v G H s =
    let u = same_units U v G H s in
    let m = same_any (mentions (positive v)) G H s in
    let b = same_bounded (positive v) G H s in
    λ i. not (u i || not (m i)) && b i

pub same_eliminate_one : (U : List Literal) (v : ℕ) (G H : List (List Literal)) → SameMultiset G H → SameMultiset (eliminate_one U G v) (eliminate_one U H v)
same_eliminate_one U v G H s =
    subst (λ (b : Bool). SameMultiset (eliminate_one U G v) (cond b (eliminated (positive v) H) H)) (same_goes U v G H s) (by (goes U G v))
  where
    by : (b : Bool) → SameMultiset (cond b (eliminated (positive v) G) G) (cond b (eliminated (positive v) H) H)
    by true = same_eliminated (positive v) G H s
    by false = s
