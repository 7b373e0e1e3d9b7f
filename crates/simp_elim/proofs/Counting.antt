-- Clauses found by number, and how many they are.
use Rattle.std.proofs.Common.{◌≡◌, ℕ, suc, ◌<◌, ◌≤◌, Bool, true, false, not, List, [], ◌∷◌, ◌++◌, map, length, cond, sym, refl, ap, subst, ◌∙◌, inl, inr, ◌⊎◌, ⊎_elim, Contains, get_or, ne_eqb, arith, length-append}
use Rattle.std.specs.List.{filter, sum_by}
use Rattle.std.proofs.lemmas.Bool.{true≢false, eq-eqb, lt-ltb, le-ltb, and_parts, cases_eq}
use Rattle.std.proofs.lemmas.List.Sums.{sum_by-append}
use Rattle.sat_words.specs.Literal.{Literal}
use Rattle.sat_words.specs.Clause.{InOrder, has}
use Rattle.rup_model.proofs.Lists.{In, In_get_or, In_map, map_In, In_append, In_append_left, In_append_right, Contains_In, In_Contains}
use Rattle.simp_base.specs.Multisets.{SameMultiset}
use Rattle.simp_base.specs.WorkState.{WorkState, IsWork, HaveOwnNumbers, lists}
use Rattle.simp_base.proofs.Removal.{same_number}
use Rattle.simp_base.proofs.Lists.{Contains_left, Contains_last, Contains_apart}
use Rattle.simp_base.proofs.Filters.{In_filter, filter_In}
use Rattle.simp_elim.specs.Resolution.{occurs, occurrences}
use Rattle.simp_elim.specs.Rule.{at_most}
use Rattle.simp_elim.specs.Occurring.{clause_at, Distinct, IsOccurrence, OccursIn, Collected, AreOccurrences}
use Rattle.simp_elim.proofs.Multisets.{sum_cons, sum_map}

-- The clause with a number

pub at_there : (cs : List (ℕ × List Literal)) (n : ℕ) (c : List Literal) → Contains cs (n, c) → Contains cs (n, clause_at cs n)
at_there cs n c h = In_Contains cs (n, clause_at cs n) (there cs (Contains_In cs (n, c) h))
  where
    there : (xs : List (ℕ × List Literal)) → In {X = ℕ × List Literal} (n, c) xs → In {X = ℕ × List Literal} (n, clause_at xs n) xs
    there [] i = absurd i
    there (x ∷ xs) i =
        elim (cases_eq x.0 n) as (λ _. In {X = ℕ × List Literal} (n, clause_at (x ∷ xs) n) (x ∷ xs)) [
          | inl e ↦ inl (here e)
          | inr ne ↦ ⊎_elim
              (λ (q : x ≡ (n, c)). absurd (ne (ap (λ (y : ℕ × List Literal). y.0) q)))
              (λ (k : In {X = ℕ × List Literal} (n, c) xs). inr (subst (λ (b : Bool). In {X = ℕ × List Literal} (n, cond b x.1 (clause_at xs n)) xs) (sym (ne_eqb x.0 n ne)) (there xs k)))
              i
        ]
      where
        here : x.0 ≡ n → x ≡ (n, clause_at (x ∷ xs) n)
        here e = λ i. (e i, sym (ap (λ (b : Bool). cond b x.1 (clause_at xs n)) (eq-eqb x.0 n e)) i)

pub at_is : (cs : List (ℕ × List Literal)) → HaveOwnNumbers cs → (n : ℕ) (c : List Literal) → Contains cs (n, c) → clause_at cs n ≡ c
at_is cs own n c h = same_number cs own n (clause_at cs n) c (at_there cs n c h) h

-- Distinct elements

pub distinct_last : {X : Type 0} (xs : List X) (y : X) → Distinct xs → (Contains xs y → ⊥) → Distinct (xs ++ y ∷ [])
distinct_last [] y d f = ((λ h. Contains_In [] y h), d)
distinct_last {X} (x ∷ xs) y d f = (apart, distinct_last xs y d.1 (λ h. f (In_Contains (x ∷ xs) y (inr (Contains_In xs y h)))))
  where
    apart : Contains (xs ++ y ∷ []) x → ⊥
    apart h = ⊎_elim
        (λ (k : In x xs). d.0 (In_Contains xs x k))
        (λ (k : In x (y ∷ [])). ⊎_elim (λ (e : y ≡ x). f (In_Contains (x ∷ xs) y (inl (sym e)))) (λ (z : In x []). absurd z) k)
        (In_append xs (y ∷ []) x (Contains_In (xs ++ y ∷ []) x h))

distinct_map : {X Y : Type 0} (f : X → Y) → ((x y : X) → f x ≡ f y → x ≡ y) → (xs : List X) → Distinct xs → Distinct (map f xs)
distinct_map f one [] d = d
distinct_map {X} f one (x ∷ xs) d =
    ((λ h. let t = map_In f xs (f x) (Contains_In (map f xs) (f x) h) in d.0 (subst (λ (z : X). Contains xs z) (one t.0 x t.2) (In_Contains xs t.0 t.1))), distinct_map f one xs d.1)

distinct_filter : {X : Type 0} (p : X → Bool) (xs : List X) → Distinct xs → Distinct (filter p xs)
distinct_filter p [] d = d
distinct_filter {X} p (x ∷ xs) d = by (p x) (distinct_filter p xs d.1)
  where
    by : (b : Bool) → Distinct (filter p xs) → Distinct (cond b (x ∷ filter p xs) (filter p xs))
    by true r = ((λ h. d.0 (In_Contains xs x (filter_In p xs x (Contains_In (filter p xs) x h)).0)), r)
    by false r = r

pub own_distinct : (cs : List (ℕ × List Literal)) → HaveOwnNumbers cs → Distinct cs
own_distinct [] own = tt
own_distinct (x ∷ cs) own =
    ((λ h. own 0 (suc h.0) x (omega arith) (let lt = h.1 in omega arith) (ap (λ (y : ℕ × List Literal). y.0) (sym h.2))), own_distinct cs (λ i j d lt in_range. own (suc i) (suc j) d (omega arith) (omega arith)))

-- Sums

split : {X : Type 0} (ys : List X) (x : X) → In x ys → (us : List X) × (vs : List X) × (ys ≡ us ++ x ∷ vs)
split [] x h = absurd h
split (y ∷ ys) x (inl e) = ([], ys, ap (λ (z : _). z ∷ ys) e)
split (y ∷ ys) x (inr h) = let t = split ys x h in (y ∷ t.0, t.1, ap (λ (zs : List _). y ∷ zs) t.2)

-- distinct elements of a list weigh no more than it does
weighs_less : {X : Type 0} (g : X → ℕ) (xs ys : List X) → Distinct xs → ((x : X) → In x xs → In x ys) → sum_by g xs ≤ sum_by g ys
weighs_less g [] ys d f = omega arith
weighs_less {X} g (x ∷ xs) ys d f =
    let t = split ys x (f x (inl refl)) in
    let us : List X = t.0 in
    let vs : List X = t.1 in
    let rest = weighs_less g xs (us ++ vs) d.1 (λ z i. others us vs t.2 z i) in
    let a = sum_cons g x xs in
    let b = sum_cons g x vs in
    let c = sum_by-append g us (x ∷ vs) in
    let e = sum_by-append g us vs in
    let whole : sum_by g ys ≡ sum_by g (us ++ x ∷ vs) = ap (sum_by g) t.2 in
    omega (arith, rest, a, b, c, e, whole)
  where
    others : (us vs : List X) → ys ≡ us ++ x ∷ vs → (z : X) → In z xs → In z (us ++ vs)
    others us vs e z i = ⊎_elim
        (λ (k : In z us). In_append_left us vs z k)
        (λ (k : In z (x ∷ vs)). ⊎_elim (λ (q : x ≡ z). absurd (d.0 (subst (λ (y : X). Contains xs y) (sym q) (In_Contains xs z i)))) (λ (m : In z vs). In_append_right us vs z m) k)
        (In_append us (x ∷ vs) z (subst (λ (zs : List X). In z zs) e (f z (inr i))))

-- The clauses in which a literal occurs

lists_filter : (p : List Literal → Bool) (cs : List (ℕ × List Literal)) → lists (filter (λ x. p x.1) cs) ≡ filter p (lists cs)
lists_filter p [] = refl
lists_filter p (x ∷ cs) = by (p x.1) (lists_filter p cs)
  where
    by : (b : Bool) → lists (filter (λ y. p y.1) cs) ≡ filter p (lists cs) → lists (cond b (x ∷ filter (λ y. p y.1) cs) (filter (λ y. p y.1) cs)) ≡ cond b (x.1 ∷ filter p (lists cs)) (filter p (lists cs))
    by true e = ap (λ (r : List (List Literal)). x.1 ∷ r) e
    by false e = e

abbrev numbered_at : List (ℕ × List Literal) → ℕ → ℕ × List Literal
numbered_at cs n = (n, clause_at cs n)

module _ (w : WorkState) (l : Literal) (kept : IsWork w) where
  abbrev occurring : List (ℕ × List Literal)
  occurring = filter (λ x. occurs l x.1) w.clauses

  found_in : (numbers : List ℕ) → OccursIn w l numbers → (x : ℕ × List Literal) → In x (map (numbered_at w.clauses) numbers) → In x occurring
  found_in numbers sound x i =
      let t = map_In (numbered_at w.clauses) numbers x i in
      let s = sound t.0 (In_Contains numbers t.0 t.1) in
      let is : (t.0, s.0) ≡ x = (λ j. (t.0, sym (at_is w.clauses kept.numbers t.0 s.0 s.1) j)) ∙ t.2 in
      subst (λ (y : ℕ × List Literal). In y occurring) is (In_filter (λ y. occurs l y.1) w.clauses (t.0, s.0) (Contains_In w.clauses (t.0, s.0) s.1) s.2)

  all_found : (numbers : List ℕ) → ((n : ℕ) (c : List Literal) → Contains w.clauses (n, c) → occurs l c ≡ true → Contains numbers n) → (x : ℕ × List Literal) → In x occurring → In x (map (numbered_at w.clauses) numbers)
  all_found numbers every x i =
      let t = filter_In (λ y. occurs l y.1) w.clauses x i in
      let alive : Contains w.clauses (x.0, x.1) = In_Contains w.clauses x t.0 in
      subst (λ (c : List Literal). In {X = ℕ × List Literal} (x.0, c) (map (numbered_at w.clauses) numbers)) (at_is w.clauses kept.numbers x.0 x.1 alive)
      (In_map (numbered_at w.clauses) numbers x.0 (Contains_In numbers x.0 (every x.0 x.1 alive t.1)))

  numbers_distinct : (numbers : List ℕ) → Distinct numbers → Distinct (map (numbered_at w.clauses) numbers)
  numbers_distinct numbers d = distinct_map (numbered_at w.clauses) (λ x y e. ap (λ (z : ℕ × List Literal). z.0) e) numbers d

  -- the clauses with the numbers are the occurrences
  pub occurrences_found : (numbers : List ℕ) → AreOccurrences w l numbers → SameMultiset (map (clause_at w.clauses) numbers) (occurrences l (lists w.clauses))
  occurrences_found numbers h = record {
    weighs = λ g.
        let xs = map (numbered_at w.clauses) numbers in
        let f = λ (x : ℕ × List Literal). g x.1 in
        let less = weighs_less f xs occurring (numbers_distinct numbers h.distinct) (found_in numbers h.sound) in
        let more = weighs_less f occurring xs (distinct_filter (λ x. occurs l x.1) w.clauses (own_distinct w.clauses kept.numbers)) (all_found numbers h.every) in
        let a : sum_by g (map (clause_at w.clauses) numbers) ≡ sum_by (λ n. g (clause_at w.clauses n)) numbers = sum_map g (clause_at w.clauses) numbers in
        let b : sum_by f xs ≡ sum_by (λ n. g (clause_at w.clauses n)) numbers = sum_map f (numbered_at w.clauses) numbers in
        let c : sum_by g (lists occurring) ≡ sum_by f occurring = sum_map g (λ x. x.1) occurring in
        let d : sum_by g (lists occurring) ≡ sum_by g (occurrences l (lists w.clauses)) = ap (sum_by g) (lists_filter (occurs l) w.clauses) in
        omega (arith, less, more, a, b, c, d);
  }

  pub length_found : (numbers : List ℕ) → Distinct numbers → OccursIn w l numbers → length numbers ≤ length (occurrences l (lists w.clauses))
  length_found numbers d sound =
      let xs = map (numbered_at w.clauses) numbers in
      let less = weighs_less (λ x. 1) xs occurring (numbers_distinct numbers d) (found_in numbers sound) in
      let a = ones xs in
      let b = ones occurring in
      let c = length_map (numbered_at w.clauses) numbers in
      let e = length_map (λ (x : ℕ × List Literal). x.1) occurring in
      let f : length (lists occurring) ≡ length (occurrences l (lists w.clauses)) = ap length (lists_filter (occurs l) w.clauses) in
      omega (arith, less, a, b, c, e, f)
    where
      ones : {X : Type 0} (ys : List X) → length ys ≡ sum_by (λ y. 1) ys
      ones [] = refl
      ones (y ∷ ys) = let a = sum_cons (λ z. 1) y ys in let r = ones ys in omega (arith, a, r)

      length_map : {X Y : Type 0} (f : X → Y) (ys : List X) → length (map f ys) ≡ length ys
      length_map f [] = refl
      length_map f (y ∷ ys) = ap suc (length_map f ys)

-- what is alive under a number if the literal occurs
pub found_at : (w : WorkState) (l : Literal) → IsWork w → (numbers : List ℕ) → OccursIn w l numbers → (n : ℕ) → Contains numbers n → (c : List Literal) → Contains w.clauses (n, c) → (occurs l c ≡ true) × InOrder c
found_at w l kept numbers sound n h c i =
    let s = sound n h in
    let is : s.0 ≡ c = same_number w.clauses kept.numbers n s.0 c s.1 i in
    (subst (λ (d : List Literal). occurs l d ≡ true) is s.2, subst InOrder is s.3)

pub at_place : (numbers : List ℕ) (i : ℕ) → i < length numbers → Contains numbers (get_or numbers i 0)
at_place numbers i lt = In_Contains numbers (get_or numbers i 0) (In_get_or numbers i 0 lt)

-- Numbers are collected

pub occurrence_told : (w : WorkState) (l : Literal) (n : ℕ) (c : List Literal) → IsWork w → Contains w.clauses (n, c) → InOrder c → (b : Bool) → b ≡ occurs l c → IsOccurrence w l n b
occurrence_told w l n c kept h o true e = (c, h, sym e, o)
occurrence_told w l n c kept h o false e = λ d i. ap (occurs l) (same_number w.clauses kept.numbers n d c i h) ∙ sym e

pub collected_none : (w : WorkState) (l : Literal) → Collected w l [] []
collected_none w l = record { sound = λ n h. absurd (Contains_In [] n h); every = λ n c h. absurd (Contains_In [] n h); distinct = tt; few = omega arith }

last_or_first : (looked : List ℕ) (n m : ℕ) → Contains (looked ++ n ∷ []) m → Contains looked m ⊎ (n ≡ m)
last_or_first looked n m h = Contains_apart looked n m h

pub collected_not : (w : WorkState) (l : Literal) (n : ℕ) (found looked : List ℕ) → IsOccurrence w l n false → Collected w l found looked → Collected w l found (looked ++ n ∷ [])
collected_not w l n found looked none t = record {
  sound = t.sound;
  every = λ m c h i o. ⊎_elim
      (λ (k : Contains looked m). t.every m c k i o)
      (λ (e : n ≡ m). absurd (true≢false (sym o ∙ none c (subst (λ (x : ℕ). Contains w.clauses (x, c)) (sym e) i))))
      (last_or_first looked n m h);
  distinct = t.distinct;
  few = t.few;
}

pub collected_before : (w : WorkState) (l : Literal) (n : ℕ) (found looked : List ℕ) → Contains found n → Collected w l found looked → Collected w l found (looked ++ n ∷ [])
collected_before w l n found looked there t = record {
  sound = t.sound;
  every = λ m c h i o. ⊎_elim
      (λ (k : Contains looked m). t.every m c k i o)
      (λ (e : n ≡ m). subst (λ (x : ℕ). Contains found x) e there)
      (last_or_first looked n m h);
  distinct = t.distinct;
  few = t.few;
}

sound_more : (w : WorkState) (l : Literal) (n : ℕ) (found : List ℕ) → IsOccurrence w l n true → OccursIn w l found → OccursIn w l (found ++ n ∷ [])
sound_more w l n found one sound m h = ⊎_elim (λ (k : Contains found m). sound m k) (λ (e : n ≡ m). subst (λ (x : ℕ). IsOccurrence w l x true) e one) (last_or_first found n m h)

pub collected_more : (w : WorkState) (l : Literal) (n : ℕ) (found new looked : List ℕ) → IsOccurrence w l n true → (Contains found n → ⊥) → length found < 16 → new ≡ found ++ n ∷ [] → Collected w l found looked → Collected w l new (looked ++ n ∷ [])
collected_more w l n found new looked one fresh lt is t = subst (λ (ns : List ℕ). Collected w l ns (looked ++ n ∷ [])) (sym is) (record {
  sound = sound_more w l n found one t.sound;
  every = λ m c h i o. ⊎_elim
      (λ (k : Contains looked m). Contains_left found (n ∷ []) m (t.every m c k i o))
      (λ (e : n ≡ m). subst (λ (x : ℕ). Contains (found ++ n ∷ []) x) e (Contains_last found n))
      (last_or_first looked n m h);
  distinct = distinct_last found n t.distinct fresh;
  few = omega (arith, lt, length-append found (n ∷ []));
})

pub collected_too_many : (w : WorkState) (l : Literal) (n : ℕ) (found looked : List ℕ) → IsWork w → IsOccurrence w l n true → (Contains found n → ⊥) → 16 ≤ length found → Collected w l found looked → at_most (length (occurrences l (lists w.clauses))) 16 ≡ false
collected_too_many w l n found looked kept one fresh le t =
    let more = length_found w l kept (found ++ n ∷ []) (distinct_last found n t.distinct fresh) (sound_more w l n found one t.sound) in
    ap not (lt-ltb 16 (length (occurrences l (lists w.clauses))) (omega (arith, le, more, length-append found (n ∷ []))))

pub collected_all : (w : WorkState) (l : Literal) (found looked : List ℕ) → ((n : ℕ) (c : List Literal) → Contains w.clauses (n, c) → has c l ≡ true → Contains looked n) → Collected w l found looked → AreOccurrences w l found
collected_all w l found looked every t = record {
  sound = t.sound;
  every = λ n c i o. t.every n c (every n c i (and_parts (has c l) _ o).0) i o;
  distinct = t.distinct;
  few = ap not (le-ltb 16 (length found) t.few);
}
