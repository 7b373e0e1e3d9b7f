-- Clauses in the order of their addresses, told apart from others.
use Rattle.std.proofs.Common.{◌≡◌, ◌≢◌, ◌∙◌, ◌<◌, ◌≤◌, ◌==◌, ◌&&◌, ◌+◌, ◌++◌, ℕ, zero, suc, Bool, true, false, not, nat_lt, List, [], ◌∷◌, length, drop, get_or, Contains, sym, refl, ap, subst, inl, inr, arith, append_assoc}
use Rattle.std.specs.Prelude.{if◌then◌else◌}
use Rattle.std.specs.List.Sorted.{IsNonDecreasingBy, IsPermutation}
use Rattle.std.proofs.lemmas.Bool.{cases_lt, true≢false}
use Rattle.std.proofs.lemmas.Bool.Decides.{nat_tests}
use Rattle.std.proofs.Math.Seq.{drop-cons}
use Rattle.std.proofs.lemmas.List.Sorted.{IsPermutation-sym, Contains-permutation, list_any-IsPermutation}
use Rattle.sat_words.specs.declared.shared.Cref.{Cref}
use Rattle.rup_model.proofs.Lists.{In, Contains_In, In_Contains}
use Rattle.ring_port.proofs.LogSteps.{In_All}
use Rattle.watch_prop.specs.WatchData.{is_among}
use Rattle.reduce_db.specs.Lemmas.{AreDistinct, AreToldApart, first_of_each}
use Rattle.reduce_db.proofs.Left.{same_cref}

both_parts : (p q : Bool) → (p && not q) ≡ true → (p ≡ true) × (q ≡ false)
both_parts true false e = (refl, refl)
both_parts true true e = absurd (true≢false (sym e))
both_parts false q e = absurd (true≢false (sym e))

both_of : (p q : Bool) → p ≡ true → q ≡ false → (p && not q) ≡ true
both_of p q e f = ap (λ (b : Bool). b && not q) e ∙ ap (λ (b : Bool). true && not b) f

less : (a b : ℕ) → nat_lt a b ≡ true → a < b
less a b e = grind (arith, nat_tests)

is_less : (a b : ℕ) → a < b → nat_lt a b ≡ true
is_less a b lt = grind (arith, nat_tests)

-- whether the clause is told apart
abbrev is_next : ℕ → List Cref → Cref → Bool
is_next after others c = nat_lt after c.address && not (is_among others c.address)

first_In : (after : ℕ) (others cs : List Cref) (c : Cref) → In c (first_of_each after others cs) → In c cs × (after < c.address) × (is_among others c.address ≡ false)
first_In after others [] c h = absurd h
first_In after others (d ∷ cs) c h = by (is_next after others d) refl h (first_In d.address others cs c) (first_In after others cs c)
  where
    by : (b : Bool) → is_next after others d ≡ b → In c (if b then (d ∷ first_of_each d.address others cs) else first_of_each after others cs)
        → (In c (first_of_each d.address others cs) → In c cs × (d.address < c.address) × (is_among others c.address ≡ false))
        → (In c (first_of_each after others cs) → In c cs × (after < c.address) × (is_among others c.address ≡ false)) → In c (d ∷ cs) × (after < c.address) × (is_among others c.address ≡ false)
    by true e (inl is) f g =
        let p = both_parts (nat_lt after d.address) (is_among others d.address) e in
        (inl is, subst (λ (x : Cref). after < x.address) is (less after d.address p.0), subst (λ (x : Cref). is_among others x.address ≡ false) is p.1)
    by true e (inr m) f g =
        let p = both_parts (nat_lt after d.address) (is_among others d.address) e in
        let lt = less after d.address p.0 in
        let r = f m in
        (inr r.0, (let q = r.1 in omega (arith, lt, q)), r.2)
    by false e m f g = let r = g m in (inr r.0, r.1, r.2)

first_distinct : (after : ℕ) (others cs : List Cref) → AreDistinct (first_of_each after others cs)
first_distinct after others [] = tt
first_distinct after others (d ∷ cs) = by (is_next after others d) (first_distinct d.address others cs) (first_distinct after others cs)
  where
    by : (b : Bool) → AreDistinct (first_of_each d.address others cs) → AreDistinct (first_of_each after others cs) → AreDistinct (if b then (d ∷ first_of_each d.address others cs) else first_of_each after others cs)
    by true p q = (In_All (λ (y : Cref). y.address ≢ d.address) (first_of_each d.address others cs) (λ y m e. (let r = (first_In d.address others cs y m).1 in omega (arith, r, e))), p)
    by false p q = q

below_all : (a : ℕ) (cs : List Cref) (c : Cref) → ((j : ℕ) (e : Cref) → j < length cs → a ≤ (get_or cs j e).address) → In c cs → a ≤ c.address
below_all a [] c f h = absurd h
below_all a (d ∷ cs) c f (inl is) = subst (λ (x : Cref). a ≤ x.address) is (f zero d (omega arith))
below_all a (d ∷ cs) c f (inr m) = below_all a cs c (λ j e lt. f (suc j) e (omega arith)) m

first_all : (after : ℕ) (others cs : List Cref) (c : Cref) → IsNonDecreasingBy (λ (x : Cref). x.address) cs → In c cs → after < c.address → is_among others c.address ≡ false → In c (first_of_each after others cs)
first_all after others [] c up h lt free = absurd h
first_all after others (d ∷ cs) c up h lt free = by (is_next after others d) refl h (first_all d.address others cs c later) (first_all after others cs c later)
  where
    later : IsNonDecreasingBy (λ (x : Cref). x.address) cs
    later = λ i j e le inside. up (suc i) (suc j) e (omega arith) (omega arith)

    least : In c cs → d.address ≤ c.address
    least m = below_all d.address cs c (λ j e inside. up zero (suc j) e (omega arith) (omega arith)) m

    by : (b : Bool) → is_next after others d ≡ b → In c (d ∷ cs) → (In c cs → d.address < c.address → is_among others c.address ≡ false → In c (first_of_each d.address others cs))
        → (In c cs → after < c.address → is_among others c.address ≡ false → In c (first_of_each after others cs)) → In c (if b then (d ∷ first_of_each d.address others cs) else first_of_each after others cs)
    by true e (inl is) f g = inl is
    by true e (inr m) f g = elim (cases_lt d.address c.address) as (λ _. In c (d ∷ first_of_each d.address others cs)) [
      | inl low ↦ inr (f m low free)
      | inr high ↦ inl (same_cref d c (let le = least m in omega (arith, le, high)))
    ]
    by false e (inl is) f g =
        let lt_d = is_less after d.address (subst (λ (x : Cref). after < x.address) (sym is) lt) in
        let free_d = subst (λ (x : Cref). is_among others x.address ≡ false) (sym is) free in
        absurd (true≢false (sym (both_of (nat_lt after d.address) (is_among others d.address) lt_d free_d) ∙ e))
    by false e (inr m) f g = g m lt free

pub apart_of : (after : ℕ) (others clauses in_order sorted : List Cref) → IsPermutation clauses in_order → IsNonDecreasingBy (λ (x : Cref). x.address) in_order → IsPermutation others sorted → AreToldApart after others clauses (first_of_each after sorted in_order)
apart_of after others clauses in_order sorted same up alike = record {
  distinct = first_distinct after sorted in_order;
  among = In_All (Contains clauses) apart (λ c m. Contains-permutation in_order clauses c (IsPermutation-sym clauses in_order same) (In_Contains in_order c (first_In after sorted in_order c m).0));
  beyond = In_All (λ (c : Cref). after < c.address) apart (λ c m. (first_In after sorted in_order c m).1);
  free = In_All (λ (c : Cref). is_among others c.address ≡ false) apart (λ c m. among_same c.address ∙ (first_In after sorted in_order c m).2);
  all = λ c there lt free. In_Contains apart c (first_all after sorted in_order c up (Contains_In in_order c (Contains-permutation clauses in_order c same there)) lt (sym (among_same c.address) ∙ free));
}
  where
    apart : List Cref
    apart = first_of_each after sorted in_order

    among_same : (a : ℕ) → is_among others a ≡ is_among sorted a
    among_same a = list_any-IsPermutation (λ (x : Cref). x.address == a) others sorted alike

-- one step along the clauses
pub first_more : (after : ℕ) (others xs : List Cref) (c : Cref) (cs : List Cref) → is_next after others c ≡ true → (xs ++ c ∷ []) ++ first_of_each c.address others cs ≡ xs ++ first_of_each after others (c ∷ cs)
first_more after others xs c cs e =
    append_assoc xs (c ∷ []) (first_of_each c.address others cs)
    ∙ ap (λ (b : Bool). xs ++ (if b then (c ∷ first_of_each c.address others cs) else first_of_each after others cs)) (sym e)

pub first_less : (after : ℕ) (others xs : List Cref) (c : Cref) (cs : List Cref) → is_next after others c ≡ false → xs ++ first_of_each after others cs ≡ xs ++ first_of_each after others (c ∷ cs)
first_less after others xs c cs e = ap (λ (b : Bool). xs ++ (if b then (c ∷ first_of_each c.address others cs) else first_of_each after others cs)) (sym e)

pub drop_next : (cs : List Cref) (i : ℕ) → i < length cs → drop i cs ≡ get_or cs i record { address = 0 } ∷ drop (i + 1) cs
drop_next cs i lt = drop-cons cs i record { address = 0 } lt ∙ ap (λ (n : ℕ). get_or cs i record { address = 0 } ∷ drop n cs) (let e : suc i ≡ i + 1 = omega arith in e)
