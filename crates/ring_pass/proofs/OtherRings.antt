-- The other rings, in order.
use Rattle.std.proofs.Common.{◌≡◌, ℕ, zero, suc, ◌+◌, ◌<◌, ◌≤◌, ◌==◌, Bool, true, false, not, if◌then◌else◌, List, [], ◌∷◌, ◌++◌, length, refl, sym, ap, ◌∙◌, arith, ne_eqb, eq-eqb, length-append}
use Rattle.std.specs.List.{filter, range_with_len}
use mathlib.Core.Logic.{dite}
use native.Mathlib.Decide.{ℕ_discrete}
use Rattle.ring_port.proofs.Beginnings.{range_more}
use Rattle.share_core.specs.declared.stored.PutNote.{PutNote}
use Rattle.ring_pass.specs.Offering.{others, puts_for}

filter_both : (p : ℕ → Bool) (xs ys : List ℕ) → filter p (xs ++ ys) ≡ filter p xs ++ filter p ys
filter_both p [] ys = refl
filter_both p (x ∷ xs) ys = by (p x) (filter_both p xs ys)
  where
    by : (b : Bool) → filter p (xs ++ ys) ≡ filter p xs ++ filter p ys → (if b then x ∷ filter p (xs ++ ys) else filter p (xs ++ ys)) ≡ (if b then x ∷ filter p xs else filter p xs) ++ filter p ys
    by true e = ap (λ (zs : List ℕ). x ∷ zs) e
    by false e = e

next : (ring n : ℕ) → others ring (n + 1) ≡ others ring n ++ (if not (n == ring) then n ∷ [] else [])
next ring n = ap (filter (λ r. not (r == ring))) (sym (range_more n)) ∙ filter_both (λ r. not (r == ring)) (range_with_len 0 n) (n ∷ [])

-- the ring itself is passed over
pub next_own : (ring n : ℕ) → n ≡ ring → others ring (n + 1) ≡ others ring n
next_own ring n e = next ring n ∙ (λ i. others ring n ++ (if not (eq-eqb n ring e i) then n ∷ [] else [])) ∙ nothing (others ring n)
  where
    nothing : (xs : List ℕ) → xs ++ [] ≡ xs
    nothing [] = refl
    nothing (x ∷ xs) = ap (λ (ys : List ℕ). x ∷ ys) (nothing xs)

pub next_other : (ring n : ℕ) → (n ≡ ring → ⊥) → others ring (n + 1) ≡ others ring n ++ n ∷ []
next_other ring n ne = next ring n ∙ (λ i. others ring n ++ (if not (ne_eqb n ring ne i) then n ∷ [] else []))

-- how many they are
pub others_grow : (ring n m : ℕ) → n ≤ m → length (others ring n) ≤ length (others ring m)
others_grow ring n zero le = let e : n ≡ 0 = omega arith in let same = ap (λ (k : ℕ). length (others ring k)) e in omega arith
others_grow ring n (suc m) le = dite (ℕ_discrete n (suc m))
    (λ e. let same = ap (λ (k : ℕ). length (others ring k)) e in omega arith)
    (λ ne.
    let less = others_grow ring n m (omega arith) in
    let up : m + 1 ≡ suc m = omega arith in
    let long = ap length (sym (ap (others ring) up) ∙ next ring m) in
    let sum = length-append (others ring m) (if not (m == ring) then m ∷ [] else []) in
    omega arith)

pub others_few : (ring n : ℕ) → length (others ring n) ≤ n
others_few ring zero = omega arith
others_few ring (suc n) =
    let less = others_few ring n in
    let up : n + 1 ≡ suc n = omega arith in
    dite (ℕ_discrete n ring)
    (λ e. let long = ap length (sym (ap (others ring) up) ∙ next_own ring n e) in omega arith)
    (λ ne. let long = ap length (sym (ap (others ring) up) ∙ next_other ring n ne) in let sum = length-append (others ring n) (n ∷ []) in omega arith)

pub others_fewer : (ring n : ℕ) → ring < n → length (others ring n) + 1 ≤ n
others_fewer ring zero lt = absurd (omega arith)
others_fewer ring (suc n) lt =
    let up : n + 1 ≡ suc n = omega arith in
    dite (ℕ_discrete n ring)
    (λ e. let less = others_few ring n in let long = ap length (sym (ap (others ring) up) ∙ next_own ring n e) in omega arith)
    (λ ne. let less = others_fewer ring n (omega arith) in let long = ap length (sym (ap (others ring) up) ∙ next_other ring n ne) in let sum = length-append (others ring n) (n ∷ []) in omega arith)

-- what is put for some and then for others
pub puts_both : (class place a : ℕ) (xs ys : List ℕ) → puts_for class place a (xs ++ ys) ≡ puts_for class place a xs ++ puts_for class place a ys
puts_both class place a [] ys = refl
puts_both class place a (x ∷ xs) ys = ap (λ (zs : List PutNote). record { to = x; class = class; place = place; address = a } ∷ zs) (puts_both class place a xs ys)

-- another ring is one more of them
pub others_next : (ring n m : ℕ) → (n ≡ ring → ⊥) → n < m → length (others ring n) + 1 ≤ length (others ring m)
others_next ring n m ne lt =
    let grow = others_grow ring (n + 1) m (omega arith) in
    let long = ap length (next_other ring n ne) in
    let sum = length-append (others ring n) (n ∷ []) in
    omega arith
