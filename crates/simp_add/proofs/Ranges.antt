-- What numbers in a range give, if all that give something are among some numbers, ascending.
use Rattle.std.proofs.Common.{◌≡◌, ◌≢◌, ◌∙◌, ℕ, zero, suc, ◌+◌, ◌<◌, ◌≤◌, List, [], ◌∷◌, length, get_or, Option, None, sym, refl, ap, subst, arith, inl, inr, ◌⊎◌}
use Rattle.std.specs.Prelude.{⊤}
use Rattle.std.specs.List.{filter_map, cons_option, range_with_len, Contains}
use Rattle.std.specs.List.Sorted.{IsStrictlyIncreasing}
use Rattle.std.proofs.lemmas.List.Kept.{AllPairs-from_increasing}
use mathlib.Core.Logic.{dite}
use native.Mathlib.Decide.{ℕ_discrete}
use Rattle.rup_model.proofs.Lists.{In, Contains_In}

-- each number from this one on, and above those before it
abbrev pub Rising : ℕ → List ℕ → Type 0
Rising a [] = ⊤
Rising a (n ∷ ns) = (a ≤ n) × Rising (suc n) ns

rising_from : (a : ℕ) (ns : List ℕ) → ((i : ℕ) → i < length ns → a ≤ get_or ns i 0) → ((i j : ℕ) → i < j → j < length ns → get_or ns i 0 < get_or ns j 0) → Rising a ns
rising_from a [] low up = tt
rising_from a (n ∷ ns) low up = (low 0 (omega arith), rising_from (suc n) ns (λ i lt. (let h = up 0 (suc i) (omega arith) (omega arith) in omega arith)) (λ i j ij lt. up (suc i) (suc j) (omega arith) (omega arith)))

pub rising : (ns : List ℕ) → IsStrictlyIncreasing ns → Rising 0 ns
rising ns up = rising_from 0 ns (λ i lt. omega arith) (λ i j ij lt. AllPairs-from_increasing ns up i j 0 ij lt)

past : (a : ℕ) (ns : List ℕ) (n : ℕ) → Rising a ns → In n ns → a ≤ n
past a [] n r i = absurd i
past a (m ∷ ns) n r (inl e) = let le = r.0 in omega arith
past a (m ∷ ns) n r (inr i) = let le = past (suc m) ns n r.1 i in let lo = r.0 in omega arith

higher : (a : ℕ) (ns : List ℕ) → Rising a ns → (In a ns → ⊥) → Rising (suc a) ns
higher a [] r none = tt
higher a (n ∷ ns) r none = (let le = r.0 in let ne : a ≢ n = (λ e. none (inl (sym e))) in omega arith, r.1)

module _ {Y : Type 0} (f : ℕ → Option Y) where
  -- nothing comes of numbers that give nothing
  nothing_comes : (ns : List ℕ) → ((n : ℕ) → In n ns → f n ≡ None) → filter_map f ns ≡ []
  nothing_comes [] none = refl
  nothing_comes (n ∷ ns) none = ap (λ o. cons_option o (filter_map f ns)) (none n (inl refl)) ∙ nothing_comes ns (λ m i. none m (inr i))

  ranged : (a k : ℕ) (ns : List ℕ) → Rising a ns → ((n : ℕ) → a + k ≤ n → f n ≡ None) → ((n : ℕ) → a ≤ n → (f n ≡ None) ⊎ In n ns) → filter_map f (range_with_len a k) ≡ filter_map f ns
  ranged a zero ns r beyond every = sym (nothing_comes ns (λ n i. beyond n (let le = past a ns n r i in omega arith)))
  ranged a (suc k) [] r beyond every =
      ap (λ o. cons_option o (filter_map f (range_with_len (a + 1) k))) (elim (every a (omega arith)) as (λ _. f a ≡ None) [ inl e ↦ e | inr i ↦ absurd i ])
      ∙ ranged (a + 1) k [] tt (λ n le. beyond n (omega arith)) (λ n le. every n (omega arith))
  ranged a (suc k) (m ∷ ns) r beyond every = dite (ℕ_discrete a m)
      (λ (e : a ≡ m). (
      let rest = ranged (a + 1) k ns (subst (λ (b : ℕ). Rising b ns) (let s : suc m ≡ a + 1 = omega arith in s) r.1) (λ n le. beyond n (omega arith))
      (λ n le. elim (every n (omega arith)) as (λ _. (f n ≡ None) ⊎ In n ns) [
        | inl h ↦ inl h
        | inr (inl q) ↦ absurd (omega arith)
        | inr (inr i) ↦ inr i
      ]) in
      (λ i. cons_option (f (e i)) (rest i))))
      (λ (ne : a ≢ m). (
      let lt : a < m = (let le = r.0 in omega arith) in
      let none : f a ≡ None = elim (every a (omega arith)) as (λ _. f a ≡ None) [
        | inl h ↦ h
        | inr i ↦ absurd (let le = past m (m ∷ ns) a (omega arith, r.1) i in omega arith)
      ] in
      ap (λ o. cons_option o (filter_map f (range_with_len (a + 1) k))) none
      ∙ ranged (a + 1) k (m ∷ ns) (omega arith, r.1) (λ n le. beyond n (omega arith)) (λ n le. every n (omega arith))))

  pub by_numbers : (last : ℕ) (ns : List ℕ) → IsStrictlyIncreasing ns → ((n : ℕ) → last < n → f n ≡ None) → ((n : ℕ) → (f n ≡ None) ⊎ Contains ns n) → filter_map f (range_with_len 0 (last + 1)) ≡ filter_map f ns
  by_numbers last ns up beyond every =
      ranged 0 (last + 1) ns (rising ns up) (λ n le. beyond n (omega arith)) (λ n le. elim (every n) as (λ _. (f n ≡ None) ⊎ In n ns) [ inl h ↦ inl h | inr i ↦ inr (Contains_In ns n i) ])
