-- Places of the literals of a trail.
use Rattle.std.proofs.Common.{◌≡◌, ◌≢◌, ◌⊎◌, inl, inr, ℕ, zero, suc, ◌+◌, ◌-◌, ◌<◌, ◌≤◌, List, [], ◌∷◌, ◌++◌, length, set, get_or, refl, sym, ap, subst, ◌∙◌, arith, replicate, length-append, length-set}
use mathlib.Core.Logic.{dite}
use native.Mathlib.Decide.{ℕ_discrete}
use Rattle.std.proofs.lemmas.Bool.{cases_lt}
use Rattle.std.proofs.lemmas.List.{get_or-set_same, get_or-set_other, get_or_append_left}
use Rattle.sat_words.specs.Literal.{Literal, code_of, literal_of}
use Rattle.sat_words.specs.Codes.{literal_of-code_of}
use Rattle.simp_base.proofs.Lists.{past_end}
use Rattle.simp_base.specs.declared.hints.trail.Step.{Step}
use Rattle.simp_base.specs.Hinting.{ArePlaces, lit_at, no_step}

pub one_code : (k l : Literal) → code_of k ≡ code_of l → k ≡ l
one_code k l e = sym (literal_of-code_of k) ∙ ap literal_of e ∙ literal_of-code_of l

pub last_read : {X : Type 0} (xs : List X) (x d : X) → get_or (xs ++ x ∷ []) (length xs) d ≡ x
last_read [] x d = refl
last_read (y ∷ xs) x d = last_read xs x d

-- zeros at the end are what stands past the end
pub zeros : (xs : List ℕ) (n k : ℕ) → get_or (xs ++ replicate n 0) k 0 ≡ get_or xs k 0
zeros [] zero zero = refl
zeros [] zero (suc k) = refl
zeros [] (suc n) zero = refl
zeros [] (suc n) (suc k) = zeros [] n k ∙ past_end [] k 0 (omega arith)
zeros (x ∷ xs) n zero = refl
zeros (x ∷ xs) n (suc k) = zeros xs n k

-- one step more
module _ (steps : List Step) (s : Step) where
  pub step_before : (p : ℕ) → p < length steps → get_or (steps ++ s ∷ []) p no_step ≡ get_or steps p no_step
  step_before p lt = get_or_append_left steps (s ∷ []) no_step p lt

  pub step_last : get_or (steps ++ s ∷ []) (length steps) no_step ≡ s
  step_last = last_read steps s no_step

  pub one_longer : length (steps ++ s ∷ []) ≡ length steps + 1
  one_longer = length-append steps (s ∷ [])

  pub before_or_last : (p : ℕ) → p < length (steps ++ s ∷ []) → (p < length steps) ⊎ (p ≡ length steps)
  before_or_last p lt = elim (cases_lt p (length steps)) as (λ _. (p < length steps) ⊎ (p ≡ length steps)) [
    | inl l ↦ inl l
    | inr ge ↦ inr (let n = one_longer in omega arith)
  ]

module _ (steps : List Step) (places : List ℕ) (a : ArePlaces steps places) where
  pub found_place : (l : Literal) (v : ℕ) → get_or places (code_of l) 0 ≡ v → v ≢ 0 → (v - 1 < length steps) × (lit_at steps (v - 1) ≡ l)
  found_place l v e ne = by v e ne
    where
      by : (w : ℕ) → get_or places (code_of l) 0 ≡ w → w ≢ 0 → (w - 1 < length steps) × (lit_at steps (w - 1) ≡ l)
      by zero q n = absurd (n refl)
      by (suc p) q n = let t = a.there (code_of l) p q in
          let z : suc p - 1 ≡ p = omega arith in
          subst (λ j. (j < length steps) × (lit_at steps j ≡ l)) (sym z) (t.0, one_code (lit_at steps p) l t.1)

  pub no_place : (l : Literal) → get_or places (code_of l) 0 ≡ 0 → (p : ℕ) → p < length steps → lit_at steps p ≡ l → ⊥
  no_place l e p lt is = let b = a.back p lt in
      let z : 0 ≡ suc p = sym e ∙ ap (λ k. get_or places (code_of k) 0) (sym is) ∙ b.1 in
      omega (arith, z)

  pub beyond_places : (l : Literal) → length places ≤ code_of l → (p : ℕ) → p < length steps → lit_at steps p ≡ l → ⊥
  beyond_places l ge p lt is = let b = a.back p lt in
      let z : code_of (lit_at steps p) ≡ code_of l = ap code_of is in
      omega (arith, b.0, z, ge)

  pub more_codes : (n : ℕ) → ArePlaces steps (places ++ replicate n 0)
  more_codes n = record {
    there = λ k p e. a.there k p (sym (zeros places n k) ∙ e);
    back = λ p lt. (let b = a.back p lt in let m = length-append places (replicate n 0) in (omega (arith, b.0), zeros places n (code_of (lit_at steps p)) ∙ b.1));
  }

  module _ (s : Step) (lt_code : code_of s.lit < length places) (free : (p : ℕ) → p < length steps → lit_at steps p ≡ s.lit → ⊥) where
    pub one_more : ArePlaces (steps ++ s ∷ []) (set places (code_of s.lit) (suc (length steps)))
    one_more = record { there = there_more; back = λ p lt. back_more p (before_or_last steps s p lt) }
      where
        there_more : (k p : ℕ) → get_or (set places (code_of s.lit) (suc (length steps))) k 0 ≡ suc p → (p < length (steps ++ s ∷ [])) × (code_of (lit_at (steps ++ s ∷ []) p) ≡ k)
        there_more k p e = dite (ℕ_discrete k (code_of s.lit))
            (λ (is : k ≡ code_of s.lit). (
            let v : suc (length steps) ≡ suc p = sym (get_or-set_same places (code_of s.lit) (suc (length steps)) 0 lt_code) ∙ ap (λ j. get_or (set places (code_of s.lit) (suc (length steps))) j 0) (sym is) ∙ e in
            let n = one_longer steps s in
            let w : length steps ≡ p = omega (arith, v) in
            (omega arith, ap code_of (ap (λ j. lit_at (steps ++ s ∷ []) j) (sym w) ∙ ap (λ (x : Step). x.lit) (step_last steps s)) ∙ sym is)))
            (λ (ne : k ≢ code_of s.lit). (
            let b = a.there k p (sym (get_or-set_other places (code_of s.lit) k (suc (length steps)) 0 ne) ∙ e) in
            let n = one_longer steps s in
            (omega (arith, b.0), ap (λ (x : Step). code_of x.lit) (step_before steps s p b.0) ∙ b.1)))

        back_more : (p : ℕ) → (p < length steps) ⊎ (p ≡ length steps)
            → (code_of (lit_at (steps ++ s ∷ []) p) < length (set places (code_of s.lit) (suc (length steps)))) × (get_or (set places (code_of s.lit) (suc (length steps))) (code_of (lit_at (steps ++ s ∷ []) p)) 0 ≡ suc p)
        back_more p (inl lt) =
            let b = a.back p lt in
            let n = length-set places (code_of s.lit) (suc (length steps)) in
            let is : code_of (lit_at (steps ++ s ∷ []) p) ≡ code_of (lit_at steps p) = ap (λ (x : Step). code_of x.lit) (step_before steps s p lt) in
            let ne : code_of (lit_at steps p) ≢ code_of s.lit = λ e. free p lt (one_code (lit_at steps p) s.lit e) in
            (omega (arith, b.0, is, n), ap (λ j. get_or (set places (code_of s.lit) (suc (length steps))) j 0) is ∙ get_or-set_other places (code_of s.lit) (code_of (lit_at steps p)) (suc (length steps)) 0 ne ∙ b.1)
        back_more p (inr e) =
            let n = length-set places (code_of s.lit) (suc (length steps)) in
            let is : code_of (lit_at (steps ++ s ∷ []) p) ≡ code_of s.lit = ap (λ j. code_of (lit_at (steps ++ s ∷ []) j)) e ∙ ap (λ (x : Step). code_of x.lit) (step_last steps s) in
            (omega (arith, is, n, lt_code), ap (λ j. get_or (set places (code_of s.lit) (suc (length steps))) j 0) is ∙ get_or-set_same places (code_of s.lit) (suc (length steps)) 0 lt_code ∙ ap suc (sym e))

-- places from this one on are left
pub record AreLeft (steps : List Step) (from : ℕ) (places : List ℕ) : Type 0 where
  pub there : (k p : ℕ) → get_or places k 0 ≡ suc p → (from ≤ p) × (p < length steps) × (code_of (lit_at steps p) ≡ k)

pub all_left : (steps : List Step) (places : List ℕ) → ArePlaces steps places → AreLeft steps 0 places
all_left steps places a = record { there = λ k p e. (let t = a.there k p e in (omega arith, t.0, t.1)) }

pub one_less : (steps : List Step) (places : List ℕ) (i code : ℕ) → i < length steps → code ≡ code_of (lit_at steps i) → AreLeft steps i places → AreLeft steps (i + 1) (set places code 0)
one_less steps places i code lt is a = record { there = there }
  where
    there : (k p : ℕ) → get_or (set places code 0) k 0 ≡ suc p → (i + 1 ≤ p) × (p < length steps) × (code_of (lit_at steps p) ≡ k)
    there k p e = dite (ℕ_discrete k code)
        (λ (same : k ≡ code). absurd (zero_there k p same e))
        (λ (ne : k ≢ code). (
        let t = a.there k p (sym (get_or-set_other places code k 0 0 ne) ∙ e) in
        let apart : i ≢ p = λ q. ne (sym t.2 ∙ ap (λ j. code_of (lit_at steps j)) (sym q) ∙ sym is) in
        (omega (arith, t.0, apart), t.1, t.2)))
      where
        zero_there : (k p : ℕ) → k ≡ code → get_or (set places code 0) k 0 ≡ suc p → ⊥
        zero_there k p same e = elim (cases_lt code (length places)) as (λ _. ⊥) [
          | inl in_range ↦ (let z : 0 ≡ suc p = sym (get_or-set_same places code 0 0 in_range) ∙ ap (λ j. get_or (set places code 0) j 0) (sym same) ∙ e in omega (arith, z))
          | inr out ↦ (let n = length-set places code 0 in let z : 0 ≡ suc p = sym (past_end (set places code 0) code 0 (omega arith)) ∙ ap (λ j. get_or (set places code 0) j 0) (sym same) ∙ e in omega (arith, z))
        ]

pub none_left : (steps : List Step) (i : ℕ) (places : List ℕ) → length steps ≤ i → AreLeft steps i places → ArePlaces [] places
none_left steps i places le a = record {
  there = λ k p e. (let t = a.there k p e in absurd (omega (arith, t.0, t.1)));
  back = λ p lt. absurd (omega arith);
}
