-- A number is taken out of a list without an order, or put into it.
use Rattle.std.proofs.Common.{◌≡◌, ◌≢◌, ◌∙◌, ℕ, ◌<◌, Bool, true, not, ◌==◌, List, length, get_or, take, sym, ap, subst, inl, inr, arith}
use Rattle.std.specs.Prelude.{◌-◌}
use Rattle.std.proofs.Math.ListN.{set}
use Rattle.std.proofs.lemmas.Bool.{cases_eq, and_from, and_parts, eq-eqb, ne_eqb, false≢true}
use Rattle.std.proofs.lemmas.List.{length-set, length-take-le, get_or-set_same, get_or-set_other, get_or-take}
use Rattle.ring_walk.specs.Listed.{AreListed, all_but}

passes_others : (P : ℕ → Bool) (i j : ℕ) → P j ≡ true → j ≢ i → all_but i P j ≡ true
passes_others P i j p ne = and_from (P j) (not (j == i)) p (ap not (ne_eqb j i ne))

passed : (P : ℕ → Bool) (i j : ℕ) → all_but i P j ≡ true → (P j ≡ true) × (j ≢ i)
passed P i j h =
    let both = and_parts (P j) (not (j == i)) h in
    (both.0, λ e. false≢true (sym (ap not (eq-eqb j i e)) ∙ both.1))

module _ (P : ℕ → Bool) (n : ℕ) (L Q : List ℕ) (i : ℕ) (h : AreListed P n L Q) (low : i < n) (there : P i ≡ true) where
  p : ℕ
  p = get_or Q i 0

  m : ℕ
  m = length L - 1

  q : ℕ
  q = get_or L (length L - 1) 0

  p_low : get_or Q i 0 < length L
  p_low = h.inside i low there

  m_low : length L - 1 < length L
  m_low = let a = p_low in omega arith

  at_p : get_or L (get_or Q i 0) 0 ≡ i
  at_p = h.there i low there

  q_noted : get_or Q (get_or L (length L - 1) 0) 0 ≡ length L - 1
  q_noted = h.noted (length L - 1) m_low

  -- the number of another place is another
  other : (k : ℕ) → k < length L → k ≢ get_or Q i 0 → get_or L k 0 ≢ i
  other k lt ne e = ne (sym (h.noted k lt) ∙ ap (λ (x : ℕ). get_or Q x 0) e)

  -- what stands at a place afterwards
  here_p : get_or Q i 0 < length L - 1 → get_or (take (length L - 1) (set L (get_or Q i 0) (get_or L (length L - 1) 0))) (get_or Q i 0) 0 ≡ get_or L (length L - 1) 0
  here_p lt = get_or-take (length L - 1) (set L (get_or Q i 0) (get_or L (length L - 1) 0)) (get_or Q i 0) 0 lt ∙ get_or-set_same L (get_or Q i 0) (get_or L (length L - 1) 0) 0 p_low

  here_k : (k : ℕ) → k < length L - 1 → k ≢ get_or Q i 0 → get_or (take (length L - 1) (set L (get_or Q i 0) (get_or L (length L - 1) 0))) k 0 ≡ get_or L k 0
  here_k k lt ne = get_or-take (length L - 1) (set L (get_or Q i 0) (get_or L (length L - 1) 0)) k 0 lt ∙ get_or-set_other L (get_or Q i 0) k (get_or L (length L - 1) 0) 0 ne

  q_low : get_or L (length L - 1) 0 < n
  q_low = h.low (length L - 1) m_low

  q_other : get_or Q i 0 < length L - 1 → get_or L (length L - 1) 0 ≢ i
  q_other lt = other (length L - 1) m_low (λ e. omega arith)

  place_q : get_or (set Q (get_or L (length L - 1) 0) (get_or Q i 0)) (get_or L (length L - 1) 0) 0 ≡ get_or Q i 0
  place_q = let w = h.wide in let low2 = q_low in get_or-set_same Q (get_or L (length L - 1) 0) (get_or Q i 0) 0 (omega arith)

  place_x : (x : ℕ) → x ≢ get_or L (length L - 1) 0 → get_or (set Q (get_or L (length L - 1) 0) (get_or Q i 0)) x 0 ≡ get_or Q x 0
  place_x x ne = get_or-set_other Q (get_or L (length L - 1) 0) x (get_or Q i 0) 0 ne

  short : length (take (length L - 1) (set L (get_or Q i 0) (get_or L (length L - 1) 0))) ≡ length L - 1
  short = length-take-le (length L - 1) (set L (get_or Q i 0) (get_or L (length L - 1) 0)) (let a = length-set L (get_or Q i 0) (get_or L (length L - 1) 0) in omega arith)

  pub unlisted : AreListed (all_but i P) n (take (length L - 1) (set L (get_or Q i 0) (get_or L (length L - 1) 0))) (set Q (get_or L (length L - 1) 0) (get_or Q i 0))
  unlisted = record {
    wide = length-set Q (get_or L (length L - 1) 0) (get_or Q i 0) ∙ h.wide;
    low = λ k lt. let s = short in elim (cases_eq k (get_or Q i 0)) as (λ _. get_or (take (length L - 1) (set L (get_or Q i 0) (get_or L (length L - 1) 0))) k 0 < n) [
      | inl e ↦ subst (λ (x : ℕ). get_or (take (length L - 1) (set L (get_or Q i 0) (get_or L (length L - 1) 0))) x 0 < n) (sym e) (let a = here_p (omega arith) in let b = q_low in omega arith)
      | inr ne ↦ (let a = here_k k (omega arith) ne in let b = h.low k (omega arith) in omega arith)
    ];
    pass = λ k lt. let s = short in elim (cases_eq k (get_or Q i 0)) as (λ _. all_but i P (get_or (take (length L - 1) (set L (get_or Q i 0) (get_or L (length L - 1) 0))) k 0) ≡ true) [
      | inl e ↦ (let lt2 : get_or Q i 0 < length L - 1 = omega arith in subst (λ (x : ℕ). all_but i P x ≡ true) (sym (here_p lt2) ∙ ap (λ (x : ℕ). get_or (take (length L - 1) (set L (get_or Q i 0) (get_or L (length L - 1) 0))) x 0) (sym e)) (passes_others P i (get_or L (length L - 1) 0) (h.pass (length L - 1) m_low) (q_other lt2)))
      | inr ne ↦ (let lt2 : k < length L - 1 = omega arith in subst (λ (x : ℕ). all_but i P x ≡ true) (sym (here_k k lt2 ne)) (passes_others P i (get_or L k 0) (h.pass k (omega arith)) (other k (omega arith) ne)))
    ];
    noted = λ k lt. let s = short in elim (cases_eq k (get_or Q i 0)) as (λ _. get_or (set Q (get_or L (length L - 1) 0) (get_or Q i 0)) (get_or (take (length L - 1) (set L (get_or Q i 0) (get_or L (length L - 1) 0))) k 0) 0 ≡ k) [
      | inl e ↦ (let lt2 : get_or Q i 0 < length L - 1 = omega arith in
          ap (λ (x : ℕ). get_or (set Q (get_or L (length L - 1) 0) (get_or Q i 0)) (get_or (take (length L - 1) (set L (get_or Q i 0) (get_or L (length L - 1) 0))) x 0) 0) e
          ∙ ap (λ (x : ℕ). get_or (set Q (get_or L (length L - 1) 0) (get_or Q i 0)) x 0) (here_p lt2) ∙ place_q ∙ sym e)
      | inr ne ↦ (let lt2 : k < length L - 1 = omega arith in
          ap (λ (x : ℕ). get_or (set Q (get_or L (length L - 1) 0) (get_or Q i 0)) x 0) (here_k k lt2 ne)
          ∙ place_x (get_or L k 0) (λ e. let a = h.noted k (omega arith) in let b = q_noted in let c : k ≡ length L - 1 = sym a ∙ ap (λ (x : ℕ). get_or Q x 0) e ∙ b in absurd (omega arith)) ∙ h.noted k (omega arith))
    ];
    inside = λ j lt pass. let s = short in let both = passed P i j pass in elim (cases_eq j (get_or L (length L - 1) 0)) as (λ _. get_or (set Q (get_or L (length L - 1) 0) (get_or Q i 0)) j 0 < length (take (length L - 1) (set L (get_or Q i 0) (get_or L (length L - 1) 0)))) [
      | inl e ↦ (let a = ap (λ (x : ℕ). get_or (set Q (get_or L (length L - 1) 0) (get_or Q i 0)) x 0) e ∙ place_q in let b = p_low in
          let c : get_or Q i 0 ≢ length L - 1 = λ u. both.1 (e ∙ ap (λ (x : ℕ). get_or L x 0) (sym u) ∙ at_p) in omega arith)
      | inr ne ↦ (let a = place_x j ne in let b = h.inside j lt both.0 in
          let c : get_or Q j 0 ≢ length L - 1 = λ u. ne (sym (h.there j lt both.0) ∙ ap (λ (x : ℕ). get_or L x 0) u) in omega arith)
    ];
    there = λ j lt pass. let both = passed P i j pass in elim (cases_eq j (get_or L (length L - 1) 0)) as (λ _. get_or (take (length L - 1) (set L (get_or Q i 0) (get_or L (length L - 1) 0))) (get_or (set Q (get_or L (length L - 1) 0) (get_or Q i 0)) j 0) 0 ≡ j) [
      | inl e ↦ (
          let b = p_low in
          let c : get_or Q i 0 ≢ length L - 1 = λ u. both.1 (e ∙ ap (λ (x : ℕ). get_or L x 0) (sym u) ∙ at_p) in
          ap (λ (x : ℕ). get_or (take (length L - 1) (set L (get_or Q i 0) (get_or L (length L - 1) 0))) x 0) (ap (λ (x : ℕ). get_or (set Q (get_or L (length L - 1) 0) (get_or Q i 0)) x 0) e ∙ place_q) ∙ here_p (omega arith) ∙ sym e)
      | inr ne ↦ (
          let b = h.inside j lt both.0 in
          let c : get_or Q j 0 ≢ length L - 1 = λ u. ne (sym (h.there j lt both.0) ∙ ap (λ (x : ℕ). get_or L x 0) u) in
          let d : get_or Q j 0 ≢ get_or Q i 0 = λ u. both.1 (sym (h.there j lt both.0) ∙ ap (λ (x : ℕ). get_or L x 0) u ∙ at_p) in
          ap (λ (x : ℕ). get_or (take (length L - 1) (set L (get_or Q i 0) (get_or L (length L - 1) 0))) x 0) (place_x j ne) ∙ here_k (get_or Q j 0) (omega arith) d ∙ h.there j lt both.0)
    ];
  }
