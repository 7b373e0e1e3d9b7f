-- What is marked while hints are collected.
use Rattle.std.proofs.Common.{◌≡◌, ◌∙◌, ◌⊎◌, ℕ, ◌<◌, ◌≤◌, ◌+◌, Bool, true, false, ◌||◌, ◌==◌, List, [], ◌∷◌, ◌++◌, length, get_or, take, Option, Some, Contains, sym, ap, subst, inl, inr, arith, eq-eqb, ne_eqb}
use Rattle.std.specs.Option.{option_map}
use Rattle.std.proofs.lemmas.Bool.{or_left, or_right, or_cases, cases_Bool, false≢true}
use Rattle.std.proofs.lemmas.List.{take_more}
use Rattle.sat_words.specs.Literal.{Literal, opposite, same}
use Rattle.sat_words.specs.Clause.{has}
use Rattle.sat_words.proofs.Members.{same-true, same-refl}
use Rattle.sat_words.proofs.Finding.{found}
use Rattle.rup_model.specs.Hints.{numbered}
use Rattle.rup_model.proofs.HintReading.{set_pushed}
use Rattle.simp_base.specs.WorkState.{HaveOwnNumbers}
use Rattle.simp_base.specs.Tables.{IsUnit}
use Rattle.simp_base.specs.declared.hints.trail.Step.{Step}
use Rattle.simp_base.specs.Hinting.{lit_at, reason_at, IsTrueBy}
use Rattle.simp_base.specs.Collecting.{IsEarly, marked, IsBasis, ForcedBefore, IsNoted, IsNeeded, StandsAt, IsMet, AreMet}
use Rattle.simp_base.proofs.Collecting.{one_unit}

-- a clause under its number
pub numbered_is : (cells : List (ℕ × List Literal)) → HaveOwnNumbers cells → (n : ℕ) (c : List Literal) → Contains cells (n, c) → numbered cells n ≡ Some c
numbered_is cells own n c h =
    let here : (get_or cells h.0 (n, c)).0 ≡ n = ap (λ (x : ℕ × List Literal). x.0) h.2 in
    ap (λ (o : Option (ℕ × List Literal)). option_map (λ (p : ℕ × List Literal). p.1) o)
    (found (λ (p : ℕ × List Literal). p.0 == n) cells h.0 (n, c) (λ i lt. ne_eqb _ _ (λ e. own i h.0 (n, c) lt h.1 (e ∙ sym here))) h.1 (eq-eqb _ _ here))
    ∙ ap (λ (x : ℕ × List Literal). Some x.1) h.2

module _ (cells : List (ℕ × List Literal)) (start : Literal → Bool) (steps : List Step) (b : IsBasis cells start steps) (i : ℕ) (marks : List Bool) (units : List Literal) (numbers : List ℕ)
    (n : IsNoted cells start steps i marks units numbers) (lit : Literal) (now : List Bool) where
  has_now : ((l : Literal) → marked now l ≡ (same lit l || marked marks l)) → (l : Literal) → marked now l ≡ true → (l ≡ lit) ⊎ (marked marks l ≡ true)
  has_now is l m = elim (or_cases (same lit l) (marked marks l) (sym (is l) ∙ m)) as (λ _. (l ≡ lit) ⊎ (marked marks l ≡ true)) [
    | inl s ↦ inl (sym (same-true lit l s))
    | inr y ↦ inr y
  ]

  pub is_met : ((l : Literal) → marked now l ≡ (same lit l || marked marks l)) → marked now lit ≡ true
  is_met is = is lit ∙ or_left _ _ (same-refl lit)

  pub is_kept : ((l : Literal) → marked now l ≡ (same lit l || marked marks l)) → (l : Literal) → marked marks l ≡ true → marked now l ≡ true
  is_kept is l m = is l ∙ or_right _ _ m

  -- a literal that was forced
  pub forced_noted : ForcedBefore steps i lit → ((l : Literal) → marked now l ≡ (same lit l || marked marks l)) → IsNoted cells start steps i now units numbers
  forced_noted f is = record {
    only = λ l m. elim (has_now is l m) as (λ _. (has units l ≡ true) ⊎ ForcedBefore steps i l) [
      | inl e ↦ inr (subst (λ (x : Literal). ForcedBefore steps i x) (sym e) f)
      | inr old ↦ n.only l old
    ];
    listed = λ l h. is_kept is l (n.listed l h);
    alone = n.alone;
    first = n.first;
  }

  more_units : (l : Literal) → has (units ++ lit ∷ []) l ≡ (same l lit || has units l)
  more_units l = ap (λ (A : Literal → Bool). A l) (set_pushed units lit)

  -- a unit
  pub unit_noted : (number : ℕ) → marked marks lit ≡ false → Contains cells (number, lit ∷ []) → start lit ≡ false
      → ((l : Literal) → marked now l ≡ (same lit l || marked marks l)) → IsNoted cells start steps i now (units ++ lit ∷ []) (numbers ++ number ∷ [])
  unit_noted number off there yet is = record {
    only = λ l m. elim (has_now is l m) as (λ _. (has (units ++ lit ∷ []) l ≡ true) ⊎ ForcedBefore steps i l) [
      | inl e ↦ inl (more_units l ∙ or_left _ _ (subst (λ (x : Literal). same x lit ≡ true) (sym e) (same-refl lit)))
      | inr old ↦ elim (n.only l old) as (λ _. (has (units ++ lit ∷ []) l ≡ true) ⊎ ForcedBefore steps i l) [ inl h ↦ inl (more_units l ∙ or_right _ _ h) | inr f ↦ inr f ]
    ];
    listed = λ l h. elim (or_cases (same l lit) (has units l) (sym (more_units l) ∙ h)) as (λ _. marked now l ≡ true) [
      | inl s ↦ ap (marked now) (same-true l lit s) ∙ is_met is
      | inr old ↦ is_kept is l (n.listed l old)
    ];
    alone = λ l h. elim (or_cases (same l lit) (has units l) (sym (more_units l) ∙ h)) as (λ _. IsUnit cells l) [
      | inl s ↦ subst (IsUnit cells) (sym (same-true l lit s)) (number, there)
      | inr old ↦ n.alone l old
    ];
    first = one_unit (numbered cells) start (IsUnit cells) (lit_at steps) units numbers lit number n.first (numbered_is cells b.own number (lit ∷ []) there) (number, there) fresh yet free;
  }
    where
      fresh : has units lit ≡ false
      fresh = elim (cases_Bool (has units lit)) as (λ _. has units lit ≡ false) [ inl y ↦ absurd (false≢true (sym off ∙ n.listed lit y)) | inr f ↦ f ]

      free : IsEarly start (IsUnit cells) (lit_at steps) 0 (opposite lit) → ⊥
      free (inl s) = false≢true (sym (b.begin.open_yet lit (number, there)) ∙ s)
      free (inr (inl u)) = b.begin.agree lit (number, there) u
      free (inr (inr p)) = let lt = p.1 in absurd (omega arith)

module _ (cells : List (ℕ × List Literal)) (start : Literal → Bool) (steps : List Step) (b : IsBasis cells start steps) where
  -- a literal with no place is a unit that isn't given
  pub unit_of : (i : ℕ) (lit : Literal) → i ≤ length steps → ((p : ℕ) → p < length steps → lit_at steps p ≡ lit → ⊥) → IsTrueBy cells steps i lit → IsUnit cells lit
  unit_of i lit le none (inl u) = u
  unit_of i lit le none (inr t) = absurd (let lt = t.before in none t.place (omega arith) t.true_there)

  pub not_given : (lit : Literal) → ((p : ℕ) → p < length steps → lit_at steps p ≡ lit → ⊥) → start lit ≡ false
  not_given lit none = elim (cases_Bool (start lit)) as (λ _. start lit ≡ false) [
    | inl y ↦ (let a = b.trail.all lit y in absurd (none a.0 a.1 a.3))
    | inr f ↦ f
  ]

  -- one whose place has a reason was forced
  pub forced_of : (i : ℕ) (lit : Literal) (p number : ℕ) → i ≤ length steps → p < length steps → lit_at steps p ≡ lit → reason_at steps p ≡ Some number → IsTrueBy cells steps i lit → ForcedBefore steps i lit
  forced_of i lit p number le lt is reason (inl u) = absurd (b.trail.apart p number lt reason lit u (ap (λ (x : Literal). x.var) (sym is)))
  forced_of i lit p number le lt is reason (inr t) =
      let low = t.before in
      let e : p ≡ t.place = b.trail.distinct p t.place lt (omega arith) (ap (λ (x : Literal). x.var) (is ∙ sym t.true_there)) in
      record { place = p; before = omega arith; true_there = is; number = number; reason = reason }

-- one literal more
has_more : (lits : List Literal) (j : ℕ) (d k : Literal) → j < length lits → has (take (j + 1) lits) k ≡ (same k (get_or lits j d) || has (take j lits) k)
has_more lits j d k lt = ap (λ (xs : List Literal). has xs k) (take_more lits j d lt) ∙ ap (λ (A : Literal → Bool). A k) (set_pushed (take j lits) (get_or lits j d))

pub met_more : (cells : List (ℕ × List Literal)) (start : Literal → Bool) (steps : List Step) (i : ℕ) (marks now : List Bool) (units more : List Literal) (numbers others : List ℕ) (lits : List Literal) (j : ℕ) (d : Literal)
    → j < length lits → AreMet cells start steps i marks units numbers (take j lits) → ((l : Literal) → marked marks l ≡ true → marked now l ≡ true)
    → d ≡ get_or lits j d → IsMet cells start steps i now more others d → AreMet cells start steps i now more others (take (j + 1) lits)
met_more cells start steps i marks now units more numbers others lits j d lt m kept is one = record {
  noted = one.noted;
  met = λ k h. elim (or_cases (same k (get_or lits j d)) (has (take j lits) k) (sym (has_more lits j d k lt) ∙ h)) as (λ _. Met k) [
    | inl s ↦ subst Met (is ∙ sym (same-true k (get_or lits j d) s)) one.met
    | inr old ↦ later k (m.met k old)
  ];
}
  where
    Met : Literal → Type 0
    Met k = StandsAt steps i k ⊎ ((marked now (opposite k) ≡ true) ⊎ (start (opposite k) ≡ true))

    later : (k : Literal) → StandsAt steps i k ⊎ ((marked marks (opposite k) ≡ true) ⊎ (start (opposite k) ≡ true)) → Met k
    later k (inl at) = inl at
    later k (inr (inl y)) = inr (inl (kept (opposite k) y))
    later k (inr (inr s)) = inr (inr s)

pub none_met : (cells : List (ℕ × List Literal)) (start : Literal → Bool) (steps : List Step) (i : ℕ) (marks : List Bool) (units : List Literal) (numbers : List ℕ)
    → IsNoted cells start steps i marks units numbers → AreMet cells start steps i marks units numbers []
none_met cells start steps i marks units numbers n = record { noted = n; met = λ k h. absurd (false≢true h) }

pub other_met : (cells : List (ℕ × List Literal)) (start : Literal → Bool) (steps : List Step) (i : ℕ) (marks : List Bool) (units : List Literal) (numbers : List ℕ) (lit k : Literal)
    → k ≡ opposite lit → IsNeeded cells start steps i marks units numbers k → IsMet cells start steps i marks units numbers lit
other_met cells start steps i marks units numbers lit k is n = record {
  noted = n.noted;
  met = inr (subst (λ (x : Literal). (marked marks x ≡ true) ⊎ (start x ≡ true)) is n.met);
}
