-- What is true without a decision follows from what is held and seen.
use Rattle.std.proofs.Common.{◌≡◌, ◌∙◌, ℕ, zero, suc, ◌<◌, ◌≤◌, true, false, List, [], ◌∷◌, ◌++◌, length, map, take, refl, ap, sym, subst, arith, inl, inr, ◌⊎◌, Contains, Some, None, IsSome}
use Rattle.std.specs.Prelude.{◌||◌}
use Rattle.std.specs.List.{list_all}
use Rattle.std.specs.Option.{option_map, option_map_or}
use Rattle.std.specs.declared.option.Option.{Option}
use Rattle.std.proofs.lemmas.Bool.{or_left, or_right, or_cases, false≢true}
use Rattle.sat_words.specs.Literal.{Literal, opposite, same}
use Rattle.sat_words.specs.Clause.{has, has_opposites}
use Rattle.sat_words.proofs.Members.{same-true, same-refl}
use Rattle.rup_model.proofs.Lists.{In_all, In_has}
use Rattle.rup_model.proofs.Derivation.{conflicts_from_derivation}
use Rattle.rup_model.specs.Rup.{rup, conflicts}
use Rattle.rup_model.specs.Derivation.{Derives, with_derived}
use Rattle.ring_port.specs.PortState.{PortState, Holding, held_at, lits_at, known, clause_at}
use Rattle.ring_port.proofs.Holdings.{held_is_known, seen_is_known}
use Rattle.ring_trail.specs.declared.step.TrailStep.{TrailStep}
use Rattle.ring_trail.specs.TrailData.{FalseBefore, lit_at, level_at}
use Rattle.ring_trail.specs.Reasoned.{IsReasoned}

-- one more literal at the end
derives_more : (G : List (List Literal)) (A ls : List Literal) (l : Literal) → Derives G A ls
    → ((c : List Literal) × Contains G c × (has c l ≡ true) × (list_all (λ k. same l k || has (with_derived A ls) (opposite k)) c ≡ true))
    → Derives G A (ls ++ l ∷ [])
derives_more G A [] l d next = (next, tt)
derives_more G A (x ∷ ls) l (first, d) next = (first, derives_more G (x ∷ A) ls l d next)

with_more : (A ls : List Literal) (l : Literal) → with_derived A (ls ++ l ∷ []) ≡ l ∷ with_derived A ls
with_more A [] l = refl
with_more A (x ∷ ls) l = with_more (x ∷ A) ls l

derived_has : (A ls : List Literal) (k : Literal) → has A k ≡ true → has (with_derived A ls) k ≡ true
derived_has A [] k h = h
derived_has A (x ∷ ls) k h = derived_has (x ∷ A) ls k (or_right (same k x) (has A k) h)

-- the literals of the first steps
abbrev pub front : List TrailStep → ℕ → List Literal
front steps n = map (λ s. s.lit) (take n steps)

front_has : (steps : List TrailStep) (n p : ℕ) → p < n → p < length steps → has (front steps n) (lit_at steps p) ≡ true
front_has [] n p h k = absurd (omega arith)
front_has (s ∷ ss) zero p h k = absurd (omega arith)
front_has (s ∷ ss) (suc n) zero h k = or_left (same s.lit s.lit) (has (front ss n) s.lit) (same-refl s.lit)
front_has (s ∷ ss) (suc n) (suc p) h k = or_right (same (lit_at ss p) s.lit) (has (front ss n) (lit_at ss p)) (front_has ss n p (omega arith) (omega arith))

front_suc : (steps : List TrailStep) (n : ℕ) → n < length steps → front steps (suc n) ≡ front steps n ++ lit_at steps n ∷ []
front_suc [] n h = absurd (omega arith)
front_suc (s ∷ ss) zero h = refl
front_suc (s ∷ ss) (suc n) h = ap (λ (ls : List Literal). s.lit ∷ ls) (front_suc ss n (omega arith))

with_front : (A ls : List Literal) (k : Literal) → has ls k ≡ true → has (with_derived A ls) k ≡ true
with_front A [] k h = absurd (false≢true h)
with_front A (x ∷ ls) k h =
    elim (or_cases (same k x) (has ls k) h) as (λ _. has (with_derived A (x ∷ ls)) k ≡ true) [
      | inl e ↦ derived_has (x ∷ A) ls k (or_left (same k x) (has A k) e)
      | inr m ↦ with_front (x ∷ A) ls k m
    ]

false_before : (steps : List TrailStep) (A : List Literal) (n : ℕ) (k : Literal) → n ≤ length steps → FalseBefore steps n k → has (with_derived A (front steps n)) (opposite k) ≡ true
false_before steps A n k h f =
    with_front A (front steps n) (opposite k)
    (subst (λ (l : Literal). has (front steps n) l ≡ true) f.false_there (front_has steps n f.place f.before (omega (arith, f.before))))

-- a clause that is held may be used
pub held_known : (s : PortState) (a : ℕ) (c : List Literal) → clause_at s a ≡ Some c → IsSome (held_at s a) × (lits_at s a ≡ c)
held_known s a c e = by (held_at s a) refl e
  where
    by : (o : Option Holding) → held_at s a ≡ o → option_map (λ (h : Holding). h.lits) o ≡ Some c → IsSome (held_at s a) × (lits_at s a ≡ c)
    by (Some h) is e = (subst (λ (o : Option Holding). IsSome o) (sym is) refl, ap (λ (o : Option Holding). option_map_or (λ (h : Holding). h.lits) o []) is ∙ (let same_lits : h.lits ≡ c = cc in same_lits))
    by None is e = cc

pub lits_known : (s : PortState) (a : ℕ) (c : List Literal) → clause_at s a ≡ Some c → Contains (known s) c
lits_known s a c e =
    let both = held_known s a c e in
    subst (λ (d : List Literal). Contains (known s) d) both.1 (held_is_known s a both.0)

-- each of the first steps is forced by a clause that is known, as long as they are at level 0
record Cause (s : PortState) (steps : List TrailStep) (n : ℕ) : Type 0 where
  pub clause : List Literal
  pub among : Contains (known s) clause
  pub has_lit : has clause (lit_at steps n) ≡ true
  pub others : (k : Literal) → has clause k ≡ true → (k ≡ lit_at steps n) ⊎ FalseBefore steps n k

cause : (s : PortState) (steps : List TrailStep) (n : ℕ) → IsReasoned (clause_at s) s.seen steps → n < length steps → level_at steps n ≡ 0 → Cause s steps n
cause s steps n reasoned h zero_level =
    elim (reasoned.caused n h) as (λ _. Cause s steps n) [
      | inl f ↦ record { clause = f.lits; among = lits_known s f.reason.address f.lits f.held_is; has_lit = f.unit.has_lit; others = f.unit.others }
      | inr (inl seen) ↦ record {
        clause = lit_at steps n ∷ [];
        among = seen_is_known s (lit_at steps n) seen.seen_is;
        has_lit = or_left (same (lit_at steps n) (lit_at steps n)) false (same-refl (lit_at steps n));
        others = λ k e. inl (only k (lit_at steps n) e);
      }
      | inr (inr decision) ↦ absurd (omega (arith, decision.above))
    ]
  where
    only : (k l : Literal) → has (l ∷ []) k ≡ true → k ≡ l
    only k l e =
        elim (or_cases (same k l) false e) as (λ _. k ≡ l) [
          | inl same_lit ↦ same-true k l same_lit
          | inr none ↦ absurd (false≢true none)
        ]

-- the first steps, one after another, as long as they are at level 0
chain : (s : PortState) (steps : List TrailStep) (A : List Literal) (n : ℕ) → IsReasoned (clause_at s) s.seen steps → n ≤ length steps
    → ((p : ℕ) → p < n → level_at steps p ≡ 0) → Derives (known s) A (front steps n)
chain s steps A zero reasoned h low = tt
chain s steps A (suc n) reasoned h low =
    let one = cause s steps n reasoned (omega arith) (low n (omega arith)) in
    subst (λ (ls : List Literal). Derives (known s) A ls) (sym (front_suc steps n (omega arith)))
    (derives_more (known s) A (front steps n) (lit_at steps n)
    (chain s steps A n reasoned (omega arith) (λ p h2. low p (omega arith))) (
      one.clause,
      one.among,
      one.has_lit,
      In_all (λ k. same (lit_at steps n) k || has (with_derived A (front steps n)) (opposite k)) one.clause
          (λ k among. elim (one.others k (In_has one.clause k among)) as (λ _. (same (lit_at steps n) k || has (with_derived A (front steps n)) (opposite k)) ≡ true) [
            | inl e ↦ or_left (same (lit_at steps n) k) (has (with_derived A (front steps n)) (opposite k)) (ap (same (lit_at steps n)) e ∙ same-refl (lit_at steps n))
            | inr f ↦ or_right (same (lit_at steps n) k) (has (with_derived A (front steps n)) (opposite k)) (false_before steps A n k (omega arith) f)
          ]),
    ))

-- a clause that may be used and is false without a decision refutes what is held and seen
pub false_at_zero : (s : PortState) (steps : List TrailStep) (n : ℕ) (c : List Literal) → IsReasoned (clause_at s) s.seen steps → n ≤ length steps
    → ((p : ℕ) → p < n → level_at steps p ≡ 0) → Contains (known s) c → ((k : Literal) → has c k ≡ true → FalseBefore steps n k) → rup (known s) [] ≡ true
unfolding rup
false_at_zero s steps n c reasoned h low among bad =
    conflicts_from_derivation (known s) [] (front steps n) c (chain s steps [] n reasoned h low) among
    (In_all (λ k. has (with_derived [] (front steps n)) (opposite k)) c (λ k there. false_before steps [] n k h (bad k (In_has c k there))))

-- a literal that is true without a decision follows
pub true_at_zero : (s : PortState) (steps : List TrailStep) (n : ℕ) → IsReasoned (clause_at s) s.seen steps → n < length steps
    → ((p : ℕ) → p ≤ n → level_at steps p ≡ 0) → rup (known s) (lit_at steps n ∷ []) ≡ true
unfolding rup
true_at_zero s steps n reasoned h low =
    let l = lit_at steps n in
    let A = opposite l ∷ [] in
    let one = cause s steps n reasoned h (low n (omega arith)) in
    or_right (has_opposites (l ∷ [])) (conflicts (known s) A)
    (conflicts_from_derivation (known s) A (front steps n) one.clause (chain s steps A n reasoned (omega arith) (λ p h2. low p (omega arith))) one.among
    (In_all (λ k. has (with_derived A (front steps n)) (opposite k)) one.clause
    (λ k among. elim (one.others k (In_has one.clause k among)) as (λ _. has (with_derived A (front steps n)) (opposite k) ≡ true) [
      | inl e ↦ derived_has A (front steps n) (opposite k) (or_left (same (opposite k) (opposite l)) false (ap (λ (m : Literal). same (opposite m) (opposite l)) e ∙ same-refl (opposite l)))
      | inr f ↦ false_before steps A n k (omega arith) f
    ])))
