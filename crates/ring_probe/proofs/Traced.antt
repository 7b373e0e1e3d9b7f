-- Conflicts can be traced: one after a decision to the negation of what was decided, one at level 0 to the empty clause.
use Rattle.std.proofs.Common.{◌≡◌, ◌∙◌, ◌⊎◌, ℕ, ◌<◌, Bool, true, false, not, List, [], ◌∷◌, length, refl, sym, ap, subst, inl, inr, arith}
use Rattle.std.proofs.lemmas.Bool.{true≢false, false≢true}
use Rattle.sat_words.specs.Literal.{Literal, opposite}
use Rattle.sat_words.specs.Clause.{has}
use Rattle.rup_model.proofs.Lists.{has_In, In_has}
use Rattle.ring_trail.specs.TrailData.{TrailData, IsTrail, IsFalseClause, lit_at, var_at}
use Rattle.ring_trail.specs.Reasoned.{Held, IsForced, IsSeen, IsDecision, IsReasoned}
use Rattle.analyze.specs.Removable.{RestsOn}
use Rattle.analyze.specs.Tracing.{IsSupport, CanTraceClause}
use Rattle.analyze.specs.HintOrder.{DecidesAgainst}
use Rattle.watch_prop.specs.Rounds.{decisions_of}
use Rattle.watch_prop.proofs.Decisions.{decisions_true, decision_has}

opposite_differs : (l : Literal) → l ≡ opposite l → ⊥
opposite_differs l e = by l.neg (ap (λ (k : Literal). k.neg) e)
  where
    by : (b : Bool) → b ≡ not b → ⊥
    by true q = absurd (true≢false q)
    by false q = absurd (true≢false (sym q))

false_by : (b : Bool) → (b ≡ true → ⊥) → b ≡ false
false_by true f = absurd (f refl)
false_by false f = refl

only : (k l : Literal) → has (l ∷ []) k ≡ true → l ≡ k
only k l h = elim (has_In (l ∷ []) k h) as (λ _. l ≡ k) [ inl e ↦ e | inr none ↦ absurd none ]

-- a literal alone was decided
module _ (held : Held) (seen : List Literal) (t : TrailData) (l : Literal) (shape : IsTrail t) (reasoned : IsReasoned held seen t.steps) (decided : decisions_of t.steps ≡ l ∷ []) where
  -- what was decided is the negation of its negation
  pub against : DecidesAgainst t.steps (opposite l ∷ [])
  against p lt d =
      let e = only (lit_at t.steps p) l (subst (λ (A : List Literal). has A (lit_at t.steps p) ≡ true) decided (decision_has t.steps p lt d)) in
      In_has (opposite l ∷ []) (opposite (lit_at t.steps p)) (inl (ap opposite e))

  -- each place can be passed through
  all_supported : IsSupport held t.steps (opposite l ∷ []) (λ p. true)
  all_supported p lt pos given = by (reasoned.caused p lt)
    where
      by : IsForced held t.steps p ⊎ (IsSeen seen t.steps p ⊎ IsDecision t.steps p) → (has (opposite l ∷ []) (opposite (lit_at t.steps p)) ≡ true) ⊎ RestsOn held t.steps (λ q. true ≡ true) p
      by (inl f) = inr record { lits = f.lits; reason = record { reason = f.reason; reason_is = f.reason_is; held_is = f.held_is }; others = λ q before falsifies. refl }
      by (inr (inl seen)) = absurd (let z = seen.level in omega (arith, z, pos))
      by (inr (inr d)) = inl (against p lt d)

  not_negated : (p : ℕ) → p < length t.steps → opposite l ≡ lit_at t.steps p → ⊥
  not_negated p lt e =
      let h = decisions_true t.steps l (subst (λ (A : List Literal). has A l ≡ true) (sym decided) (In_has (l ∷ []) l (inl refl))) in
      let v : var_at t.steps h.place ≡ var_at t.steps p = ap (λ (k : Literal). k.var) h.true_there ∙ ap (λ (k : Literal). k.var) e in
      let same = shape.distinct h.place p h.before lt v in
      opposite_differs l (sym h.true_there ∙ ap (λ (q : ℕ). lit_at t.steps q) same ∙ sym e)

  pub traces_tried : (c : List Literal) → IsFalseClause t.steps c → CanTraceClause held t.steps (opposite l ∷ []) c
  traces_tried c bad = record {
    refuted = λ k h. inr (bad k h);
    none_true = λ p lt. false_by (has (opposite l ∷ []) (lit_at t.steps p)) (λ h. not_negated p lt (only (lit_at t.steps p) (opposite l) h));
    support = λ p. true;
    supports = all_supported;
    starts = λ p falsifies. refl;
  }

-- at level 0 no place needs support
pub traces_low : (held : Held) (t : TrailData) (c : List Literal) → IsTrail t → t.level ≡ 0 → IsFalseClause t.steps c → CanTraceClause held t.steps [] c
traces_low held t c shape zero' bad = record {
  refuted = λ k h. inr (bad k h);
  none_true = λ p lt. refl;
  support = λ p. false;
  supports = λ p lt pos given. absurd (false≢true given);
  starts = λ p falsifies. absurd (let w = shape.within p falsifies.in_range in let a = falsifies.above in omega (arith, w, a, zero'));
}
