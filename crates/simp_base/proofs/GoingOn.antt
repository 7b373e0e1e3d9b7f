-- How the search goes on, step by step.
use Rattle.std.proofs.Common.{◌≡◌, ◌≢◌, ◌⊎◌, inl, inr, ℕ, ◌<◌, ◌≤◌, Bool, true, false, not, List, [], ◌∷◌, ◌++◌, length, refl, sym, ap, ◌∙◌, subst, arith, Some, None, Contains}
use Rattle.std.proofs.lemmas.Bool.{cases_Bool, false≢true}
use Rattle.sat_words.specs.Literal.{Literal, opposite}
use Rattle.sat_words.specs.Clause.{has}
use Rattle.sat_words.proofs.Members.{opposite-opposite}
use Rattle.rup_model.proofs.Lists.{In, Contains_In}
use Rattle.simp_base.specs.Tables.{IsUnit}
use Rattle.simp_base.specs.Hinting.{lit_at, reason_at, IsTrueBy, IsUp, IsTrail, IsFalsified}
use Rattle.simp_base.specs.Search.{true_set, IsSettled, Forces, IsWaiting, GoesOn, WereLookedAt}
use Rattle.simp_base.specs.declared.hints.trail.Step.{Step}
use Rattle.simp_base.proofs.TrailTables.{step_before, step_last, one_longer, before_or_last}
use Rattle.simp_base.proofs.TrueSet.{true_by, by_unit, by_place, grown, new_true, still_open}

pub goes_on_same : (cells : List (ℕ × List Literal)) (steps : List Step) → GoesOn cells steps steps
goes_on_same cells steps = record { longer = omega arith; trail = λ start t. t; waits = λ h c le w. w }

pub goes_on_along : (cells : List (ℕ × List Literal)) (a b c : List Step) → GoesOn cells a b → GoesOn cells b c → GoesOn cells a c
goes_on_along cells a b c f g = record {
  longer = (let m = f.longer in let n = g.longer in omega arith);
  trail = λ start t. g.trail start (f.trail start t);
  waits = λ h d le w. g.waits h d (let m = f.longer in omega arith) (f.waits h d le w);
}

-- of one variable two literals are one, or the one is the opposite of the other
pub one_or_opposite : (k l : Literal) → k.var ≡ l.var → (k ≡ l) ⊎ (k ≡ opposite l)
one_or_opposite k l e = by k.neg l.neg refl refl
  where
    by : (a b : Bool) → k.neg ≡ a → l.neg ≡ b → (k ≡ l) ⊎ (k ≡ opposite l)
    by true true p q = inl (λ i. record { var = e i; neg = (p ∙ sym q) i })
    by false false p q = inl (λ i. record { var = e i; neg = (p ∙ sym q) i })
    by true false p q = inr (λ i. record { var = e i; neg = (p ∙ sym (ap not q)) i })
    by false true p q = inr (λ i. record { var = e i; neg = (p ∙ sym (ap not q)) i })

module _ (cells : List (ℕ × List Literal)) (steps : List Step) (s : Step) where
  lit_before : (p : ℕ) → p < length steps → lit_at (steps ++ s ∷ []) p ≡ lit_at steps p
  lit_before p lt = ap (λ (x : Step). x.lit) (step_before steps s p lt)

  reason_before : (p : ℕ) → p < length steps → reason_at (steps ++ s ∷ []) p ≡ reason_at steps p
  reason_before p lt = ap (λ (x : Step). x.reason) (step_before steps s p lt)

  lit_last : (p : ℕ) → p ≡ length steps → lit_at (steps ++ s ∷ []) p ≡ s.lit
  lit_last p e = ap (λ j. lit_at (steps ++ s ∷ []) j) e ∙ ap (λ (x : Step). x.lit) (step_last steps s)

  reason_last : (p : ℕ) → p ≡ length steps → reason_at (steps ++ s ∷ []) p ≡ s.reason
  reason_last p e = ap (λ j. reason_at (steps ++ s ∷ []) j) e ∙ ap (λ (x : Step). x.reason) (step_last steps s)

  still_true : (bound : ℕ) (l : Literal) → bound ≤ length steps → IsTrueBy cells steps bound l → IsTrueBy cells (steps ++ s ∷ []) bound l
  still_true bound l le (inl u) = inl u
  still_true bound l le (inr t) = let b = t.before in inr (record { place = t.place; before = t.before; true_there = lit_before t.place (omega arith) ∙ t.true_there })

  -- a clause that needed no look needs none, but for the new step
  pub waits_more : (h : ℕ) (c : List Literal) → h ≤ length steps → IsWaiting cells steps h c → IsWaiting cells (steps ++ s ∷ []) h c
  waits_more h c le (inl w) = elim (cases_Bool (has c (opposite s.lit))) as (λ _. IsWaiting cells (steps ++ s ∷ []) h c) [
    | inl y ↦ inr (record {
      place = length steps;
      not_before = le;
      inside = (let n = one_longer steps s in omega arith);
      has_false = subst (λ l. has c (opposite l) ≡ true) (sym (lit_last (length steps) refl)) y;
    })
    | inr n ↦ inl (settled n w)
  ]
    where
      apart : has c (opposite s.lit) ≡ false → (k : Literal) → has c k ≡ true → s.lit ≡ opposite k → ⊥
      apart n k i e = false≢true (sym n ∙ ap (λ (l : Literal). has c (opposite l)) e ∙ ap (has c) (opposite-opposite k) ∙ i)

      settled : has c (opposite s.lit) ≡ false → IsSettled (true_set cells steps) c → IsSettled (true_set cells (steps ++ s ∷ [])) c
      settled n (inl t) = inl (record { lit = t.lit; there = t.there; is_true = grown cells steps s t.lit t.is_true })
      settled n (inr t) = inr (record {
        first = t.first;
        second = t.second;
        differ = t.differ;
        has_first = t.has_first;
        has_second = t.has_second;
        open_first = still_open cells steps s (opposite t.first) t.open_first (apart n t.first t.has_first);
        open_second = still_open cells steps s (opposite t.second) t.open_second (apart n t.second t.has_second);
      })
  waits_more h c le (inr p) = let b = p.inside in inr (record {
    place = p.place;
    not_before = p.not_before;
    inside = (let n = one_longer steps s in omega arith);
    has_false = subst (λ l. has c (opposite l) ≡ true) (sym (lit_before p.place p.inside)) p.has_false;
  })

  -- a step whose literal the clause with this number forces
  module _ (number : ℕ) (reason : s.reason ≡ Some number) (clause : List Literal) (there : Contains cells (number, clause)) (f : Forces (true_set cells steps) clause s.lit) where
    -- no step and no unit has its variable
    no_value : (l : Literal) → l.var ≡ s.lit.var → true_set cells steps l ≡ true → ⊥
    no_value l e t = elim (one_or_opposite l s.lit e) as (λ _. ⊥) [
      | inl q ↦ false≢true (sym f.yet ∙ ap (true_set cells steps) (sym q) ∙ t)
      | inr q ↦ false≢true (sym f.open_yet ∙ ap (true_set cells steps) (sym q) ∙ t)
    ]

    same_some : (n : ℕ) → Some number ≡ Some n → number ≡ n
    same_some n e = cc

    is_up : IsUp cells (steps ++ s ∷ []) (length steps) number
    is_up = record {
      clause = clause;
      there = there;
      has_lit = subst (λ l. has clause l ≡ true) (sym (lit_last (length steps) refl)) f.has_lit;
      others = λ k i. elim (f.others k i) as (λ _. (k ≡ lit_at (steps ++ s ∷ []) (length steps)) ⊎ IsTrueBy cells (steps ++ s ∷ []) (length steps) (opposite k)) [
        | inl e ↦ inl (e ∙ sym (lit_last (length steps) refl))
        | inr t ↦ inr (still_true (length steps) (opposite k) (omega arith) (true_by cells steps (opposite k) t))
      ];
    }

    module _ (start : Literal → Bool) (t : IsTrail cells start steps) where
      given_more : (p : ℕ) → (p < length steps) ⊎ (p ≡ length steps) → reason_at (steps ++ s ∷ []) p ≡ None → start (lit_at (steps ++ s ∷ []) p) ≡ true
      given_more p (inl lt) e = ap start (lit_before p lt) ∙ t.given p lt (sym (reason_before p lt) ∙ e)
      given_more p (inr q) e = let z : Some number ≡ None = sym reason ∙ sym (reason_last p q) ∙ e in absurd (cc)

      up_more : (p n : ℕ) → (p < length steps) ⊎ (p ≡ length steps) → reason_at (steps ++ s ∷ []) p ≡ Some n → IsUp cells (steps ++ s ∷ []) p n
      up_more p n (inl lt) e =
          let u = t.up p n lt (sym (reason_before p lt) ∙ e) in
          record {
            clause = u.clause;
            there = u.there;
            has_lit = subst (λ l. has u.clause l ≡ true) (sym (lit_before p lt)) u.has_lit;
            others = λ k i. elim (u.others k i) as (λ _. (k ≡ lit_at (steps ++ s ∷ []) p) ⊎ IsTrueBy cells (steps ++ s ∷ []) p (opposite k)) [
              | inl q ↦ inl (q ∙ sym (lit_before p lt))
              | inr b ↦ inr (still_true p (opposite k) (omega arith) b)
            ];
          }
      up_more p n (inr q) e = subst (λ j. IsUp cells (steps ++ s ∷ []) j n) (sym q)
          (subst (IsUp cells (steps ++ s ∷ []) (length steps)) (same_some n (sym reason ∙ sym (reason_last p q) ∙ e)) is_up)

      apart_more : (p n : ℕ) → (p < length steps) ⊎ (p ≡ length steps) → reason_at (steps ++ s ∷ []) p ≡ Some n → (u : Literal) → IsUnit cells u → u.var ≢ (lit_at (steps ++ s ∷ []) p).var
      apart_more p n (inl lt) e u is q = t.apart p n lt (sym (reason_before p lt) ∙ e) u is (q ∙ ap (λ (l : Literal). l.var) (lit_before p lt))
      apart_more p n (inr q) e u is v = no_value u (v ∙ ap (λ (l : Literal). l.var) (lit_last p q)) (by_unit cells steps u is)

      new_apart : (p : ℕ) → p < length steps → (lit_at steps p).var ≡ s.lit.var → ⊥
      new_apart p lt e = no_value (lit_at steps p) e (by_place cells steps (lit_at steps p) p lt refl)

      distinct_more : (p q : ℕ) → (p < length steps) ⊎ (p ≡ length steps) → (q < length steps) ⊎ (q ≡ length steps) → (lit_at (steps ++ s ∷ []) p).var ≡ (lit_at (steps ++ s ∷ []) q).var → p ≡ q
      distinct_more p q (inl a) (inl b) e = t.distinct p q a b (sym (ap (λ (l : Literal). l.var) (lit_before p a)) ∙ e ∙ ap (λ (l : Literal). l.var) (lit_before q b))
      distinct_more p q (inl a) (inr b) e = absurd (new_apart p a (sym (ap (λ (l : Literal). l.var) (lit_before p a)) ∙ e ∙ ap (λ (l : Literal). l.var) (lit_last q b)))
      distinct_more p q (inr a) (inl b) e = absurd (new_apart q b (sym (ap (λ (l : Literal). l.var) (lit_before q b)) ∙ sym e ∙ ap (λ (l : Literal). l.var) (lit_last p a)))
      distinct_more p q (inr a) (inr b) e = a ∙ sym b

      trail_more : IsTrail cells start (steps ++ s ∷ [])
      trail_more = record {
        given = λ p lt e. given_more p (before_or_last steps s p lt) e;
        all = λ l i. (let a = t.all l i in let n = one_longer steps s in (a.0, omega (arith, a.1, n), reason_before a.0 a.1 ∙ a.2, lit_before a.0 a.1 ∙ a.3));
        up = λ p n lt e. up_more p n (before_or_last steps s p lt) e;
        apart = λ p n lt e. apart_more p n (before_or_last steps s p lt) e;
        distinct = λ p q a b e. distinct_more p q (before_or_last steps s p a) (before_or_last steps s q b) e;
      }

    pub goes_on_more : GoesOn cells steps (steps ++ s ∷ [])
    goes_on_more = record {
      longer = (let n = one_longer steps s in omega arith);
      trail = trail_more;
      waits = waits_more;
    }

    -- the clause is settled now
    pub settled_now : IsSettled (true_set cells (steps ++ s ∷ [])) clause
    settled_now = inl (record { lit = s.lit; there = f.has_lit; is_true = new_true cells steps s })

-- a clause all of whose literals are false
pub falsified_at : (cells : List (ℕ × List Literal)) (steps : List Step) (number : ℕ) (c : List Literal) → Contains cells (number, c)
    → ((k : Literal) → has c k ≡ true → true_set cells steps (opposite k) ≡ true) → IsFalsified cells steps number
falsified_at cells steps number c there all = record { clause = c; there = there; all_false = λ k i. true_by cells steps (opposite k) (all k i) }

-- pending from further on is pending
pub waits_from : (cells : List (ℕ × List Literal)) (steps : List Step) (h g : ℕ) (c : List Literal) → h ≤ g → IsWaiting cells steps g c → IsWaiting cells steps h c
waits_from cells steps h g c le (inl w) = inl w
waits_from cells steps h g c le (inr p) = let b = p.not_before in inr (record { place = p.place; not_before = omega arith; inside = p.inside; has_false = p.has_false })

-- a clause that was looked at, and is settled
pub looked_at_one : (cells : List (ℕ × List Literal)) (old new : List Step) (number : ℕ) → GoesOn cells old new → ((c : List Literal) → Contains cells (number, c) → IsSettled (true_set cells new) c)
    → WereLookedAt cells old new (number ∷ []) None
looked_at_one cells old new number g settled = record {
  goes_on = g;
  ends = λ n c i h. inl (settled c (subst (λ (m : ℕ). Contains cells (m, c)) (sym (only n (Contains_In (number ∷ []) n i))) h));
}
  where
    only : (n : ℕ) → In n (number ∷ []) → number ≡ n
    only n (inl e) = e
    only n (inr i) = absurd i
