-- Causes look back only, so they stay if the trail grows or is cut.
use Rattle.std.proofs.Common.{◌≡◌, ◌∙◌, ℕ, zero, suc, ◌+◌, ◌<◌, ◌≤◌, true, List, [], ◌∷◌, ◌++◌, length, take, Option, None, Some, sym, refl, ap, subst, inl, inr, ◌⊎◌, arith, length-append, length-take, All, append_assoc, append-nil}
use Rattle.std.proofs.lemmas.Bool.{cases_eq, cases_lt}
use Rattle.std.proofs.lemmas.List.{get_or-take, get_or_append_left, get_or_push}
use Rattle.sat_words.specs.Literal.{Literal, opposite}
use Rattle.sat_words.specs.Clause.{has}
use Rattle.sat_words.specs.declared.shared.Cref.{Cref}
use Rattle.ring_trail.specs.declared.step.TrailStep.{TrailStep}
use Rattle.ring_trail.specs.TrailData.{TrailData, IsTrail, FalseBefore, no_step, step_at, lit_at, level_at, decided, assigned, cut_back}
use Rattle.ring_trail.specs.Reasoned.{Held, ForcesAt, WasUnit, IsForced, IsSeen, IsDecision, IsReasoned, KeepsReasons}
use Rattle.ring_trail.specs.Closed.{TrueWithin, IsClosedClause, IsClosed}
use Rattle.ring_trail.proofs.Levels.{up_to-take}

-- two lists of steps that agree up to a place
module _ (t r : List TrailStep) (p : ℕ) (agree : (q : ℕ) → q ≤ p → step_at t q ≡ step_at r q) where
  lit_agree : (q : ℕ) → q ≤ p → lit_at t q ≡ lit_at r q
  lit_agree q h = ap (λ (s : TrailStep). s.lit) (agree q h)

  level_agree : (q : ℕ) → q ≤ p → level_at t q ≡ level_at r q
  level_agree q h = ap (λ (s : TrailStep). s.level) (agree q h)

  FalseBefore-agree : (k : Literal) → FalseBefore t p k → FalseBefore r p k
  FalseBefore-agree k f = record {
    place = f.place;
    before = f.before;
    false_there = sym (lit_agree f.place (let b = f.before in omega arith)) ∙ f.false_there;
  }

  WasUnit-agree : (c : List Literal) → WasUnit t p c → WasUnit r p c
  WasUnit-agree c u = record {
    has_lit = ap (has c) (sym (lit_agree p (omega arith))) ∙ u.has_lit;
    others = λ k h. elim (u.others k h) as (λ _. (k ≡ lit_at r p) ⊎ FalseBefore r p k) [
      | inl e ↦ inl (e ∙ lit_agree p (omega arith))
      | inr f ↦ inr (FalseBefore-agree k f)
    ];
  }

  IsSeen-agree : (seen : List Literal) → IsSeen seen t p → IsSeen seen r p
  IsSeen-agree seen z = record {
    level = sym (level_agree p (omega arith)) ∙ z.level;
    seen_is = ap (has seen) (sym (lit_agree p (omega arith))) ∙ z.seen_is;
  }

  Caused-agree : (held : Held) (seen : List Literal) → IsForced held t p ⊎ (IsSeen seen t p ⊎ IsDecision t p) → IsForced held r p ⊎ (IsSeen seen r p ⊎ IsDecision r p)
  Caused-agree held seen (inl f) = inl (record {
    reason = f.reason;
    lits = f.lits;
    reason_is = ap (λ (s : TrailStep). s.reason) (sym (agree p (omega arith))) ∙ f.reason_is;
    held_is = f.held_is;
    unit = WasUnit-agree f.lits f.unit;
  })
  Caused-agree held seen (inr (inl z)) = inr (inl (IsSeen-agree seen z))
  Caused-agree held seen (inr (inr o)) = inr (inr (record {
    none = ap (λ (s : TrailStep). s.reason) (sym (agree p (omega arith))) ∙ o.none;
    above = (let e = level_agree p (omega arith) in let a = o.above in omega arith);
    first = λ q h. (let e = level_agree p (omega arith) in let d = level_agree q (omega arith) in let a = o.first q h in omega arith);
  }))

step-old : (t : List TrailStep) (x : TrailStep) (q : ℕ) → q < length t → step_at t q ≡ step_at (t ++ x ∷ []) q
step-old t x q h = sym (get_or_append_left t (x ∷ []) no_step q h)

step-new : (t : List TrailStep) (x : TrailStep) → step_at (t ++ x ∷ []) (length t) ≡ x
step-new t x = get_or_push t x no_step (length t) refl

-- a step with its cause keeps the reasons
IsReasoned-grown : (held : Held) (seen : List Literal) (t : List TrailStep) (x : TrailStep) → IsReasoned held seen t
    → IsForced held (t ++ x ∷ []) (length t) ⊎ (IsSeen seen (t ++ x ∷ []) (length t) ⊎ IsDecision (t ++ x ∷ []) (length t)) → IsReasoned held seen (t ++ x ∷ [])
IsReasoned-grown held seen t x r new = record {
  caused = λ p h. elim (cases_eq p (length t)) as (λ _. IsForced held (t ++ x ∷ []) p ⊎ (IsSeen seen (t ++ x ∷ []) p ⊎ IsDecision (t ++ x ∷ []) p)) [
    | inl e ↦ subst (λ (q : ℕ). IsForced held (t ++ x ∷ []) q ⊎ (IsSeen seen (t ++ x ∷ []) q ⊎ IsDecision (t ++ x ∷ []) q)) (sym e) new
    | inr ne ↦ (
        let lt : p < length t = omega (arith, length-append t (x ∷ [])) in
        Caused-agree t (t ++ x ∷ []) p (λ q b. step-old t x q (omega arith)) held seen (r.caused p lt))
  ];
}

pub IsReasoned-decided : (held : Held) (seen : List Literal) (t : TrailData) (l : Literal) → IsTrail t → IsReasoned held seen t.steps → IsReasoned held seen (decided t l).steps
IsReasoned-decided held seen t l shape r = IsReasoned-grown held seen t.steps x r (inr (inr (record {
  none = ap (λ (y : TrailStep). y.reason) (step-new t.steps x);
  above = (let e = ap (λ (y : TrailStep). y.level) (step-new t.steps x) in omega arith);
  first = λ q h. (let e = ap (λ (y : TrailStep). y.level) (step-new t.steps x) in let d = ap (λ (y : TrailStep). y.level) (step-old t.steps x q h) in let b = shape.within q h in omega arith);
})))
  where
    x : TrailStep
    x = record { lit = l; level = t.level + 1; reason = None }

pub IsReasoned-forced : (held : Held) (seen : List Literal) (t : TrailData) (l : Literal) (c : Cref) (d : List Literal) → IsReasoned held seen t.steps
    → held c.address ≡ Some d → ForcesAt t.steps (length t.steps) l d → IsReasoned held seen (assigned t l (Some c)).steps
IsReasoned-forced held seen t l c d r is f = IsReasoned-grown held seen t.steps x r (inl (record {
  reason = c;
  lits = d;
  reason_is = ap (λ (y : TrailStep). y.reason) (step-new t.steps x);
  held_is = is;
  unit = record {
    has_lit = ap (has d) (ap (λ (y : TrailStep). y.lit) (step-new t.steps x)) ∙ f.has_lit;
    others = λ k h. elim (f.others k h) as (λ _. (k ≡ lit_at (t.steps ++ x ∷ []) (length t.steps)) ⊎ FalseBefore (t.steps ++ x ∷ []) (length t.steps) k) [
      | inl e ↦ inl (e ∙ ap (λ (y : TrailStep). y.lit) (sym (step-new t.steps x)))
      | inr g ↦ inr (record { place = g.place; before = g.before; false_there = ap (λ (y : TrailStep). y.lit) (sym (step-old t.steps x g.place g.before)) ∙ g.false_there })
    ];
  };
}))
  where
    x : TrailStep
    x = record { lit = l; level = t.level; reason = Some c }

pub IsReasoned-seen : (held : Held) (seen : List Literal) (t : TrailData) (l : Literal) (o : Option Cref) → IsReasoned held seen t.steps
    → t.level ≡ 0 → has seen l ≡ true → IsReasoned held seen (assigned t l o).steps
IsReasoned-seen held seen t l o r z is = IsReasoned-grown held seen t.steps x r (inr (inl (record {
  level = ap (λ (y : TrailStep). y.level) (step-new t.steps x) ∙ z;
  seen_is = ap (has seen) (ap (λ (y : TrailStep). y.lit) (step-new t.steps x)) ∙ is;
})))
  where
    x : TrailStep
    x = record { lit = l; level = t.level; reason = o }

-- the first steps of a list
IsReasoned-take : (held : Held) (seen : List Literal) (t : List TrailStep) (n : ℕ) → IsReasoned held seen t → IsReasoned held seen (take n t)
IsReasoned-take held seen t n r = record {
  caused = λ p h.
      (let lt : p < n = omega (arith, length-take n t) in
      let in_t : p < length t = omega (arith, length-take n t) in
      let same : (q : ℕ) → q ≤ p → step_at t q ≡ step_at (take n t) q = λ q b. sym (get_or-take n t q no_step (omega arith)) in
      Caused-agree t (take n t) p same held seen (r.caused p in_t));
}

-- the steps up to a level are the first ones, as many as there are below the next level
firsts : (steps : List TrailStep) (k : ℕ) → ((p q : ℕ) → p ≤ q → q < length steps → level_at steps p ≤ level_at steps q)
    → (n : ℕ) × (n ≤ length steps) × ((p : ℕ) → p < n → level_at steps p ≤ k) × ((p : ℕ) → n ≤ p → p < length steps → k < level_at steps p)
firsts steps k rising = by (length steps) (omega arith) (λ p h l. absurd (omega arith))
  where
    by : (n : ℕ) → n ≤ length steps → ((p : ℕ) → n ≤ p → p < length steps → k < level_at steps p)
        → (n : ℕ) × (n ≤ length steps) × ((p : ℕ) → p < n → level_at steps p ≤ k) × ((p : ℕ) → n ≤ p → p < length steps → k < level_at steps p)
    by zero le above = (0, le, (λ p h. absurd (omega arith)), above)
    by (suc n) le above =
        elim (cases_lt k (level_at steps n)) as (λ _. (n : ℕ) × (n ≤ length steps) × ((p : ℕ) → p < n → level_at steps p ≤ k) × ((p : ℕ) → n ≤ p → p < length steps → k < level_at steps p)) [
          | inl l ↦ by n (omega arith) (λ p h q. elim (cases_eq p n) as (λ _. k < level_at steps p) [
            | inl e ↦ subst (λ (m : ℕ). k < level_at steps m) (sym e) l
            | inr ne ↦ above p (omega arith) q
          ])
          | inr ge ↦ (suc n, le, (λ p h. let a = rising p n (omega arith) (omega arith) in omega arith), above)
        ]

pub IsReasoned-back : (held : Held) (seen : List Literal) (t : TrailData) (k : ℕ) → IsTrail t → IsReasoned held seen t.steps → IsReasoned held seen (cut_back t k).steps
IsReasoned-back held seen t k shape r =
    let f = firsts t.steps k shape.rising in
    subst (λ (s : List TrailStep). IsReasoned held seen s) (sym (up_to-take k t.steps f.0 (λ p a b. f.2 p a) (λ p a b. f.3 p a b)))
    (IsReasoned-take held seen t.steps f.0 r)

pub IsReasoned-held : (held more : Held) (seen told : List Literal) (steps : List TrailStep) → IsReasoned held seen steps → KeepsReasons held more told steps
    → ((l : Literal) → has seen l ≡ true → has told l ≡ true) → IsReasoned more told steps
IsReasoned-held held more seen told steps r keeps grows = record { caused = λ p h. by p h (r.caused p h) }
  where
    by : (p : ℕ) → p < length steps → IsForced held steps p ⊎ (IsSeen seen steps p ⊎ IsDecision steps p) → IsForced more steps p ⊎ (IsSeen told steps p ⊎ IsDecision steps p)
    by p h (inl f) = elim (keeps p f.reason f.lits h f.reason_is f.held_is) as (λ _. IsForced more steps p ⊎ (IsSeen told steps p ⊎ IsDecision steps p)) [
      | inl is ↦ inl (record { reason = f.reason; lits = f.lits; reason_is = f.reason_is; held_is = is; unit = f.unit })
      | inr z ↦ inr (inl z)
    ]
    by p h (inr (inl z)) = inr (inl (record { level = z.level; seen_is = grows (lit_at steps p) z.seen_is }))
    by p h (inr (inr o)) = inr (inr o)

-- two lists of steps with the same literals at levels up to k
IsClosed-same : (cs : List (List Literal)) (t r : List TrailStep) (k : ℕ) → ((l : Literal) → TrueWithin t k l → TrueWithin r k l) → ((l : Literal) → TrueWithin r k l → TrueWithin t k l)
    → IsClosed cs t k → IsClosed cs r k
IsClosed-same cs t r k to from closed c there = by (closed c there)
  where
    by : IsClosedClause c t k → IsClosedClause c r k
    by (inl h) = inl (record { lit = h.lit; has_lit = h.has_lit; within = to h.lit h.within })
    by (inr o) = inr (record {
      one = o.one;
      other = o.other;
      has_one = o.has_one;
      has_other = o.has_other;
      differ = o.differ;
      one_open = λ w. o.one_open (from (opposite o.one) w);
      other_open = λ w. o.other_open (from (opposite o.other) w);
    })

within-grown : (t : List TrailStep) (x : TrailStep) (k : ℕ) (l : Literal) → TrueWithin t k l → TrueWithin (t ++ x ∷ []) k l
within-grown t x k l w =
    let s = step-old t x w.place w.in_range in
    record {
      place = w.place;
      in_range = (let a = w.in_range in omega (arith, length-append t (x ∷ [])));
      true_there = ap (λ (y : TrailStep). y.lit) (sym s) ∙ w.true_there;
      level = (let e = ap (λ (y : TrailStep). y.level) s in let a = w.level in omega arith);
    }

within-old : (t : List TrailStep) (x : TrailStep) (k : ℕ) (l : Literal) → k < x.level → TrueWithin (t ++ x ∷ []) k l → TrueWithin t k l
within-old t x k l lt w =
    elim (cases_lt w.place (length t)) as (λ _. TrueWithin t k l) [
      | inl h ↦ (
          let s = step-old t x w.place h in
          record {
            place = w.place;
            in_range = h;
            true_there = ap (λ (y : TrailStep). y.lit) s ∙ w.true_there;
            level = (let e = ap (λ (y : TrailStep). y.level) s in let a = w.level in omega arith);
          })
      | inr g ↦ absurd (
          let e : w.place ≡ length t = (let a = w.in_range in omega (arith, length-append t (x ∷ []))) in
          let n = ap (λ (q : ℕ). level_at (t ++ x ∷ []) q) e ∙ ap (λ (y : TrailStep). y.level) (step-new t x) in
          let a = w.level in
          omega arith)
    ]

-- a step at a higher level leaves a level closed
pub IsClosed-grown : (cs : List (List Literal)) (t : List TrailStep) (x : TrailStep) (k : ℕ) → k < x.level → IsClosed cs t k → IsClosed cs (t ++ x ∷ []) k
IsClosed-grown cs t x k lt closed = IsClosed-same cs t (t ++ x ∷ []) k (λ l w. within-grown t x k l w) (λ l w. within-old t x k l lt w) closed

pub IsClosed-back : (cs : List (List Literal)) (t : TrailData) (j k : ℕ) → IsTrail t → j ≤ k → IsClosed cs t.steps j → IsClosed cs (cut_back t k).steps j
IsClosed-back cs t j k shape le closed =
    let f = firsts t.steps k shape.rising in
    subst (λ (s : List TrailStep). IsClosed cs s j) (sym (up_to-take k t.steps f.0 (λ p a b. f.2 p a) (λ p a b. f.3 p a b)))
    (IsClosed-same cs t.steps (take f.0 t.steps) j
    (λ l w.
    let before : w.place < f.0 = (elim (cases_lt w.place f.0) as (λ _. w.place < f.0) [
      | inl h ↦ h
      | inr g ↦ absurd (let a = f.3 w.place g w.in_range in let b = w.level in omega arith)
    ]) in
    let s = get_or-take f.0 t.steps w.place no_step before in
    record {
      place = w.place;
      in_range = (let a = w.in_range in omega (arith, length-take f.0 t.steps));
      true_there = ap (λ (y : TrailStep). y.lit) s ∙ w.true_there;
      level = (let e = ap (λ (y : TrailStep). y.level) s in let a = w.level in omega arith);
    })
    (λ l w.
    let before : w.place < f.0 = (let a = w.in_range in omega (arith, length-take f.0 t.steps)) in
    let s = get_or-take f.0 t.steps w.place no_step before in
    record {
      place = w.place;
      in_range = (let a = w.in_range in omega (arith, length-take f.0 t.steps));
      true_there = ap (λ (y : TrailStep). y.lit) (sym s) ∙ w.true_there;
      level = (let e = ap (λ (y : TrailStep). y.level) s in let a = w.level in omega arith);
    })
    closed)

-- so do several
pub IsClosed-more : (cs : List (List Literal)) (t more : List TrailStep) (k : ℕ) → All (λ (x : TrailStep). k < x.level) more → IsClosed cs t k → IsClosed cs (t ++ more) k
IsClosed-more cs t [] k high closed = subst (λ (xs : List TrailStep). IsClosed cs xs k) (sym (append-nil t)) closed
IsClosed-more cs t (x ∷ more) k high closed =
    subst (λ (xs : List TrailStep). IsClosed cs xs k) (append_assoc t (x ∷ []) more)
    (IsClosed-more cs (t ++ x ∷ []) more k (λ p d h. high (suc p) d (omega arith)) (IsClosed-grown cs t x k (high 0 x (omega arith)) closed))

-- what going back keeps, by place
pub back-kept : (t : TrailData) (k p : ℕ) → IsTrail t → p < length t.steps → level_at t.steps p ≤ k → (p < length (cut_back t k).steps) × (step_at (cut_back t k).steps p ≡ step_at t.steps p)
back-kept t k p shape lt le =
    let f = firsts t.steps k shape.rising in
    let before : p < f.0 = (elim (cases_lt p f.0) as (λ _. p < f.0) [ inl h ↦ h | inr g ↦ absurd (let a = f.3 p g lt in omega arith) ]) in
    subst (λ (s : List TrailStep). (p < length s) × (step_at s p ≡ step_at t.steps p)) (sym (up_to-take k t.steps f.0 (λ q a b. f.2 q a) (λ q a b. f.3 q a b)))
    (omega (arith, length-take f.0 t.steps), get_or-take f.0 t.steps p no_step before)

pub back-only : (t : TrailData) (k p : ℕ) → IsTrail t → p < length (cut_back t k).steps → (p < length t.steps) × (level_at t.steps p ≤ k) × (step_at (cut_back t k).steps p ≡ step_at t.steps p)
back-only t k p shape lt =
    let f = firsts t.steps k shape.rising in
    let e = up_to-take k t.steps f.0 (λ q a b. f.2 q a) (λ q a b. f.3 q a b) in
    let n = ap (λ (s : List TrailStep). length s) e in
    let m = length-take f.0 t.steps in
    let before : p < f.0 = omega arith in
    (omega arith, f.2 p before, ap (λ (s : List TrailStep). step_at s p) e ∙ get_or-take f.0 t.steps p no_step before)
