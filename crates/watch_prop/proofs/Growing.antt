-- A trail that grows keeps what is satisfied, guarded and watched.
use Rattle.std.proofs.Common.{◌≡◌, ℕ, zero, suc, ◌<◌, ◌≤◌, ◌-◌, ◌⊎◌, List, [], ◌∷◌, ◌++◌, length, Some, sym, refl, ap, subst, ◌∙◌, inl, inr, arith, Contains}
use Rattle.std.proofs.lemmas.Bool.{cases_lt}
use Rattle.std.proofs.lemmas.List.{length-append, get_or_append_left, get_or-append_right, append-nil, append_assoc}
use Rattle.std.proofs.lemmas.List.Elements.{All-append, All-cons, All-nil}
use Rattle.sat_words.specs.Literal.{Literal, opposite}
use Rattle.sat_words.specs.declared.shared.Cref.{Cref}
use Rattle.sat_words.proofs.Members.{opposite-opposite}
use Rattle.rup_model.proofs.Lists.{In_map, map_In, Contains_In, In_Contains}
use Rattle.ring_trail.specs.declared.step.TrailStep.{TrailStep}
use Rattle.ring_trail.specs.TrailData.{TrailData, HasGrown, IsTrail, IsTrueOn, IsFalseOn, no_step, step_at, lit_at, level_at}
use Rattle.ring_trail.specs.Closed.{TrueWithin, HasTrue, IsClosedClause, IsClosed}
use Rattle.watch_prop.specs.declared.watch.Watch.{Watch}
use Rattle.watch_prop.specs.declared.watch.Watcher.{Watcher}
use Rattle.watch_prop.specs.WatchData.{WatchData, Lits, attached, clauses_of}
use Rattle.watch_prop.specs.Watched.{At, IsPair, IsGuarded, IsSettled, Watched}
use Rattle.watch_prop.specs.Visiting.{NotFalse}
use Rattle.watch_prop.proofs.ListsLemmas.{cases_eq, cases_lit}
use Rattle.watch_prop.proofs.SlotsLemmas.{slot_in, slot_of}

-- Steps

pub step_grown : (steps more : List TrailStep) (p : ℕ) → p < length steps → step_at (steps ++ more) p ≡ step_at steps p
step_grown steps more p h = get_or_append_left steps more no_step p h

pub TrueWithin-grow : (steps more : List TrailStep) (k : ℕ) (l : Literal) → TrueWithin steps k l → TrueWithin (steps ++ more) k l
TrueWithin-grow steps more k l h =
    let e = step_grown steps more h.place h.in_range in
    record {
      place = h.place;
      in_range = omega (arith, h.in_range, length-append steps more);
      true_there = ap (λ (s : TrailStep). s.lit) e ∙ h.true_there;
      level = omega (arith, h.level, ap (λ (s : TrailStep). s.level) e);
    }

pub TrueWithin-higher : (steps : List TrailStep) (k m : ℕ) (l : Literal) → k ≤ m → TrueWithin steps k l → TrueWithin steps m l
TrueWithin-higher steps k m l le h = record { place = h.place; in_range = h.in_range; true_there = h.true_there; level = omega (arith, h.level) }

pub HasTrue-grow : (steps more : List TrailStep) (k : ℕ) (c : List Literal) → HasTrue steps k c → HasTrue (steps ++ more) k c
HasTrue-grow steps more k c h = record { lit = h.lit; has_lit = h.has_lit; within = TrueWithin-grow steps more k h.lit h.within }

pub HasTrue-higher : (steps : List TrailStep) (k m : ℕ) (c : List Literal) → k ≤ m → HasTrue steps k c → HasTrue steps m c
HasTrue-higher steps k m c le h = record { lit = h.lit; has_lit = h.has_lit; within = TrueWithin-higher steps k m h.lit le h.within }

pub FalseOn-grow : (t u : TrailData) (l : Literal) → HasGrown t u → IsFalseOn t.steps l → IsFalseOn u.steps l
FalseOn-grow t u l g h =
    let e = step_grown t.steps g.more h.place h.before in
    rw g.steps record { place = h.place; before = omega (arith, h.before, length-append t.steps g.more); false_there = ap (λ (s : TrailStep). s.lit) e ∙ h.false_there }

-- what is true on a trail is so at its level
pub TrueOn-within : (t : TrailData) (l : Literal) → IsTrail t → IsTrueOn t.steps l → TrueWithin t.steps t.level l
TrueOn-within t l trail h = record { place = h.place; in_range = h.before; true_there = h.true_there; level = trail.within h.place h.before }

-- Guards

pub IsGuarded-grow : (steps more : List TrailStep) (n : ℕ) (c : List Literal) (l : Literal) → n ≤ length steps → IsGuarded steps n c l → IsGuarded (steps ++ more) n c l
IsGuarded-grow steps more n c l le g p lt q =
    let e = step_grown steps more p (omega arith) in
    subst (λ (s : TrailStep). HasTrue (steps ++ more) s.level c) (sym e) (HasTrue-grow steps more (level_at steps p) c (g p lt (ap (λ (s : TrailStep). s.lit) (sym e) ∙ q)))

pub IsGuarded-open : (steps : List TrailStep) (n : ℕ) (c : List Literal) (l : Literal) → n ≤ length steps → NotFalse steps l → IsGuarded steps n c l
IsGuarded-open steps n c l le open_lit p lt q = absurd (open_lit record { place = p; before = omega arith; false_there = q })

pub IsSettled-grow : (lists : List (List Watcher)) (steps more : List TrailStep) (n : ℕ) (c : List Literal) (i : ℕ) (s : Watch) → n ≤ length steps → IsSettled lists steps n c i s → IsSettled lists (steps ++ more) n c i s
IsSettled-grow lists steps more n c i s le h = record {
  first_listed = h.first_listed;
  second_listed = h.second_listed;
  first_guarded = IsGuarded-grow steps more n c s.first le h.first_guarded;
  second_guarded = IsGuarded-grow steps more n c s.second le h.second_guarded;
}

pub Watched-grow : (w : WatchData) (lits : Lits) (t u : TrailData) → t.done ≤ length t.steps → Watched w lits t → HasGrown t u → u.done ≡ t.done → Watched w lits u
Watched-grow w lits t u le k g d = record {
  vars = g.vars ∙ k.vars;
  few = k.few;
  clauses = k.clauses;
  pairs = k.pairs;
  settled = λ i s lt at. rw (g.steps, d) (IsSettled-grow w.lists t.steps g.more t.done (lits s.clause.address) i s le (k.settled i s lt at));
  blocking = k.blocking;
  fresh = λ p ge lt.
      let lt' : p < length (t.steps ++ g.more) = subst (λ (xs : List TrailStep). p < length xs) g.steps lt in
      subst (λ (xs : List TrailStep). level_at xs p ≡ u.level) (sym g.steps)
      (elim (cases_lt p (length t.steps)) as (λ _. level_at (t.steps ++ g.more) p ≡ u.level) [
        | inl before ↦ ap (λ (s : TrailStep). s.level) (step_grown t.steps g.more p before) ∙ k.fresh p (omega (arith, d)) before ∙ sym g.level
        | inr past ↦ ap (λ (s : TrailStep). s.level) (get_or-append_right t.steps g.more (length t.steps) p no_step refl past)
            ∙ g.at_level (p - length t.steps) no_step (omega (arith, lt', length-append t.steps g.more)) ∙ sym g.level
      ]);
}

pub opposite-eq : (m l : Literal) → opposite m ≡ opposite l → m ≡ l
opposite-eq m l e = sym (opposite-opposite m) ∙ ap opposite e ∙ opposite-opposite l

-- an attached clause
pub clause_in : (w : WatchData) (i : ℕ) (s : Watch) → At w.slots i (Some s) → Contains (attached w) s.clause
clause_in w i s at = slot_in w.slots i s at

pub clause_of : (w : WatchData) (lits : Lits) (i : ℕ) (s : Watch) → At w.slots i (Some s) → Contains (clauses_of w lits) (lits s.clause.address)
clause_of w lits i s at =
    In_Contains (clauses_of w lits) (lits s.clause.address)
    (In_map (λ (c : Cref). lits c.address) (attached w) s.clause (Contains_In (attached w) s.clause (clause_in w i s at)))

-- the watch of an attached clause
pub watch_of : (w : WatchData) (c : Cref) → Contains (attached w) c → (i : ℕ) × (s : Watch) × At w.slots i (Some s) × (s.clause ≡ c)
watch_of w c there = slot_of w.slots c there

-- Closed

-- a literal is made true at a level of at most k, or by no step
search : (steps : List TrailStep) (k : ℕ) (l : Literal) (n : ℕ) → n ≤ length steps → TrueWithin steps k l ⊎ ((p : ℕ) → p < n → lit_at steps p ≡ l → k < level_at steps p)
search steps k l zero le = inr (λ p lt q. absurd (omega arith))
search steps k l (suc n) le =
    elim (search steps k l n (omega arith)) as (λ _. TrueWithin steps k l ⊎ ((p : ℕ) → p < suc n → lit_at steps p ≡ l → k < level_at steps p)) [
      | inl t ↦ inl t
      | inr none ↦ elim (cases_lt k (level_at steps n)) as (λ _. TrueWithin steps k l ⊎ ((p : ℕ) → p < suc n → lit_at steps p ≡ l → k < level_at steps p)) [
        | inl above ↦ inr (λ p lt q. elim (cases_eq p n) as (λ _. k < level_at steps p) [
          | inl e ↦ subst (λ (m : ℕ). k < level_at steps m) (sym e) above
          | inr ne ↦ none p (omega arith) q
        ])
        | inr low ↦ elim (cases_lit (lit_at steps n) l) as (λ _. TrueWithin steps k l ⊎ ((p : ℕ) → p < suc n → lit_at steps p ≡ l → k < level_at steps p)) [
          | inl made ↦ inl record { place = n; in_range = omega arith; true_there = made; level = low }
          | inr other ↦ inr (λ p lt q. elim (cases_eq p n) as (λ _. k < level_at steps p) [
            | inl e ↦ absurd (other (subst (λ (m : ℕ). lit_at steps m ≡ l) e q))
            | inr ne ↦ none p (omega arith) q
          ])
        ]
      ]
    ]

pub cases_TrueWithin : (steps : List TrailStep) (k : ℕ) (l : Literal) → TrueWithin steps k l ⊎ (TrueWithin steps k l → ⊥)
cases_TrueWithin steps k l = elim (search steps k l (length steps) (omega arith)) as (λ _. TrueWithin steps k l ⊎ (TrueWithin steps k l → ⊥)) [
  | inl t ↦ inl t
  | inr none ↦ inr (λ t. let q = none t.place t.in_range t.true_there in let r = t.level in omega arith)
]

-- what a guarded literal that is false gives
guard_true : (t : TrailData) (k : ℕ) (c : List Literal) (l : Literal) → IsGuarded t.steps t.done c l → ((p : ℕ) → p < length t.steps → level_at t.steps p ≤ k → p < t.done) → TrueWithin t.steps k (opposite l) → HasTrue t.steps k c
guard_true t k c l g seen f = HasTrue-higher t.steps (level_at t.steps f.place) k c f.level (g f.place (seen f.place f.in_range f.level) f.true_there)

closed_watch : (lists : List (List Watcher)) (t : TrailData) (k : ℕ) (c : List Literal) (i : ℕ) (s : Watch) → IsPair c s → IsSettled lists t.steps t.done c i s → ((p : ℕ) → p < length t.steps → level_at t.steps p ≤ k → p < t.done) → IsClosedClause c t.steps k
closed_watch lists t k c i s pair z seen =
    elim (cases_TrueWithin t.steps k (opposite s.first)) as (λ _. IsClosedClause c t.steps k) [
      | inl f ↦ inl (guard_true t k c s.first z.first_guarded seen f)
      | inr first_open ↦ elim (cases_TrueWithin t.steps k (opposite s.second)) as (λ _. IsClosedClause c t.steps k) [
        | inl f ↦ inl (guard_true t k c s.second z.second_guarded seen f)
        | inr second_open ↦ inr record { one = s.first; other = s.second; has_one = pair.first; has_other = pair.second; differ = pair.apart; one_open = first_open; other_open = second_open }
      ]
    ]

-- at a level whose steps were all propagated, each attached clause is closed, once all are settled
pub closed_at : (w : WatchData) (lits : Lits) (t : TrailData) (k : ℕ) → Watched w lits t → w.settled ≡ length w.slots → ((p : ℕ) → p < length t.steps → level_at t.steps p ≤ k → p < t.done)
    → IsClosed (clauses_of w lits) t.steps k
closed_at w lits t k v all seen c there =
    let m = map_In (λ (x : Cref). lits x.address) (attached w) c (Contains_In (clauses_of w lits) c there) in
    let z = watch_of w m.0 (In_Contains (attached w) m.0 m.1) in
    let e : lits z.1.clause.address ≡ c = ap (λ (x : Cref). lits x.address) z.3 ∙ m.2 in
    let at = z.2 in
    subst (λ (d : List Literal). IsClosedClause d t.steps k) e (closed_watch w.lists t k (lits z.1.clause.address) z.0 z.1 (v.pairs z.0 z.1 at) (v.settled z.0 z.1 (omega (arith, all, at.0)) at) seen)

-- Growth

pub HasGrown-refl : (t : TrailData) → HasGrown t t
HasGrown-refl t = record { vars = refl; level = refl; more = []; steps = sym (append-nil t.steps); at_level = λ k d h. absurd (omega arith) }

pub HasGrown-trans : (t u v : TrailData) → HasGrown t u → HasGrown u v → HasGrown t v
HasGrown-trans t u v p q = record {
  vars = q.vars ∙ p.vars;
  level = q.level ∙ p.level;
  more = p.more ++ q.more;
  steps = q.steps ∙ ap (λ (ss : List TrailStep). ss ++ q.more) p.steps ∙ append_assoc t.steps p.more q.more;
  at_level = All-append (λ (x : TrailStep). x.level ≡ t.level) p.more q.more p.at_level (λ k d h. q.at_level k d h ∙ p.level);
}

-- a step at the present level
pub HasGrown-step : (t u : TrailData) (s : TrailStep) → u ≡ record t { level = s.level; steps = t.steps ++ s ∷ [] } → s.level ≡ t.level → HasGrown t u
HasGrown-step t u s e l = record {
  vars = ap (λ (x : TrailData). x.vars) e;
  level = ap (λ (x : TrailData). x.level) e ∙ l;
  more = s ∷ [];
  steps = ap (λ (x : TrailData). x.steps) e;
  at_level = All-cons (λ (x : TrailStep). x.level ≡ t.level) s [] l (All-nil (λ (x : TrailStep). x.level ≡ t.level));
}

pub HasGrown-advance_head : (t u : TrailData) (n : ℕ) → HasGrown t u → HasGrown t record u { done = n }
HasGrown-advance_head t u n g = record { vars = g.vars; level = g.level; more = g.more; steps = g.steps; at_level = g.at_level }

pub HasGrown-longer : (t u : TrailData) → HasGrown t u → length t.steps ≤ length u.steps
HasGrown-longer t u g = omega (arith, ap (λ (xs : List TrailStep). length xs) g.steps, length-append t.steps g.more)
