-- A trail and plain rounds of propagation: what is derived is in the rounds, and what is closed holds them.
use Rattle.std.proofs.Common.{◌≡◌, ◌∙◌, ◌↔◌, ℕ, zero, suc, ◌<◌, Bool, true, false, not, ◌&&◌, ◌||◌, List, [], ◌∷◌, length, map, sym, refl, ap, subst, inl, inr, ◌⊎◌, arith, Contains}
use Rattle.std.specs.List.{list_any, list_all}
use Rattle.std.proofs.lemmas.Bool.{or_left, or_right, or_cases, or_parts, cases_Bool, true≢false, false≢true}
use Rattle.sat_words.specs.Literal.{Literal, opposite, same}
use Rattle.sat_words.specs.Clause.{has}
use Rattle.sat_words.proofs.Members.{same-true, same-refl}
use Rattle.rup_model.specs.Rounds.{falsifies, forces, Rounds}
use Rattle.rup_model.specs.Rup.{conflicts}
use Rattle.rup_model.proofs.Lists.{In, In_any, any_In, In_all, all_In, none_In, has_In, In_has, In_map, map_In, In_get_or, In_append, Contains_In, In_Contains}
use Rattle.rup_model.proofs.RoundsLemmas.{Within, falsifies-Within, forces-parts}
use Rattle.rup_model.proofs.Closed.{Rounds-step, Rounds-has, Rounds-least}
use Rattle.ring_trail.specs.declared.step.TrailStep.{TrailStep}
use Rattle.ring_trail.specs.TrailData.{TrailData, IsTrail, IsTrueOn, IsFalseOn, IsFalseClause, HasNoPlace, no_step, step_at, lit_at}
use Rattle.ring_trail.specs.Closed.{TrueWithin, IsClosedClause, IsClosed}
use Rattle.ring_trail.proofs.Shape.{same_lit}
use Rattle.watch_prop.specs.Rounds.{with_units, AllTrueOn, IsImplied, IsDerived, IsUnitNow, IsUnfinished}

-- The trail's literals as a test

-- the test whether a literal is true on the trail
on : List TrailStep → Literal → Bool
on steps l = has (map (λ (s : TrailStep). s.lit) steps) l

-- a step of the list stands at some place
pub place_of : (steps : List TrailStep) (s : TrailStep) → In s steps → (p : ℕ) × (p < length steps) × (step_at steps p ≡ s)
place_of [] s h = absurd h
place_of (x ∷ xs) s (inl e) = (0, omega arith, e)
place_of (x ∷ xs) s (inr h) = let t = place_of xs s h in (suc t.0, omega (arith, t.1), t.2)

true_on : (steps : List TrailStep) (l : Literal) → on steps l ≡ true → IsTrueOn steps l
unfolding on
true_on steps l h =
    let m = map_In (λ (s : TrailStep). s.lit) steps l (has_In (map (λ (s : TrailStep). s.lit) steps) l h) in
    let p = place_of steps m.0 m.1 in
    record { place = p.0; before = p.1; true_there = ap (λ (s : TrailStep). s.lit) p.2 ∙ m.2 }

on_true : (steps : List TrailStep) (l : Literal) → IsTrueOn steps l → on steps l ≡ true
unfolding on
on_true steps l h =
    In_has (map (λ (s : TrailStep). s.lit) steps) l
    (subst (λ (x : Literal). In x (map (λ (s : TrailStep). s.lit) steps)) h.true_there (In_map (λ (s : TrailStep). s.lit) steps (step_at steps h.place) (In_get_or steps h.place no_step h.before)))

false_on : (steps : List TrailStep) (l : Literal) → on steps (opposite l) ≡ true → IsFalseOn steps l
false_on steps l h = let t = true_on steps (opposite l) h in record { place = t.place; before = t.before; false_there = t.true_there }

on_false : (steps : List TrailStep) (l : Literal) → IsFalseOn steps l → on steps (opposite l) ≡ true
on_false steps l f = on_true steps (opposite l) (record { place = f.place; before = f.before; true_there = f.false_there })

-- two literals of one variable are one, or opposites
sign : (x l : Literal) → x.var ≡ l.var → (x ≡ l) ⊎ (x ≡ opposite l)
sign x l e = by x.neg l.neg refl refl
  where
    by : (n m : Bool) → x.neg ≡ n → l.neg ≡ m → (x ≡ l) ⊎ (x ≡ opposite l)
    by true true f g = inl (same_lit x l e (f ∙ sym g))
    by false false f g = inl (same_lit x l e (f ∙ sym g))
    by true false f g = inr (same_lit x (opposite l) e (f ∙ sym (ap not g)))
    by false true f g = inr (same_lit x (opposite l) e (f ∙ sym (ap not g)))

free_of : (steps : List TrailStep) (l : Literal) → on steps l ≡ false → on steps (opposite l) ≡ false → HasNoPlace steps l.var
free_of steps l h k p lt e =
    let here : on steps (lit_at steps p) ≡ true = on_true steps (lit_at steps p) (record { place = p; before = lt; true_there = refl }) in
    elim (sign (lit_at steps p) l e) as (λ _. ⊥) [
      | inl q ↦ true≢false (sym here ∙ ap (on steps) q ∙ h)
      | inr q ↦ true≢false (sym here ∙ ap (on steps) q ∙ k)
    ]

-- What is derived

derived_below : (G : List (List Literal)) (A : List Literal) (steps : List TrailStep) → conflicts G A ≡ false → IsDerived G A steps
    → (n p : ℕ) → p < n → p < length steps → Rounds G A (lit_at steps p) ≡ true
derived_below G A steps quiet d zero p lt h = absurd (omega arith)
derived_below G A steps quiet d (suc n) p lt h =
    elim (d p h) as (λ _. Rounds G A (lit_at steps p) ≡ true) [
      | inl given ↦ Rounds-has G A (lit_at steps p) given
      | inr i ↦ Rounds-step G A (Rounds G A) i.clause (lit_at steps p) quiet (λ l r. r) (Contains_In G i.clause i.member) i.unit.has_lit
          (In_all (λ k. same (lit_at steps p) k || Rounds G A (opposite k)) i.clause (λ k m.
          elim (i.unit.others k (In_has i.clause k m)) as (λ _. (same (lit_at steps p) k || Rounds G A (opposite k)) ≡ true) [
            | inl e ↦ or_left _ _ (subst (λ (x : Literal). same (lit_at steps p) x ≡ true) (sym e) (same-refl (lit_at steps p)))
            | inr f ↦ (
                let b = f.before in
                or_right _ _ (subst (λ (x : Literal). Rounds G A x ≡ true) f.false_there (derived_below G A steps quiet d n f.place (omega arith) (omega arith))))
          ]))
    ]

derived_true : (G : List (List Literal)) (A : List Literal) (steps : List TrailStep) (l : Literal) → conflicts G A ≡ false → IsDerived G A steps → IsTrueOn steps l → Rounds G A l ≡ true
derived_true G A steps l quiet d h =
    let b = h.before in
    subst (λ (x : Literal). Rounds G A x ≡ true) h.true_there (derived_below G A steps quiet d (length steps) h.place h.before h.before)

-- each literal of the trail is in the rounds, or they falsify a clause
pub derived_in_rounds : (G : List (List Literal)) (A : List Literal) (steps : List TrailStep) (l : Literal) → IsDerived G A steps → IsTrueOn steps l → (Rounds G A l ≡ true) ⊎ (conflicts G A ≡ true)
derived_in_rounds G A steps l d h =
    elim (cases_Bool (conflicts G A)) as (λ _. (Rounds G A l ≡ true) ⊎ (conflicts G A ≡ true)) [
      | inl c ↦ inr c
      | inr quiet ↦ inl (derived_true G A steps l quiet d h)
    ]

-- a clause that is false on the trail shows a conflict of the rounds
pub derived_conflict : (G : List (List Literal)) (A : List Literal) (steps : List TrailStep) (c : List Literal) → IsDerived G A steps → Contains G c → IsFalseClause steps c → conflicts G A ≡ true
unfolding conflicts
derived_conflict G A steps c d inG bad =
    elim (cases_Bool (conflicts G A)) as (λ _. conflicts G A ≡ true) [
      | inl e ↦ e
      | inr quiet ↦ any_In (falsifies (Rounds G A)) G c (Contains_In G c inG) (In_all (λ k. Rounds G A (opposite k)) c (λ k m.
          derived_true G A steps (opposite k) quiet d (let f = bad k (In_has c k m) in record { place = f.place; before = f.before; true_there = f.false_there })))
    ]

-- more is given, and more clauses
pub derived_more : (G H : List (List Literal)) (A B : List Literal) (steps : List TrailStep) → ((c : List Literal) → Contains G c → Contains H c) → ((l : Literal) → has A l ≡ true → has B l ≡ true)
    → IsDerived G A steps → IsDerived H B steps
derived_more G H A B steps clauses lits d p lt =
    elim (d p lt) as (λ _. (has B (lit_at steps p) ≡ true) ⊎ IsImplied H steps p) [
      | inl given ↦ inl (lits (lit_at steps p) given)
      | inr i ↦ inr (record { clause = i.clause; member = clauses i.clause i.member; unit = i.unit })
    ]

refuted_at : (G : List (List Literal)) (A : List Literal) (steps : List TrailStep) (p : ℕ) → p < length steps → IsDerived G A steps
    → (has A (lit_at steps p) ≡ true) ⊎ (conflicts G (opposite (lit_at steps p) ∷ A) ≡ true)
unfolding conflicts
refuted_at G A steps p lt d =
    elim (d p lt) as (λ _. (has A (lit_at steps p) ≡ true) ⊎ (conflicts G B ≡ true)) [
      | inl given ↦ inl given
      | inr i ↦ inr (elim (cases_Bool (conflicts G B)) as (λ _. conflicts G B ≡ true) [
        | inl e ↦ e
        | inr quiet ↦ falsified i quiet
      ])
    ]
  where
    B : List Literal
    B = opposite (lit_at steps p) ∷ A

    derived_B : IsDerived G B steps
    derived_B = derived_more G G A B steps (λ c h. h) (λ l h. or_right _ _ h) d

    falsified : (i : IsImplied G steps p) → conflicts G B ≡ false → conflicts G B ≡ true
    falsified i quiet = any_In (falsifies (Rounds G B)) G i.clause (Contains_In G i.clause i.member) (In_all (λ k. Rounds G B (opposite k)) i.clause (λ k m.
        elim (i.unit.others k (In_has i.clause k m)) as (λ _. Rounds G B (opposite k) ≡ true) [
          | inl e ↦ subst (λ (x : Literal). Rounds G B (opposite x) ≡ true) (sym e) (Rounds-has G B (opposite (lit_at steps p)) (In_has B (opposite (lit_at steps p)) (inl refl)))
          | inr f ↦ (let b = f.before in derived_true G B steps (opposite k) quiet derived_B (record { place = f.place; before = omega arith; true_there = f.false_there }))
        ]))

-- a literal of the trail is given, or its negation beside what is given shows a conflict
pub derived_refuted : (G : List (List Literal)) (A : List Literal) (steps : List TrailStep) (l : Literal) → IsDerived G A steps → IsTrueOn steps l → (has A l ≡ true) ⊎ (conflicts G (opposite l ∷ A) ≡ true)
derived_refuted G A steps l d h =
    subst (λ (x : Literal). (has A x ≡ true) ⊎ (conflicts G (opposite x ∷ A) ≡ true)) h.true_there (refuted_at G A steps h.place h.before d)

-- What is closed

not_all : {X : Type 0} (p : X → Bool) (xs : List X) → list_all p xs ≡ false → (x : X) × In x xs × (p x ≡ false)
not_all p [] e = absurd (true≢false e)
not_all {X} p (y ∷ ys) e = by (p y) refl e (not_all p ys)
  where
    by : (b : Bool) → p y ≡ b → (b && list_all p ys) ≡ false → (list_all p ys ≡ false → (x : X) × In x ys × (p x ≡ false)) → (x : X) × In x (y ∷ ys) × (p x ≡ false)
    by true h e rest = let t = rest e in (t.0, inr t.1, t.2)
    by false h e rest = (y, inl refl, h)

module _ (t : TrailData) (shape : IsTrail t) where
  not_both : (l : Literal) → on t.steps l ≡ true → on t.steps (opposite l) ≡ true → ⊥
  not_both l h k =
      let x = true_on t.steps l h in
      let y = true_on t.steps (opposite l) k in
      let e : x.place ≡ y.place = shape.distinct x.place y.place x.before y.before (ap (λ (m : Literal). m.var) x.true_there ∙ sym (ap (λ (m : Literal). m.var) y.true_there)) in
      no_self l.neg (ap (λ (m : Literal). m.neg) (sym x.true_there ∙ ap (lit_at t.steps) e ∙ y.true_there))
    where
      no_self : (b : Bool) → b ≡ not b → ⊥
      no_self true e = true≢false e
      no_self false e = false≢true e

  within_level : (l : Literal) → on t.steps l ≡ true → TrueWithin t.steps t.level l
  within_level l h = let x = true_on t.steps l h in record { place = x.place; in_range = x.before; true_there = x.true_there; level = shape.within x.place x.before }

  -- the unit clause of a literal that is true
  unit_closed : (l : Literal) → IsTrueOn t.steps l → IsClosedClause (l ∷ []) t.steps t.level
  unit_closed l h = inl (record { lit = l; has_lit = In_has (l ∷ []) l (inl refl); within = within_level l (on_true t.steps l h) })

  on_within : (l : Literal) (k : ℕ) → TrueWithin t.steps k l → on t.steps l ≡ true
  on_within l k w = on_true t.steps l (record { place = w.place; before = w.in_range; true_there = w.true_there })

  -- a clause is closed, false or unit
  clause_state : (c : List Literal) → IsClosedClause c t.steps t.level ⊎ (IsFalseClause t.steps c ⊎ IsUnitNow t.steps c)
  clause_state c =
      elim (cases_Bool (list_any (on t.steps) c)) as (λ _. IsClosedClause c t.steps t.level ⊎ (IsFalseClause t.steps c ⊎ IsUnitNow t.steps c)) [
        | inl some ↦ (let m = In_any (on t.steps) c some in inl (inl (record { lit = m.0; has_lit = In_has c m.0 m.1; within = within_level m.0 m.2 })))
        | inr none ↦ elim (cases_Bool (list_all (λ k. on t.steps (opposite k)) c)) as (λ _. IsClosedClause c t.steps t.level ⊎ (IsFalseClause t.steps c ⊎ IsUnitNow t.steps c)) [
          | inl all ↦ inr (inl (λ k h. false_on t.steps k (all_In (λ k. on t.steps (opposite k)) c k all (has_In c k h))))
          | inr open_one ↦ (
              let m = not_all (λ k. on t.steps (opposite k)) c open_one in
              elim (cases_Bool (list_all (λ k. same m.0 k || on t.steps (opposite k)) c)) as (λ _. IsClosedClause c t.steps t.level ⊎ (IsFalseClause t.steps c ⊎ IsUnitNow t.steps c)) [
                | inl alone ↦ inr (inr (record {
                  lit = m.0;
                  free = free_of t.steps m.0 (none_In (on t.steps) c m.0 none m.1) m.2;
                  forces = record {
                    has_lit = In_has c m.0 m.1;
                    others = λ k h. elim (or_cases (same m.0 k) (on t.steps (opposite k)) (all_In (λ k. same m.0 k || on t.steps (opposite k)) c k alone (has_In c k h))) as (λ _. (k ≡ m.0) ⊎ IsFalseOn t.steps k) [
                      | inl s ↦ inl (sym (same-true m.0 k s))
                      | inr f ↦ inr (false_on t.steps k f)
                    ];
                  };
                }))
                | inr more ↦ (
                    let o = not_all (λ k. same m.0 k || on t.steps (opposite k)) c more in
                    let parts = or_parts (same m.0 o.0) (on t.steps (opposite o.0)) o.2 in
                    inl (inr (record {
                      one = m.0;
                      other = o.0;
                      has_one = In_has c m.0 m.1;
                      has_other = In_has c o.0 o.1;
                      differ = λ e. true≢false (sym (subst (λ (x : Literal). same m.0 x ≡ true) e (same-refl m.0)) ∙ parts.0);
                      one_open = λ w. true≢false (sym (on_within (opposite m.0) t.level w) ∙ m.2);
                      other_open = λ w. true≢false (sym (on_within (opposite o.0) t.level w) ∙ parts.1);
                    })))
              ])
        ]
      ]

  -- and not two of these
  clause_apart : (c : List Literal) → IsClosedClause c t.steps t.level → IsFalseClause t.steps c ⊎ IsUnitNow t.steps c → ⊥
  clause_apart c (inl h) (inl bad) = not_both h.lit (on_within h.lit t.level h.within) (on_false t.steps h.lit (bad h.lit h.has_lit))
  clause_apart c (inl h) (inr u) =
      elim (u.forces.others h.lit h.has_lit) as (λ _. ⊥) [
        | inl e ↦ (let w = h.within in u.free w.place w.in_range (ap (λ (m : Literal). m.var) (w.true_there ∙ e)))
        | inr f ↦ not_both h.lit (on_within h.lit t.level h.within) (on_false t.steps h.lit f)
      ]
  clause_apart c (inr h) (inl bad) = h.one_open (within_level (opposite h.one) (on_false t.steps h.one (bad h.one h.has_one)))
  clause_apart c (inr h) (inr u) =
      elim (u.forces.others h.one h.has_one) as (λ _. ⊥) [
        | inl e ↦ elim (u.forces.others h.other h.has_other) as (λ _. ⊥) [
          | inl f ↦ h.differ (e ∙ sym f)
          | inr f ↦ h.other_open (within_level (opposite h.other) (on_false t.steps h.other f))
        ]
        | inr f ↦ h.one_open (within_level (opposite h.one) (on_false t.steps h.one f))
      ]

  list_state : (G : List (List Literal)) → ((c : List Literal) → In c G → IsClosedClause c t.steps t.level)
      ⊎ ((c : List Literal) × In c G × (IsFalseClause t.steps c ⊎ IsUnitNow t.steps c))
  list_state [] = inl (λ c h. absurd h)
  list_state (d ∷ G) =
      elim (clause_state d) as (λ _. ((c : List Literal) → In c (d ∷ G) → IsClosedClause c t.steps t.level) ⊎ ((c : List Literal) × In c (d ∷ G) × (IsFalseClause t.steps c ⊎ IsUnitNow t.steps c))) [
        | inr w ↦ inr (d, inl refl, w)
        | inl first ↦ elim (list_state G) as (λ _. ((c : List Literal) → In c (d ∷ G) → IsClosedClause c t.steps t.level) ⊎ ((c : List Literal) × In c (d ∷ G) × (IsFalseClause t.steps c ⊎ IsUnitNow t.steps c))) [
          | inr w ↦ inr (w.0, inr w.1, w.2)
          | inl rest ↦ inl (λ c h. elim h as (λ _. IsClosedClause c t.steps t.level) [
            | inl e ↦ subst (λ (x : List Literal). IsClosedClause x t.steps t.level) e first
            | inr k ↦ rest c k
          ])
        ]
      ]

  pub closed_or_unfinished : (G : List (List Literal)) → IsClosed G t.steps t.level ⊎ IsUnfinished G t.steps
  closed_or_unfinished G =
      elim (list_state G) as (λ _. IsClosed G t.steps t.level ⊎ IsUnfinished G t.steps) [
        | inl all ↦ inl (λ c h. all c (Contains_In G c h))
        | inr w ↦ inr (record { clause = w.0; member = In_Contains G w.0 w.1; false_or_unit = w.2 })
      ]

  pub closed_apart : (G : List (List Literal)) → IsClosed G t.steps t.level → IsUnfinished G t.steps → ⊥
  closed_apart G closed u = clause_apart u.clause (closed u.clause u.member) u.false_or_unit

  module _ (G : List (List Literal)) (A : List Literal) (closed : IsClosed G t.steps t.level) (given : AllTrueOn t.steps A) where
    none_false : (c : List Literal) → In c G → falsifies (on t.steps) c ≡ false
    none_false c h =
        elim (cases_Bool (falsifies (on t.steps) c)) as (λ _. falsifies (on t.steps) c ≡ false) [
          | inl bad ↦ absurd (clause_apart c (closed c (In_Contains G c h)) (inl (λ k m. false_on t.steps k (all_In (λ k. on t.steps (opposite k)) c k bad (has_In c k m)))))
          | inr fine ↦ fine
        ]

    forced_true : (c : List Literal) (l : Literal) → In c G → forces (on t.steps) l c ≡ true → on t.steps l ≡ true
    forced_true c l h f =
        elim (cases_Bool (on t.steps l)) as (λ _. on t.steps l ≡ true) [
          | inl e ↦ e
          | inr no' ↦ (
              let parts = forces-parts (on t.steps) l c f in
              absurd (clause_apart c (closed c (In_Contains G c h)) (inr (record {
                lit = l;
                free = free_of t.steps l no' parts.1;
                forces = record {
                  has_lit = parts.0;
                  others = λ k m. elim (or_cases (same l k) (on t.steps (opposite k)) (all_In (λ k. same l k || on t.steps (opposite k)) c k parts.2 (has_In c k m))) as (λ _. (k ≡ l) ⊎ IsFalseOn t.steps k) [
                    | inl s ↦ inl (sym (same-true l k s))
                    | inr q ↦ inr (false_on t.steps k q)
                  ];
                };
              }))))
        ]

    rounds_on : Within (Rounds G A) (on t.steps)
    rounds_on =
        Rounds-least G A (on t.steps) (λ l h. on_true t.steps l (given l h)) none_false
        (λ l h. elim (or_cases (on t.steps l) (list_any (forces (on t.steps) l) G) h) as (λ _. on t.steps l ≡ true) [
          | inl old ↦ old
          | inr new ↦ (let c = In_any (forces (on t.steps) l) G new in forced_true c.0 l c.1 c.2)
        ])

    pub rounds_true : (l : Literal) → Rounds G A l ≡ true → IsTrueOn t.steps l
    rounds_true l h = true_on t.steps l (rounds_on l h)

    pub closed_quiet : conflicts G A ≡ false
    unfolding conflicts
    closed_quiet =
        elim (cases_Bool (conflicts G A)) as (λ _. conflicts G A ≡ false) [
          | inl bad ↦ (
              let c = In_any (falsifies (Rounds G A)) G bad in
              absurd (true≢false (sym (falsifies-Within (Rounds G A) (on t.steps) rounds_on c.0 c.2) ∙ none_false c.0 c.1)))
          | inr fine ↦ fine
        ]

  -- what is derived and closed has exactly the literals of the rounds
  pub closed_same : (G : List (List Literal)) (A : List Literal) (l : Literal) → IsClosed G t.steps t.level → AllTrueOn t.steps A → IsDerived G A t.steps → (Rounds G A l ≡ true) ↔ IsTrueOn t.steps l
  closed_same G A l closed given d = (
    rounds_true G A closed given l,
    λ h. elim (derived_in_rounds G A t.steps l d h) as (λ _. Rounds G A l ≡ true) [
      | inl r ↦ r
      | inr bad ↦ absurd (true≢false (sym bad ∙ closed_quiet G A closed given))
    ],
  )

  -- clauses that are closed stay so with units that are true
  pub closed_with : (cs : List (List Literal)) (units : List Literal) → IsClosed cs t.steps t.level → AllTrueOn t.steps units → IsClosed (with_units cs units) t.steps t.level
  closed_with cs units closed given c h =
      elim (In_append cs (map (λ l. l ∷ []) units) c (Contains_In (with_units cs units) c h)) as (λ _. IsClosedClause c t.steps t.level) [
        | inl old ↦ closed c (In_Contains cs c old)
        | inr new ↦ (
            let m = map_In (λ l. l ∷ []) units c new in
            subst (λ (x : List Literal). IsClosedClause x t.steps t.level) m.2 (unit_closed m.0 (given m.0 (In_has units m.0 m.1))))
      ]

  pub conflict_unfinished : (G : List (List Literal)) (A : List Literal) → AllTrueOn t.steps A → conflicts G A ≡ true → IsUnfinished G t.steps
  conflict_unfinished G A given bad =
      elim (closed_or_unfinished G) as (λ _. IsUnfinished G t.steps) [
        | inl closed ↦ absurd (true≢false (sym bad ∙ closed_quiet G A closed given))
        | inr u ↦ u
      ]
