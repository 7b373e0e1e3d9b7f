-- What minimisation leaves of the clause of the walk follows by unit propagation.
use Rattle.std.proofs.Common.{◌≡◌, ◌∙◌, ℕ, zero, suc, ◌+◌, ◌<◌, ◌≤◌, Bool, true, ◌&&◌, ◌||◌, nat_eq, nat_lt, List, [], ◌∷◌, length, sym, ap, subst, inl, inr, ◌⊎◌, Contains, arith}
use Rattle.std.proofs.lemmas.Bool.{or_cases, cases_Bool, cases_eq, cases_lt, false≢true, and_from, and_parts, eq-eqb, eqb-true, lt-ltb, ltb-true, or_left, or_right}
use Rattle.sat_words.specs.Literal.{Literal, opposite}
use Rattle.sat_words.specs.Clause.{has}
use Rattle.rup_model.specs.Rup.{rup}
use Rattle.ring_port.specs.PortState.{PortState, known}
use Rattle.ring_port.proofs.Holdings.{seen_is_known}
use Rattle.ring_trail.specs.declared.step.TrailStep.{TrailStep}
use Rattle.ring_trail.specs.TrailData.{TrailData, IsTrail, FalseBefore, IsFalseClause, lit_at, level_at}
use Rattle.ring_trail.specs.Reasoned.{IsForced, IsSeen, IsDecision, IsReasoned}
use Rattle.analyze.specs.Levels.{clause_level}
use Rattle.ring_port.specs.PortState.{clause_at}
use Rattle.analyze.specs.Marks.{marked, IsWalked}
use Rattle.analyze.specs.Walk.{MakesFalse}
use Rattle.analyze.specs.Removable.{RestsOn}
use Rattle.analyze.proofs.Chains.{Refuted, Refuted-false, Refuted-forced, rup-Refuted, has-head, has-tail, has-one, clause_known}
use Rattle.analyze.proofs.Walking.{makes_false}
use Rattle.analyze.proofs.Judging.{one_reason, forced_above}
use Rattle.analyze.proofs.LevelLemmas.{level_of_lit-at, clause_level-above, false_place}

-- a place that has its cause among earlier places and what is given, if it is in R
pub record IsUp (G : List (List Literal)) (steps : List TrailStep) (A : List Literal) (R : ℕ → Bool) (p : ℕ) : Type 0 where
  pub clause : List Literal
  pub known : Contains G clause
  pub has_lit : has clause (lit_at steps p) ≡ true
  pub others : (k : Literal) → has clause k ≡ true → (k ≡ lit_at steps p)
      ⊎ ((q : ℕ) × (q < p) × (lit_at steps q ≡ opposite k) × ((R q ≡ true) ⊎ (has A (lit_at steps q) ≡ true)))

-- up the trail the places of R are derived one after another
module _ (G : List (List Literal)) (steps : List TrailStep) (A : List Literal) (R : ℕ → Bool)
    (up : (p : ℕ) → p < length steps → R p ≡ true → IsUp G steps A R p)
    (base : (B : List Literal) → ((l : Literal) → has A l ≡ true → has B l ≡ true) → ((p : ℕ) → p < length steps → R p ≡ true → has B (lit_at steps p) ≡ true) → Refuted G B) where
  climb : (d j : ℕ) → j + d ≡ length steps → (B : List Literal) → ((l : Literal) → has A l ≡ true → has B l ≡ true)
      → ((p : ℕ) → p < j → R p ≡ true → has B (lit_at steps p) ≡ true) → Refuted G B
  climb zero j e B more cov = base B more (λ p h r. cov p (omega arith) r)
  climb (suc d) j e B more cov =
      elim (cases_Bool (R j)) as (λ _. Refuted G B) [
        | inl y ↦ (
            let i : IsUp G steps A R j = up j (omega arith) y in
            Refuted-forced G B i.clause (lit_at steps j) i.known i.has_lit
            (λ k h. elim (i.others k h) as (λ _. (k ≡ lit_at steps j) ⊎ (has B (opposite k) ≡ true)) [
              | inl s ↦ inl s
              | inr q ↦ inr (subst (λ (l : Literal). has B l ≡ true) q.2 (elim q.3 as (λ _. has B (lit_at steps q.0) ≡ true) [ inl z ↦ cov q.0 q.1 z | inr z ↦ more (lit_at steps q.0) z ]))
            ])
            (climb d (suc j) (omega arith) (lit_at steps j ∷ B) (λ l h. has-tail B (lit_at steps j) l (more l h))
            (λ p h r. elim (cases_eq p j) as (λ _. has (lit_at steps j ∷ B) (lit_at steps p) ≡ true) [
              | inl s ↦ subst (λ (q : ℕ). has (lit_at steps j ∷ B) (lit_at steps q) ≡ true) (sym s) (has-head B (lit_at steps j))
              | inr ne ↦ has-tail B (lit_at steps j) (lit_at steps p) (cov p (omega arith) r)
            ])))
        | inr n ↦ climb d (suc j) (omega arith) B more (λ p h r.
            elim (cases_eq p j) as (λ _. has B (lit_at steps p) ≡ true) [
              | inl s ↦ absurd (false≢true (sym n ∙ ap R (sym s) ∙ r))
              | inr ne ↦ cov p (omega arith) r
            ])
      ]

  Refuted-up : Refuted G A
  Refuted-up = climb (length steps) 0 (omega arith) A (λ l h. h) (λ p h r. absurd (omega arith))

-- at level 0 each place has its cause among earlier ones there
zero_up : (s : PortState) (t : TrailData) (A : List Literal) (R : ℕ → Bool) → IsTrail t → IsReasoned (clause_at s) s.seen t.steps → ((p : ℕ) → p < length t.steps → level_at t.steps p ≡ 0 → R p ≡ true)
    → (p : ℕ) → p < length t.steps → level_at t.steps p ≡ 0 → IsUp (known s) t.steps A R p
zero_up s t A R shape r zeros p lt z = by (r.caused p lt)
  where
    by : IsForced (clause_at s) t.steps p ⊎ (IsSeen s.seen t.steps p ⊎ IsDecision t.steps p) → IsUp (known s) t.steps A R p
    by (inl f) = record {
      clause = f.lits;
      known = clause_known s f.reason.address f.lits f.held_is;
      has_lit = f.unit.has_lit;
      others = λ k h. elim (f.unit.others k h) as (λ _. (k ≡ lit_at t.steps p) ⊎ ((q : ℕ) × (q < p) × (lit_at t.steps q ≡ opposite k) × ((R q ≡ true) ⊎ (has A (lit_at t.steps q) ≡ true)))) [
        | inl e ↦ inl e
        | inr q ↦ (
            let b : q.place < p = q.before in
            let le : level_at t.steps q.place ≤ level_at t.steps p = shape.rising q.place p (omega arith) lt in
            inr (q.place, b, q.false_there, inl (zeros q.place (omega arith) (omega arith))))
      ];
    }
    by (inr (inl g)) = record {
      clause = lit_at t.steps p ∷ [];
      known = seen_is_known s (lit_at t.steps p) g.seen_is;
      has_lit = has-head [] (lit_at t.steps p);
      others = λ k h. inl (has-one (lit_at t.steps p) k h);
    }
    by (inr (inr o)) = absurd (let a = o.above in omega arith)

-- a conflict at level 0 shows the empty clause
pub rup-none : (s : PortState) (t : TrailData) (c : List Literal) → IsTrail t → IsReasoned (clause_at s) s.seen t.steps → Contains (known s) c → IsFalseClause t.steps c → clause_level t.steps c ≡ 0 → rup (known s) [] ≡ true
rup-none s t c shape r inG bad z =
    let R : ℕ → Bool = λ q. nat_eq (level_at t.steps q) 0 in
    rup-Refuted (known s) [] (Refuted-up (known s) t.steps [] R
    (λ p lt y. zero_up s t [] R shape r (λ q h e. eq-eqb _ _ e) p lt (eqb-true _ _ y))
    (λ B more cov. Refuted-false (known s) B c inG (λ k h.
    let f : FalseBefore t.steps (length t.steps) k = bad k h in
    let l = level_of_lit-at t k f.place shape (false_place t.steps (length t.steps) k f (omega arith)) in
    let a = clause_level-above t.steps c k h in
    subst (λ (x : Literal). has B x ≡ true) f.false_there (cov f.place f.before (eq-eqb _ _ (omega arith))))))

-- the point and those places of what the walk left that weren't removed refute the clauses
module _ (s : PortState) (t : TrailData) (m u : ℕ) (c : List Literal) (ms : List Bool) (removed : ℕ → Bool) (A : List Literal)
    (shape : IsTrail t) (r : IsReasoned (clause_at s) s.seen t.steps) (inG : Contains (known s) c) (bad : IsFalseClause t.steps c)
    (w : IsWalked (clause_at s) t.steps m c ms u) (within : (p : ℕ) → marked ms p ≡ true → level_at t.steps p ≤ m) (pos : 1 ≤ m)
    (rests : (p : ℕ) → removed p ≡ true → RestsOn (clause_at s) t.steps (λ q. (marked ms q ≡ true) ⊎ (removed q ≡ true)) p)
    (head : has A (lit_at t.steps u) ≡ true) (lower : (p : ℕ) → marked ms p ≡ true → level_at t.steps p < m → (removed p ≡ true) ⊎ (has A (lit_at t.steps p) ≡ true)) where
  -- the places that are derived: at level 0, removed, or marked, of the level and after the point
  derived : ℕ → Bool
  derived p = nat_eq (level_at t.steps p) 0 || (removed p || (marked ms p && (nat_eq (level_at t.steps p) m && nat_lt u p)))

  derived_zero : (p : ℕ) → level_at t.steps p ≡ 0 → derived p ≡ true
  unfolding derived
  derived_zero p z = or_left _ _ (eq-eqb _ _ z)

  derived_removed : (p : ℕ) → removed p ≡ true → derived p ≡ true
  unfolding derived
  derived_removed p y = or_right _ _ (or_left _ _ y)

  derived_behind : (p : ℕ) → marked ms p ≡ true → level_at t.steps p ≡ m → u < p → derived p ≡ true
  unfolding derived
  derived_behind p y e lt = or_right _ _ (or_right _ _ (and_from _ _ y (and_from _ _ (eq-eqb _ _ e) (lt-ltb _ _ lt))))

  -- a marked place is given or derived
  covered : (p : ℕ) → marked ms p ≡ true → (derived p ≡ true) ⊎ (has A (lit_at t.steps p) ≡ true)
  covered p y =
      elim (cases_lt (level_at t.steps p) m) as (λ _. (derived p ≡ true) ⊎ (has A (lit_at t.steps p) ≡ true)) [
        | inl low ↦ elim (lower p y low) as (λ _. (derived p ≡ true) ⊎ (has A (lit_at t.steps p) ≡ true)) [
          | inl gone ↦ inl (derived_removed p gone)
          | inr stays ↦ inr stays
        ]
        | inr high ↦ (
            let e : level_at t.steps p ≡ m = (let le = within p y in omega arith) in
            elim (cases_lt u p) as (λ _. (derived p ≡ true) ⊎ (has A (lit_at t.steps p) ≡ true)) [
              | inl lt ↦ inl (derived_behind p y e lt)
              | inr le ↦ (elim (cases_eq p u) as (λ _. (derived p ≡ true) ⊎ (has A (lit_at t.steps p) ≡ true)) [
                | inl same ↦ inr (subst (λ (q : ℕ). has A (lit_at t.steps q) ≡ true) (sym same) head)
                | inr ne ↦ absurd (w.point.alone p (omega arith) e (w.sound p y))
              ])
            ])
      ]

  -- so is the place of a false literal that is marked or removed if it is above level 0
  reached : (p : ℕ) → (0 < level_at t.steps p → (marked ms p ≡ true) ⊎ (removed p ≡ true)) → (derived p ≡ true) ⊎ (has A (lit_at t.steps p) ≡ true)
  reached p go =
      elim (cases_eq (level_at t.steps p) 0) as (λ _. (derived p ≡ true) ⊎ (has A (lit_at t.steps p) ≡ true)) [
        | inl z ↦ inl (derived_zero p z)
        | inr ne ↦ (elim (go (omega arith)) as (λ _. (derived p ≡ true) ⊎ (has A (lit_at t.steps p) ≡ true)) [
          | inl y ↦ covered p y
          | inr gone ↦ inl (derived_removed p gone)
        ])
      ]

  -- a forced place is derived if the others of its reason that are above level 0 are marked or removed
  forced_up : (p : ℕ) → p < length t.steps → (f : IsForced (clause_at s) t.steps p) → ((q : ℕ) → q < p → MakesFalse t.steps f.lits q → (marked ms q ≡ true) ⊎ (removed q ≡ true)) → IsUp (known s) t.steps A derived p
  forced_up p lt f go = record {
    clause = f.lits;
    known = clause_known s f.reason.address f.lits f.held_is;
    has_lit = f.unit.has_lit;
    others = λ k h. elim (f.unit.others k h) as (λ _. (k ≡ lit_at t.steps p) ⊎ ((q : ℕ) × (q < p) × (lit_at t.steps q ≡ opposite k) × ((derived q ≡ true) ⊎ (has A (lit_at t.steps q) ≡ true)))) [
      | inl same ↦ inl same
      | inr q ↦ inr (
        q.place,
        q.before,
        q.false_there,
        reached q.place (λ above. go q.place q.before (makes_false t.steps f.lits k q.place (let b = q.before in omega arith) above q.false_there h)),
      )
    ];
  }

  behind_up : (p : ℕ) → p < length t.steps → marked ms p ≡ true → level_at t.steps p ≡ m → u < p → IsUp (known s) t.steps A derived p
  behind_up p lt y e gt = by (r.caused p lt)
    where
      by : IsForced (clause_at s) t.steps p ⊎ (IsSeen s.seen t.steps p ⊎ IsDecision t.steps p) → IsUp (known s) t.steps A derived p
      by (inr (inl z)) = absurd (let a = z.level in omega arith)
      by (inr (inr d)) = absurd (let a = d.first u gt in let b = w.point.level in omega arith)
      by (inl f) = forced_up p lt f (λ q before falsifies.
          inl (w.complete q (λ R set. set.goes_on p q (w.sound p y R set) (record {
            in_range = lt;
            from_here = omega arith;
            level = e;
            reason = f.reason;
            lits = f.lits;
            reason_is = f.reason_is;
            held_is = f.held_is;
            before = before;
            falsifies = falsifies;
          }))))

  removed_up : (p : ℕ) → p < length t.steps → removed p ≡ true → (level_at t.steps p ≡ 0 → ⊥) → IsUp (known s) t.steps A derived p
  removed_up p lt y above =
      let rest : RestsOn (clause_at s) t.steps (λ q. (marked ms q ≡ true) ⊎ (removed q ≡ true)) p = rests p y in
      let f : IsForced (clause_at s) t.steps p = forced_above (clause_at s) s.seen t.steps p rest.reason.reason r lt (omega arith) rest.reason.reason_is in
      let same : rest.lits ≡ f.lits = one_reason (clause_at s) t.steps p f.reason rest.lits f.lits rest.reason f.reason_is f.held_is in
      forced_up p lt f (λ q before falsifies. rest.others q before (subst (λ (x : List Literal). MakesFalse t.steps x q) (sym same) falsifies))

  each_up : (p : ℕ) → p < length t.steps → derived p ≡ true → IsUp (known s) t.steps A derived p
  unfolding derived
  each_up p lt d =
      elim (cases_eq (level_at t.steps p) 0) as (λ _. IsUp (known s) t.steps A derived p) [
        | inl z ↦ zero_up s t A derived shape r (λ q h e. derived_zero q e) p lt z
        | inr above ↦ (elim (or_cases (nat_eq (level_at t.steps p) 0) (removed p || (marked ms p && (nat_eq (level_at t.steps p) m && nat_lt u p))) d) as (λ _. IsUp (known s) t.steps A derived p) [
          | inl z ↦ absurd (above (eqb-true _ _ z))
          | inr b ↦ (elim (or_cases (removed p) (marked ms p && (nat_eq (level_at t.steps p) m && nat_lt u p)) b) as (λ _. IsUp (known s) t.steps A derived p) [
            | inl y ↦ removed_up p lt y above
            | inr e ↦ (
                let one = and_parts (marked ms p) (nat_eq (level_at t.steps p) m && nat_lt u p) e in
                let two = and_parts (nat_eq (level_at t.steps p) m) (nat_lt u p) one.1 in
                behind_up p lt one.0 (eqb-true _ _ two.0) (ltb-true _ _ two.1))
          ])
        ])
      ]

  pub Refuted-walk : Refuted (known s) A
  Refuted-walk = Refuted-up (known s) t.steps A derived each_up (λ B more cov. Refuted-false (known s) B c inG (λ k h.
      let f : FalseBefore t.steps (length t.steps) k = bad k h in
      subst (λ (x : Literal). has B x ≡ true) f.false_there
      (elim (reached f.place (λ above. inl (w.complete f.place (λ R set. set.starts f.place (makes_false t.steps c k f.place f.before above f.false_there h))))) as (λ _. has B (lit_at t.steps f.place) ≡ true) [
        | inl d ↦ cov f.place f.before d
        | inr a ↦ more (lit_at t.steps f.place) a
      ])))
