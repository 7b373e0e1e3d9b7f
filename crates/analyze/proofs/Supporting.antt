-- What the walk marked and minimisation removed supports the lemma: each such place makes a literal of it false, or rests on others.
use Rattle.std.proofs.Common.{◌≡◌, ℕ, ◌<◌, ◌≤◌, Bool, true, false, ◌||◌, List, length, sym, subst, inl, inr, ◌⊎◌, arith}
use Rattle.std.proofs.lemmas.Bool.{or_cases, or_left, or_right, cases_eq, cases_lt}
use Rattle.sat_words.specs.Literal.{Literal, opposite}
use Rattle.sat_words.specs.Clause.{has}
use Rattle.ring_trail.specs.TrailData.{TrailData, IsTrail, IsFalseClause, lit_at, level_at}
use Rattle.ring_trail.specs.Reasoned.{Held, IsForced, IsSeen, IsDecision, IsReasoned}
use Rattle.analyze.specs.Marks.{marked, IsWalked}
use Rattle.analyze.specs.Removable.{RestsOn}
use Rattle.analyze.specs.Tracing.{CanTraceClause}

module _ (held : Held) (seen : List Literal) (t : TrailData) (m u : ℕ) (c : List Literal) (ms : List Bool) (removed : ℕ → Bool) (line : List Literal)
    (shape : IsTrail t) (r : IsReasoned held seen t.steps) (bad : IsFalseClause t.steps c) (w : IsWalked held t.steps m c ms u)
    (within : (p : ℕ) → marked ms p ≡ true → level_at t.steps p ≤ m) (pos : 1 ≤ m)
    (rests : (p : ℕ) → removed p ≡ true → RestsOn held t.steps (λ q. (marked ms q ≡ true) ⊎ (removed q ≡ true)) p)
    (head : has line (opposite (lit_at t.steps u)) ≡ true)
    (lower : (p : ℕ) → marked ms p ≡ true → level_at t.steps p < m → (removed p ≡ true) ⊎ (has line (opposite (lit_at t.steps p)) ≡ true))
    (none_true : (p : ℕ) → p < length t.steps → has line (lit_at t.steps p) ≡ false) where
  abbrev support : ℕ → Bool
  support p = marked ms p || removed p

  removed_on : (p : ℕ) → removed p ≡ true → RestsOn held t.steps (λ q. support q ≡ true) p
  removed_on p y =
      let o : RestsOn held t.steps (λ q. (marked ms q ≡ true) ⊎ (removed q ≡ true)) p = rests p y in
      record {
        lits = o.lits;
        reason = o.reason;
        others = λ q b f. elim (o.others q b f) as (λ _. support q ≡ true) [ inl a ↦ or_left _ _ a | inr z ↦ or_right _ _ z ];
      }

  -- behind the point the walk marked the others of each reason
  behind_on : (p : ℕ) → p < length t.steps → marked ms p ≡ true → level_at t.steps p ≡ m → u < p → RestsOn held t.steps (λ q. support q ≡ true) p
  behind_on p lt y e gt = by (r.caused p lt)
    where
      by : IsForced held t.steps p ⊎ (IsSeen seen t.steps p ⊎ IsDecision t.steps p) → RestsOn held t.steps (λ q. support q ≡ true) p
      by (inr (inl z)) = absurd (let a = z.level in omega arith)
      by (inr (inr d)) = absurd (let a = d.first u gt in let b = w.point.level in omega arith)
      by (inl f) = record {
        lits = f.lits;
        reason = record { reason = f.reason; reason_is = f.reason_is; held_is = f.held_is };
        others = λ q before falsifies. or_left _ _ (w.complete q (λ R set. set.goes_on p q (w.sound p y R set) (record {
          in_range = lt;
          from_here = omega arith;
          level = e;
          reason = f.reason;
          lits = f.lits;
          reason_is = f.reason_is;
          held_is = f.held_is;
          before = before;
          falsifies = falsifies;
        })));
      }

  marked_on : (p : ℕ) → p < length t.steps → marked ms p ≡ true → (has line (opposite (lit_at t.steps p)) ≡ true) ⊎ RestsOn held t.steps (λ q. support q ≡ true) p
  marked_on p lt y = elim (cases_lt (level_at t.steps p) m) as (λ _. (has line (opposite (lit_at t.steps p)) ≡ true) ⊎ RestsOn held t.steps (λ q. support q ≡ true) p) [
    | inl low ↦ elim (lower p y low) as (λ _. (has line (opposite (lit_at t.steps p)) ≡ true) ⊎ RestsOn held t.steps (λ q. support q ≡ true) p) [
      | inl gone ↦ inr (removed_on p gone)
      | inr stays ↦ inl stays
    ]
    | inr high ↦ (
        let e : level_at t.steps p ≡ m = (let le = within p y in omega arith) in
        elim (cases_lt u p) as (λ _. (has line (opposite (lit_at t.steps p)) ≡ true) ⊎ RestsOn held t.steps (λ q. support q ≡ true) p) [
          | inl gt ↦ inr (behind_on p lt y e gt)
          | inr le ↦ (elim (cases_eq p u) as (λ _. (has line (opposite (lit_at t.steps p)) ≡ true) ⊎ RestsOn held t.steps (λ q. support q ≡ true) p) [
            | inl same ↦ inl (subst (λ (q : ℕ). has line (opposite (lit_at t.steps q)) ≡ true) (sym same) head)
            | inr ne ↦ absurd (w.point.alone p (omega arith) e (w.sound p y))
          ])
        ])
  ]

  pub CanTraceClause-support : CanTraceClause held t.steps line c
  CanTraceClause-support = record {
    refuted = λ k h. inr (bad k h);
    none_true = none_true;
    support = support;
    supports = λ p lt above y. elim (or_cases (marked ms p) (removed p) y) as (λ _. (has line (opposite (lit_at t.steps p)) ≡ true) ⊎ RestsOn held t.steps (λ q. support q ≡ true) p) [
      | inl a ↦ marked_on p lt a
      | inr z ↦ inr (removed_on p z)
    ];
    starts = λ p f. or_left _ _ (w.complete p (λ R set. set.starts p f));
  }
