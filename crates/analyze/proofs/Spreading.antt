-- How the tracer spreads, from each noted place to those that its cause rests on.
use Rattle.std.proofs.Common.{◌≡◌, ◌∙◌, ℕ, ◌+◌, ◌<◌, ◌≤◌, true, nat_eq, List, length, get_or, take, sym, refl, ap, subst, inl, inr, ◌⊎◌, IsSome, Option, arith}
use Rattle.std.specs.Set.{is_member}
use Rattle.std.proofs.lemmas.List.{take_more, take_all, take-append-le}
use Rattle.std.proofs.lemmas.Bool.{or_cases, cases_eq, eqb-true}
use Rattle.sat_words.specs.Literal.{Literal, opposite}
use Rattle.sat_words.specs.Clause.{has}
use Rattle.sat_words.specs.declared.shared.Cref.{Cref}
use Rattle.ring_port.specs.PortState.{PortState, clause_at}
use Rattle.ring_trail.specs.declared.step.TrailStep.{TrailStep}
use Rattle.ring_trail.specs.TrailData.{TrailData, IsTrail, lit_at, level_at}
use Rattle.ring_trail.specs.Reasoned.{WasUnit}
use Rattle.analyze.specs.Removable.{RestsOn}
use Rattle.analyze.specs.MarksData.{MarksData}
use Rattle.analyze.specs.HintOrder.{IsCause, IsUsed}
use Rattle.analyze.specs.Noting.{IsBacked, note_at, is_found_note, is_found_at, IsNoting, HasNoted, IsStarted, IsClosedAt, IsBelowNoted, HasNotedAll}
use Rattle.analyze.specs.declared.tracer.Note.{Note}
use Rattle.analyze.specs.declared.tracer.Note.TheVariants.{Given, Noted}
use Rattle.analyze.proofs.Judging.{one_reason}
use Rattle.analyze.proofs.Marking.{member_push}
use Rattle.analyze.proofs.Sorting.{member_take}
use Rattle.analyze.proofs.Causes.{one_cause, falsifier_before}

-- the first i listed places are closed
pub record IsSpread (s : PortState) (steps : List TrailStep) (vars : ℕ) (old m : MarksData Note) (i : ℕ) : Type 0 where
  pub started : IsStarted s steps vars m
  pub kept : (p : ℕ) → is_found_at old.values p ≡ true → note_at m.values p ≡ note_at old.values p
  pub only : (p : ℕ) → is_found_at m.values p ≡ true → (is_found_at old.values p ≡ true) ⊎ ((note_at m.values p ≡ Noted) × IsBelowNoted old.values p)
  pub used : (p : ℕ) → note_at m.values p ≡ Noted → (note_at old.values p ≡ Noted) ⊎ IsUsed s steps (λ q. note_at m.values q ≡ Noted) p
  pub closed : (p : ℕ) → is_member nat_eq (take i m.touched) p ≡ true → note_at m.values p ≡ Noted → IsClosedAt s steps m.values p

-- a noted place is at level 0 or has a reason
pub backed_noted : (s : PortState) (steps : List TrailStep) (vars : ℕ) (m : MarksData Note) (p : ℕ) → IsStarted s steps vars m → note_at m.values p ≡ Noted → IsBacked steps p
backed_noted s steps vars m p x n = elim (cases_eq (level_at steps p) 0) as (λ _. IsBacked steps p) [
  | inl z ↦ inl z
  | inr ne ↦ elim (x.supports p (x.noting.in_range p (ap is_found_note n)) (omega arith) (x.noted p n (omega arith))) as (λ _. IsBacked steps p) [
    | inl given ↦ absurd (let both : Noted ≡ Given = sym n ∙ given in cc)
    | inr r ↦ inr (subst (λ (o : Option Cref). IsSome o) (sym r.reason.reason_is) refl)
  ]
]

module _ (s : PortState) (t : TrailData) (old a : MarksData Note) (i : ℕ) (shape : IsTrail t) (x : IsSpread s t.steps t.vars old a i) where
  pub HasNotedAll-spread : length a.touched ≤ i → HasNotedAll s t.steps t.vars old a
  HasNotedAll-spread le = record {
    noting = x.started.noting;
    kept = x.kept;
    only = x.only;
    used = x.used;
    closed = λ p n. x.closed p (ap (λ (xs : List ℕ). is_member nat_eq xs p) (take_all i a.touched le) ∙ x.started.noting.listed p ∙ ap is_found_note n) n;
    backed = λ p n. backed_noted s t.steps t.vars a p x.started n;
  }

  module _ (lt : i < length a.touched) where
    abbrev pub here : ℕ
    here = get_or a.touched i 0

    -- of the first i + 1 places one is this one, the others are the first i
    next_or_before : (p : ℕ) → is_member nat_eq (take (i + 1) a.touched) p ≡ true → (is_member nat_eq (take i a.touched) p ≡ true) ⊎ (p ≡ here)
    next_or_before p y =
        elim (or_cases (is_member nat_eq (take i a.touched) p) (nat_eq p here) (sym (member_push (take i a.touched) here p) ∙ ap (λ (xs : List ℕ). is_member nat_eq xs p) (sym (take_more a.touched i 0 lt)) ∙ y)) as (λ _. (is_member nat_eq (take i a.touched) p ≡ true) ⊎ (p ≡ here)) [
          | inl old ↦ inl old
          | inr e ↦ inr (eqb-true p here e)
        ]

    -- a place that isn't noted needs nothing
    pub IsSpread-given : (note_at a.values here ≡ Noted → ⊥) → IsSpread s t.steps t.vars old a (i + 1)
    IsSpread-given not_noted = record {
      started = x.started;
      kept = x.kept;
      only = x.only;
      used = x.used;
      closed = λ p y n. elim (next_or_before p y) as (λ _. IsClosedAt s t.steps a.values p) [
        | inl before ↦ x.closed p before n
        | inr e ↦ absurd (not_noted (ap (note_at a.values) (sym e) ∙ n))
      ];
    }

    -- a noted place's cause is noted
    module _ (b : MarksData Note) (c : List Literal) (n : note_at a.values here ≡ Noted) (cause : IsCause s t.steps here c) (unit : WasUnit t.steps here c)
        (noting : IsNoting t.steps t.vars b) (h : HasNoted t.steps Noted a b c) where
      here_in : here < length t.steps
      here_in = x.started.noting.in_range here (ap is_found_note n)

      below_here : IsBelowNoted old.values here ⊎ (note_at old.values here ≡ Noted)
      below_here = elim (x.only here (ap is_found_note n)) as (λ _. IsBelowNoted old.values here ⊎ (note_at old.values here ≡ Noted)) [
        | inl was ↦ inr (sym (x.kept here was) ∙ n)
        | inr new ↦ inl new.1
      ]

      below : (p : ℕ) → p < here → IsBelowNoted old.values p
      below p lower = elim below_here as (λ _. IsBelowNoted old.values p) [
        | inl w ↦ record { place = w.place; before = (let b = w.before in omega arith); noted = w.noted }
        | inr was ↦ record { place = here; before = lower; noted = was }
      ]

      new_before : (p : ℕ) → is_found_at b.values p ≡ true → has c (opposite (lit_at t.steps p)) ≡ true → p < here
      new_before p y f = falsifier_before t here p c shape here_in (noting.in_range p y) unit f

      -- above level 0 the new place is supported
      supported : (p : ℕ) → is_found_at b.values p ≡ true → has c (opposite (lit_at t.steps p)) ≡ true → 0 < level_at t.steps p → x.started.support p ≡ true
      supported p y f above =
          let lower = new_before p y f in
          let up : level_at t.steps p ≤ level_at t.steps here = shape.rising p here (omega arith) here_in in
          elim (x.started.supports here here_in (omega arith) (x.started.noted here n (omega arith))) as (λ _. x.started.support p ≡ true) [
            | inl given ↦ absurd (let both : Noted ≡ Given = sym n ∙ given in cc)
            | inr r ↦ elim cause as (λ _. x.started.support p ≡ true) [
              | inl told ↦ absurd (let z = told.0.level in omega arith)
              | inr reason ↦ (
                  let same : c ≡ r.lits = one_reason (clause_at s) t.steps here r.reason.reason c r.lits reason.1 r.reason.reason_is r.reason.held_is in
                  r.others p lower (record { in_range = noting.in_range p y; above = above; has_opposite = subst (λ (d : List Literal). has d (opposite (lit_at t.steps p)) ≡ true) same f }))
            ]
          ]

      started : IsStarted s t.steps t.vars b
      started = record {
        noting = noting;
        support = x.started.support;
        supports = λ p lp above y. elim (x.started.supports p lp above y) as (λ _. (note_at b.values p ≡ Given) ⊎ RestsOn (clause_at s) t.steps (λ q. x.started.support q ≡ true) p) [
          | inl given ↦ inl (h.kept p (ap is_found_note given) ∙ given)
          | inr r ↦ inr r
        ];
        noted = λ p m above. elim (h.only p (ap is_found_note m)) as (λ _. x.started.support p ≡ true) [
          | inl was ↦ x.started.noted p (sym (h.kept p was) ∙ m) above
          | inr new ↦ supported p (ap is_found_note m) new.1 above
        ];
      }

      grown : (p : ℕ) → is_found_at a.values p ≡ true → is_found_at b.values p ≡ true
      grown p y = ap is_found_note (h.kept p y) ∙ y

      still : (p : ℕ) → note_at a.values p ≡ Noted → note_at b.values p ≡ Noted
      still p m = h.kept p (ap is_found_note m) ∙ m

      pub IsSpread-noted : IsSpread s t.steps t.vars old b (i + 1)
      IsSpread-noted = record {
        started = started;
        kept = λ p y. h.kept p (ap is_found_note (x.kept p y) ∙ y) ∙ x.kept p y;
        only = λ p y. elim (h.only p y) as (λ _. (is_found_at old.values p ≡ true) ⊎ ((note_at b.values p ≡ Noted) × IsBelowNoted old.values p)) [
          | inl was ↦ elim (x.only p was) as (λ _. (is_found_at old.values p ≡ true) ⊎ ((note_at b.values p ≡ Noted) × IsBelowNoted old.values p)) [
            | inl older ↦ inl older
            | inr new ↦ inr (h.kept p was ∙ new.0, new.1)
          ]
          | inr new ↦ inr (new.0, below p (new_before p y new.1))
        ];
        used = λ p m. elim (h.only p (ap is_found_note m)) as (λ _. (note_at old.values p ≡ Noted) ⊎ IsUsed s t.steps (λ q. note_at b.values q ≡ Noted) p) [
          | inl was ↦ elim (x.used p (sym (h.kept p was) ∙ m)) as (λ _. (note_at old.values p ≡ Noted) ⊎ IsUsed s t.steps (λ q. note_at b.values q ≡ Noted) p) [
            | inl older ↦ inl older
            | inr u ↦ inr (record { place = u.place; later = u.later; has_property = still u.place u.has_property; lits = u.lits; cause = u.cause; falsifies = u.falsifies })
          ]
          | inr new ↦ inr (record { place = here; later = new_before p (ap is_found_note m) new.1; has_property = still here n; lits = c; cause = cause; falsifies = new.1 })
        ];
        closed = λ p y m d cd q lq f.
            (let first : take (i + 1) b.touched ≡ take (i + 1) a.touched = ap (take (i + 1)) h.touched ∙ take-append-le (i + 1) a.touched h.more (omega arith) in
            elim (next_or_before p (ap (λ (xs : List ℕ). is_member nat_eq xs p) (sym first) ∙ y)) as (λ _. is_found_at b.values q ≡ true) [
              | inl before ↦ (
                  let listed : is_member nat_eq a.touched p ≡ true = member_take a.touched i p before in
                  let was : is_found_at a.values p ≡ true = sym (x.started.noting.listed p) ∙ listed in
                  grown q (x.closed p before (sym (h.kept p was) ∙ m) d cd q lq f))
              | inr e ↦ h.all q lq (subst (λ (w : List Literal). has w (opposite (lit_at t.steps q)) ≡ true)
                  (one_cause s t.steps here d c (subst (λ (r : ℕ). IsCause s t.steps r d) e cd) cause) f)
            ]);
      }
