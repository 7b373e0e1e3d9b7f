-- The negation of a failed literal, once its line is written, and what propagation makes of it.
use Rattle.std.proofs.Common.{◌≡◌, ◌∙◌, ℕ, ◌<◌, ◌⊎◌, true, false, List, [], ◌∷◌, length, map, None, Contains, sym, refl, ap, subst, inl, inr, arith, length-append}
use Rattle.std.proofs.lemmas.Bool.{or_right, or_cases, false≢true}
use Rattle.std.proofs.lemmas.List.{get_or_push}
use Rattle.sat_words.specs.Literal.{Literal, opposite, same}
use Rattle.sat_words.specs.Clause.{has}
use Rattle.sat_words.specs.declared.shared.Cref.{Cref}
use Rattle.sat_words.proofs.Members.{same-true, same-refl}
use Rattle.rup_model.specs.Rup.{conflicts, rup}
use Rattle.rup_model.specs.declared.journal.Kind.TheVariants.{UnitLine}
use Rattle.rup_model.proofs.Lists.{In, has_In, In_has, In_map, In_get_or, In_append_right, Contains_In, In_Contains}
use Rattle.ring_port.specs.PortState.{PortState, IsPort, lits_at, known}
use Rattle.ring_port.specs.Log.{KeepsLog}
use Rattle.ring_port.specs.Port.{WroteUnit, EndedLog}
use Rattle.ring_trail.specs.declared.step.TrailStep.{TrailStep}
use Rattle.ring_trail.specs.TrailData.{TrailData, IsTrail, IsTrueOn, IsFalseClause, HasGrown, no_step, step_at, lit_at, assigned}
use Rattle.ring_trail.specs.Reasoned.{IsSeen}
use Rattle.ring_trail.specs.Closed.{IsClosed}
use Rattle.ring_trail.proofs.Causes.{IsReasoned-seen}
use Rattle.watch_prop.specs.WatchData.{WatchData, Lits, attached, clauses_of}
use Rattle.watch_prop.specs.Watched.{Watched}
use Rattle.watch_prop.specs.Propagation.{attached_at, HasReasons, IsConflict, IsQuiet}
use Rattle.watch_prop.specs.Rounds.{decisions_of, fixed_of, with_units, AllTrueOn, HeldAmong}
use Rattle.watch_prop.proofs.Growing.{step_grown, HasGrown-step, HasGrown-trans}
use Rattle.watch_prop.proofs.TrailLaws.{Watched-assign, Reasons-held}
use Rattle.watch_prop.proofs.TrailRounds.{derived_conflict, closed_quiet, closed_with}
use Rattle.watch_prop.proofs.Decisions.{derived_known, decisions_none, fixed_true, fixed_all, reasoned_derived, clause_with}
use Rattle.watch_prop.proofs.Agreeing.{attached_in}
use Rattle.analyze.specs.HintOrder.{AreInTrailOrder}
use Rattle.ring_probe.specs.Outcome.{fails, WroteNegation, HasFailed, FailedAlone, FailedBoth}
use Rattle.ring_probe.proofs.Kept.{lits_same, watched_same, reasons_same, wrote_held, wrote_seen, conflict_known}
use Rattle.ring_probe.proofs.Tried.{rup_of}

true_grow : (t u : TrailData) (l : Literal) → HasGrown t u → IsTrueOn t.steps l → IsTrueOn u.steps l
true_grow t u l g h =
    let e = step_grown t.steps g.more h.place h.before in
    rw g.steps record { place = h.place; before = omega (arith, h.before, length-append t.steps g.more); true_there = ap (λ (x : TrailStep). x.lit) e ∙ h.true_there }

only : (k l : Literal) → has (l ∷ []) k ≡ true → l ≡ k
only k l h = elim (has_In (l ∷ []) k h) as (λ _. l ≡ k) [ inl e ↦ e | inr none ↦ absurd none ]

-- The line of the negation

module _ (s m : PortState) (l : Literal) (wrote : WroteUnit s m (opposite l) UnitLine s.last) where
  pub held_then : m.held ≡ s.held
  held_then = wrote_held s m (opposite l) UnitLine s.last wrote

  seen_now : has m.seen (opposite l) ≡ true
  seen_now = wrote.sees (opposite l) ∙ or_right (has s.seen (opposite l)) (same (opposite l) (opposite l)) (same-refl (opposite l))

  -- it is made true
  pub watched_then : (w : WatchData) (t : TrailData) → IsTrail t → Watched w (lits_at s) t → Watched w (lits_at m) (assigned t (opposite l) None)
  watched_then w t start h = Watched-assign w (lits_at m) t (opposite l) None start (watched_same s m w t held_then h)

  pub reasons_then : (cs : List Cref) (t : TrailData) → t.level ≡ 0 → HasReasons cs s t.steps → HasReasons cs m (assigned t (opposite l) None).steps
  reasons_then cs t level h =
      IsReasoned-seen (attached_at cs m) m.seen t (opposite l) None
      (reasons_same s m cs t.steps held_then (wrote_seen s m (opposite l) UnitLine s.last wrote) h)
      level seen_now

-- What follows from it

-- the literal fails, the line of its negation was written, and this was made true at level 0 and propagated
pub record IsFollowed (s m : PortState) (v w : WatchData) (t u : TrailData) (l : Literal) : Type 0 where
  pub failed : fails s (attached v) t.steps l ≡ true
  pub start : IsTrail t
  pub level : t.level ≡ 0
  pub line : WroteNegation s m t.steps l
  pub shape : IsTrail u
  pub same_clauses : attached w ≡ attached v
  pub grown : HasGrown (assigned t (opposite l) None) u
  pub reasons : HasReasons (attached v) m u.steps
  pub watched : Watched w (lits_at m) u

module _ (s m : PortState) (v w : WatchData) (t u : TrailData) (l : Literal) (p : IsFollowed s m v w t u l) where
  abbrev step : TrailStep
  step = record { lit = opposite l; level = t.level; reason = None }

  from_start : HasGrown t u
  from_start = HasGrown-trans t (assigned t (opposite l) None) u (HasGrown-step t (assigned t (opposite l) None) step refl refl) p.grown

  pub level_then : u.level ≡ 0
  level_then = p.grown.level ∙ p.level

  same_lits : lits_at m ≡ lits_at s
  same_lits = lits_same s m (held_then s m l p.line.wrote)

  pub reasons_after : HasReasons (attached w) m u.steps
  reasons_after = subst (λ (cs : List Cref). HasReasons cs m u.steps) (sym p.same_clauses) p.reasons

  abbrev clauses : List (List Literal)
  clauses = clauses_of v (lits_at s)

  abbrev ground : List (List Literal)
  ground = with_units clauses (fixed_of t.steps)

  fixed_then : AllTrueOn u.steps (fixed_of t.steps)
  fixed_then x h = true_grow t u x from_start (fixed_true t.steps x h)

  true_now : IsTrueOn (assigned t (opposite l) None).steps (opposite l)
  true_now = record {
    place = length t.steps;
    before = (let n = length-append t.steps (step ∷ []) in omega arith);
    true_there = ap (λ (y : TrailStep). y.lit) (get_or_push t.steps step no_step (length t.steps) refl);
  }

  given : AllTrueOn u.steps (opposite l ∷ [])
  given x h = subst (λ (y : Literal). IsTrueOn u.steps y) (only x (opposite l) h) (true_grow (assigned t (opposite l) None) u (opposite l) p.grown true_now)

  -- Nothing is left to propagate

  closed_then : IsQuiet w (lits_at m) u → IsClosed clauses u.steps u.level
  closed_then quiet =
      subst (λ (cs : List Cref). IsClosed (map (λ (c : Cref). lits_at s c.address) cs) u.steps u.level) p.same_clauses
      (subst (λ (lits : Lits). IsClosed (clauses_of w lits) u.steps u.level) same_lits (quiet.closed u.level))

  other_holds : IsQuiet w (lits_at m) u → fails s (attached v) t.steps (opposite l) ≡ false
  other_holds quiet = closed_quiet u p.shape ground (opposite l ∷ []) (closed_with u p.shape clauses (fixed_of t.steps) (closed_then quiet) fixed_then) given

  after : HasFailed s m (attached v) t u l
  after = record { failed = p.failed; line = p.line; grown = p.grown }

  pub failed_alone : IsQuiet w (lits_at m) u → FailedAlone s m (attached v) w t u l (opposite l)
  failed_alone quiet = record { negation = refl; after = after; quiet = quiet; other = other_holds quiet }

  -- A clause is false

  among : HeldAmong (attached_at (attached v) m) clauses
  among = subst (λ (lits : Lits). HeldAmong (attached_at (attached v) m) (clauses_of v lits)) same_lits (attached_in (attached v) m)

  fixed_unit : (x : Literal) → IsTrueOn t.steps x → Contains ground (x ∷ [])
  fixed_unit x h =
      let in_steps : In (lit_at t.steps h.place) (map (λ (y : TrailStep). y.lit) t.steps) = In_map (λ (y : TrailStep). y.lit) t.steps (step_at t.steps h.place) (In_get_or t.steps h.place no_step h.before) in
      let in_fixed : In x (fixed_of t.steps) = subst (λ (y : Literal). In y (fixed_of t.steps)) h.true_there (subst (λ (ls : List Literal). In (lit_at t.steps h.place) ls) (sym (fixed_all t p.start p.level)) in_steps) in
      In_Contains ground (x ∷ []) (In_append_right clauses (map (λ k. k ∷ []) (fixed_of t.steps)) (x ∷ []) (In_map (λ k. k ∷ []) (fixed_of t.steps) x in_fixed))

  of_seen : AllTrueOn t.steps s.seen → (q : ℕ) → q < length u.steps → IsSeen m.seen u.steps q → (has (opposite l ∷ []) (lit_at u.steps q) ≡ true) ⊎ Contains ground (lit_at u.steps q ∷ [])
  of_seen all q lt z = by (or_cases (has s.seen x) (same (opposite l) x) (sym (p.line.wrote.sees x) ∙ z.seen_is))
    where
      x : Literal
      x = lit_at u.steps q

      by : (has s.seen x ≡ true) ⊎ (same (opposite l) x ≡ true) → (has (opposite l ∷ []) x ≡ true) ⊎ Contains ground (x ∷ [])
      by (inl old) = inr (fixed_unit x (all x old))
      by (inr new) = inl (In_has (opposite l ∷ []) x (inl (same-true (opposite l) x new)))

  of_decisions : (x : Literal) → has (decisions_of u.steps) x ≡ true → has (opposite l ∷ []) x ≡ true
  of_decisions x h = absurd (false≢true (subst (λ (ls : List Literal). has ls x ≡ true) (decisions_none u p.shape level_then) h))

  member_clause : (c : Cref) → Contains (attached w) c → Contains ground (lits_at s c.address)
  member_clause c member =
      let here : Contains (attached v) c = subst (λ (cs : List Cref). Contains cs c) p.same_clauses member in
      clause_with clauses (fixed_of t.steps) (lits_at s c.address) (In_Contains clauses (lits_at s c.address) (In_map (λ (d : Cref). lits_at s d.address) (attached v) c (Contains_In (attached v) c here)))

  other_fails : (c : Cref) → IsConflict w (lits_at m) u c → AllTrueOn t.steps s.seen → fails s (attached v) t.steps (opposite l) ≡ true
  other_fails c bad all =
      derived_conflict ground (opposite l ∷ []) u.steps (lits_at s c.address)
      (reasoned_derived (attached_at (attached v) m) m.seen ground (opposite l ∷ []) u.steps p.reasons (λ a d e. clause_with clauses (fixed_of t.steps) d (among a d e)) (of_seen all) of_decisions)
      (member_clause c bad.member)
      (subst (λ (lits : Lits). IsFalseClause u.steps (lits c.address)) same_lits bad.false_all)

  -- so the empty clause follows
  pub refuted : (c : Cref) → IsConflict w (lits_at m) u c → rup (known m) [] ≡ true
  refuted c bad =
      rup_of (known m) []
      (subst (λ (A : List Literal). conflicts (known m) A ≡ true) (decisions_none u p.shape level_then)
      (derived_conflict (known m) (decisions_of u.steps) u.steps (lits_at m c.address) (derived_known m u.steps (Reasons-held (attached w) m u.steps reasons_after)) (conflict_known m w u c p.watched bad) bad.false_all))

  pub failed_both : (n : PortState) (c : Cref) → IsConflict w (lits_at m) u c → (ended : EndedLog m n) → (m.hinted ≡ true → AreInTrailOrder m u.steps (lits_at m c.address) ended.hints) → KeepsLog s m → IsPort m → KeepsLog m n
      → FailedBoth s n (attached v) w t u l
  failed_both n c bad ended order log port log_after = record {
    middle = m;
    after = after;
    clause = c;
    conflict = bad;
    other = other_fails c bad;
    ended = ended;
    order = order;
    log = log;
    port = port;
    log_after = log_after;
  }
