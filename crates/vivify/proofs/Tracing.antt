-- What is kept of a clause can be traced from where the walk over its literals ends.
use Rattle.std.proofs.Common.{◌≡◌, ◌∙◌, ◌⊎◌, ℕ, ◌<◌, ◌≤◌, ◌+◌, true, false, List, [], ◌∷◌, ◌++◌, length, map, drop, get_or, Some, IsSome, sym, refl, ap, subst, inl, inr, arith}
use Rattle.std.specs.List.{slice_get}
use Rattle.std.proofs.lemmas.Bool.{cases_lt, true≢false}
use Rattle.std.proofs.lemmas.Option.{get_or_from_slice_get}
use Rattle.sat_words.specs.Literal.{Literal, opposite}
use Rattle.sat_words.specs.Clause.{has}
use Rattle.sat_words.specs.declared.shared.Cref.{Cref}
use Rattle.rup_model.proofs.Lists.{In, In_has, has_In, any_In, all_In, In_map, In_append, In_append_left, In_append_right}
use Rattle.ring_port.specs.PortState.{PortState, IsPort, lits_at, held_at, clause_at}
use Rattle.ring_port.proofs.Holdings.{held_is_kept}
use Rattle.ring_trail.specs.TrailData.{TrailData, IsTrail, IsTrueOn, IsFalseOn, HasNoPlace, IsPlaceOf, lit_at, var_at}
use Rattle.ring_trail.specs.Reasoned.{IsForced, IsSeen, IsDecision, IsReasoned}
use Rattle.analyze.specs.Removable.{RestsOn}
use Rattle.analyze.specs.Tracing.{IsSupport}
use Rattle.watch_prop.specs.WatchData.{WatchData}
use Rattle.watch_prop.specs.Watched.{Watched}
use Rattle.watch_prop.specs.Propagation.{IsConflict}
use Rattle.watch_prop.specs.Rounds.{decisions_of}
use Rattle.watch_prop.proofs.Growing.{watch_of}
use Rattle.watch_prop.proofs.Entries.{attachable_held}
use Rattle.watch_prop.proofs.Decisions.{decisions_true}
use Rattle.vivify.specs.Walk.{walk_from, left_of}
use Rattle.vivify.specs.Ending.{FromClause, FromLiteral, CanTrace}
use Rattle.vivify.specs.Walking.{TookLast}
use Rattle.vivify.specs.declared.ending.Ending.{Ending}
use Rattle.vivify.specs.declared.ending.Ending.TheVariants.{Conflict, True, Taken}
use Rattle.vivify.proofs.Walked.{no_lit, place_in}
use Rattle.vivify.proofs.Walks.{apart, opposite_differs, false_by, against}
use Rattle.vivify.proofs.Parts.{left_part, kept_in}

-- the literals kept are decided false, and are some of the line's
module _ (s : PortState) (t : TrailData) (kept line : List Literal) (shape : IsTrail t) (reasoned : IsReasoned (clause_at s) s.seen t.steps) (decided : decisions_of t.steps ≡ map opposite kept)
    (among : (k : Literal) → In k kept → In k line) where
  -- so each place can be passed through
  all_supported : IsSupport (clause_at s) t.steps line (λ p. true)
  all_supported p lt pos given = by (reasoned.caused p lt)
    where
      by : IsForced (clause_at s) t.steps p ⊎ (IsSeen s.seen t.steps p ⊎ IsDecision t.steps p) → (has line (opposite (lit_at t.steps p)) ≡ true) ⊎ RestsOn (clause_at s) t.steps (λ q. true ≡ true) p
      by (inl f) = inr record { lits = f.lits; reason = record { reason = f.reason; reason_is = f.reason_is; held_is = f.held_is }; others = λ q before falsifies. refl }
      by (inr (inl seen)) = absurd (let z = seen.level in omega (arith, z, pos))
      by (inr (inr d)) = inl (against t.steps kept line decided among p lt d)

  -- a literal kept is false
  negation_true : (k : Literal) → In k kept → IsTrueOn t.steps (opposite k)
  negation_true k m = decisions_true t.steps (opposite k) (subst (λ (A : List Literal). has A (opposite k) ≡ true) (sym decided) (In_has (map opposite kept) (opposite k) (In_map opposite kept k m)))

  not_true : (p : ℕ) → p < length t.steps → In (lit_at t.steps p) kept → ⊥
  not_true p lt m = apart t (lit_at t.steps p) shape record { place = p; before = lt; true_there = refl } (negation_true (lit_at t.steps p) m)

  -- a clause whose literals are false, but for those of the line
  pub from_clause : (a : ℕ) → IsSome (held_at s a) → ((k : Literal) → In k line → In k kept ⊎ HasNoPlace t.steps k.var) → ((k : Literal) → has (lits_at s a) k ≡ true → (has line k ≡ true) ⊎ IsFalseOn t.steps k) → FromClause s t line a
  from_clause a held unset refuted = record {
    held = held;
    can = record {
      refuted = refuted;
      none_true = λ p lt. false_by (has line (lit_at t.steps p)) (λ h. never p lt (unset (lit_at t.steps p) (has_In line (lit_at t.steps p) h)));
      support = λ p. true;
      supports = all_supported;
      starts = λ p falsifies. refl;
    };
  }
    where
      never : (p : ℕ) → p < length t.steps → In (lit_at t.steps p) kept ⊎ HasNoPlace t.steps (var_at t.steps p) → ⊥
      never p lt (inl m) = not_true p lt m
      never p lt (inr none) = none p lt refl

-- from a conflict
pub traces_conflict : (s : PortState) (w : WatchData) (t : TrailData) (kept : List Literal) (c : Cref) → IsTrail t → IsReasoned (clause_at s) s.seen t.steps → decisions_of t.steps ≡ map opposite kept
    → Watched w (lits_at s) t → IsConflict w (lits_at s) t c → FromClause s t kept c.address
traces_conflict s w t kept c shape reasoned decided watched bad =
    let m = watch_of w c bad.member in
    from_clause s t kept kept shape reasoned decided (λ k h. h) c.address
    (subst (λ (x : Cref). IsSome (held_at s x.address)) m.3 (attachable_held w.vars s m.1.clause.address (watched.clauses m.0 m.1 m.2)))
    (λ k h. inl h) (λ k h. inr (bad.false_all k h))

-- from a literal that is true, and is kept last
pub traces_true : (s : PortState) (t : TrailData) (kept : List Literal) (l : Literal) → IsTrail t → IsReasoned (clause_at s) s.seen t.steps → decisions_of t.steps ≡ map opposite kept
    → has kept (opposite l) ≡ false → IsTrueOn t.steps l → FromLiteral s t (kept ++ l ∷ []) l
traces_true s t kept l shape reasoned decided fresh good = record {
  in_range = subst (λ (k : Literal). k.var ≤ t.vars) good.true_there (shape.high good.place good.before);
  true_now = good;
  can = λ p at.
      let there = at_place p at in
      record {
        in_range = at.in_range;
        true_there = In_has (kept ++ l ∷ []) (lit_at t.steps p) (subst (λ (k : Literal). In k (kept ++ l ∷ [])) (sym there) (In_append_right kept (l ∷ []) l (inl refl)));
        none_before = λ q lt. false_by (has (kept ++ l ∷ []) (lit_at t.steps q)) (λ h. earlier p at q lt (In_append kept (l ∷ []) (lit_at t.steps q) (has_In (kept ++ l ∷ []) (lit_at t.steps q) h)));
        apart = subst (λ (k : Literal). has (kept ++ l ∷ []) (opposite k) ≡ false) (sym there)
            (false_by (has (kept ++ l ∷ []) (opposite l)) (λ h. negated (In_append kept (l ∷ []) (opposite l) (has_In (kept ++ l ∷ []) (opposite l) h))));
        support = λ q. true;
        supports = all_supported s t kept (kept ++ l ∷ []) shape reasoned decided (λ k m. In_append_left kept (l ∷ []) k m);
        starts = λ above. refl;
      };
}
  where
    same_place : (p : ℕ) → IsPlaceOf t.steps l.var p → p ≡ good.place
    same_place p at = shape.distinct p good.place at.in_range good.before (at.var ∙ sym (ap (λ (k : Literal). k.var) good.true_there))

    at_place : (p : ℕ) → IsPlaceOf t.steps l.var p → lit_at t.steps p ≡ l
    at_place p at = ap (λ (q : ℕ). lit_at t.steps q) (same_place p at) ∙ good.true_there

    earlier : (p : ℕ) → IsPlaceOf t.steps l.var p → (q : ℕ) → q < p → In (lit_at t.steps q) kept ⊎ In (lit_at t.steps q) (l ∷ []) → ⊥
    earlier p at q lt (inl m) = not_true s t kept kept shape reasoned decided (λ k h. h) q (let n = at.in_range in omega (arith, lt, n)) m
    earlier p at q lt (inr (inl e)) =
        let n = at.in_range in
        let low : q < length t.steps = omega (arith, lt, n) in
        let e' = shape.distinct q p low at.in_range (ap (λ (k : Literal). k.var) (sym e) ∙ sym at.var) in
        omega (arith, lt, e')
    earlier p at q lt (inr (inr none)) = none

    negated : In (opposite l) kept ⊎ In (opposite l) (l ∷ []) → ⊥
    negated (inl m) = true≢false (sym (In_has kept (opposite l) m) ∙ fresh)
    negated (inr (inl e)) = opposite_differs l e
    negated (inr (inr none)) = none

-- no literal of the clause has its negation among those kept
pub not_kept : (s : PortState) (a i : ℕ) (G : List (List Literal)) (kept : List Literal) (l : Literal) → IsPort s → IsSome (held_at s a) → walk_from G kept (drop i (lits_at s a)) ≡ walk_from G [] (lits_at s a)
    → has (lits_at s a) l ≡ true → has kept (opposite l) ≡ false
not_kept s a i G kept l port held h there = false_by (has kept (opposite l)) by
  where
    by : has kept (opposite l) ≡ true → ⊥
    by bad =
        let c = lits_at s a in
        let m : In (opposite l) (left_of G c) = subst (λ (zs : List Literal). In (opposite l) zs) h (kept_in G kept (drop i c) (opposite l) (has_In kept (opposite l) bad)) in
        let n : has c (opposite l) ≡ true = all_In (has c) (left_of G c) (opposite l) (left_part G c) m in
        true≢false (sym (any_In (λ (x : Literal). has c (opposite x)) c l (has_In c l there) n) ∙ (held_is_kept s a port held).0.no_opposites)

-- from where the last literal was taken
module _ (s : PortState) (t : TrailData) (kept new : List Literal) (c : Cref) (i : ℕ) (l : Literal) (shape : IsTrail t) (reasoned : IsReasoned (clause_at s) s.seen t.steps) (decided : decisions_of t.steps ≡ map opposite kept)
    (held : IsSome (held_at s c.address)) (last : i + 1 ≡ length (lits_at s c.address)) (e : slice_get (lits_at s c.address) i ≡ Some l) (before : (j : ℕ) → j < i → IsFalseOn t.steps (get_or (lits_at s c.address) j no_lit)) where
  false_or_last : (k : Literal) → has (lits_at s c.address) k ≡ true → IsFalseOn t.steps k ⊎ (l ≡ k)
  false_or_last k h =
      let p = place_in (lits_at s c.address) k (has_In (lits_at s c.address) k h) in
      elim (cases_lt p.0 i) as (λ _. IsFalseOn t.steps k ⊎ (l ≡ k)) [
        | inl low ↦ inl (subst (λ (m : Literal). IsFalseOn t.steps m) p.2 (before p.0 low))
        | inr high ↦ inr (
            let n = p.1 in
            let is : i ≡ p.0 = omega (arith, high, n, last) in
            sym (get_or_from_slice_get (lits_at s c.address) i l no_lit e) ∙ ap (λ (j : ℕ). get_or (lits_at s c.address) j no_lit) is ∙ p.2)
      ]

  taken_false : IsFalseOn t.steps l → FromClause s t kept c.address
  taken_false bad = from_clause s t kept kept shape reasoned decided (λ k m. m) c.address held (λ k m. inl m) (λ k h. inr (by k (false_or_last k h)))
    where
      by : (k : Literal) → IsFalseOn t.steps k ⊎ (l ≡ k) → IsFalseOn t.steps k
      by k (inl h) = h
      by k (inr q) = subst (λ (m : Literal). IsFalseOn t.steps m) q bad

  taken_open : HasNoPlace t.steps l.var → FromClause s t (kept ++ l ∷ []) c.address
  taken_open none = from_clause s t kept (kept ++ l ∷ []) shape reasoned decided (λ k m. In_append_left kept (l ∷ []) k m) c.address held (λ k m. unset k (In_append kept (l ∷ []) k m)) (λ k h. by k (false_or_last k h))
    where
      unset : (k : Literal) → In k kept ⊎ In k (l ∷ []) → In k kept ⊎ HasNoPlace t.steps k.var
      unset k (inl m) = inl m
      unset k (inr (inl q)) = inr (subst (λ (m : Literal). HasNoPlace t.steps m.var) q none)
      unset k (inr (inr nothing)) = absurd nothing

      by : (k : Literal) → IsFalseOn t.steps k ⊎ (l ≡ k) → (has (kept ++ l ∷ []) k ≡ true) ⊎ IsFalseOn t.steps k
      by k (inl h) = inr h
      by k (inr q) = inl (In_has (kept ++ l ∷ []) k (In_append_right kept (l ∷ []) k (inl q)))

  pub traces_last : (ending : Ending) → has kept (opposite l) ≡ false → TookLast t.steps kept new l ending → CanTrace s t new c ending
  traces_last (Conflict d) fresh p = absurd p
  traces_last (True m) fresh p =
      subst (λ (k : Literal). FromLiteral s t new k) (sym p.0)
      (subst (λ (L : List Literal). FromLiteral s t L l) (sym p.2) (traces_true s t kept l shape reasoned decided fresh p.1))
  traces_last Taken fresh (inl p) = subst (λ (L : List Literal). FromClause s t L c.address) (sym p.1) (taken_false p.0)
  traces_last Taken fresh (inr p) = subst (λ (L : List Literal). FromClause s t L c.address) (sym p.1) (taken_open p.0)
