-- Which literals at level 0 are known: as a trail grows and goes back, as lines of units are written, and at a model.
use Rattle.std.proofs.Common.{◌≡◌, ◌∙◌, ℕ, zero, suc, ◌+◌, ◌-◌, ◌<◌, ◌≤◌, ◌||◌, Bool, true, false, not, List, [], ◌∷◌, ◌++◌, length, map, sym, subst, ap, refl, arith, inl, inr, Some, None, IsSome, Contains, length-append}
use Rattle.std.specs.List.{list_any, list_all}
use Rattle.std.specs.declared.option.Option.{Option}
use Rattle.std.proofs.lemmas.Bool.{or_left, or_right, or_cases, or_from, cases_lt, false≢true, true≢false}
use Rattle.std.proofs.lemmas.List.{get_or_append_left, get_or-append-add, get_or-take}
use Rattle.std.proofs.Math.Seq.{get_or-append_seam}
use Rattle.sat_words.specs.Literal.{Literal, same, opposite}
use Rattle.sat_words.specs.Clause.{has}
use Rattle.sat_words.specs.declared.shared.Cref.{Cref}
use Rattle.sat_words.proofs.Members.{same-true, same-refl}
use Rattle.rup_model.specs.Rounds.{falsifies, forces, round}
use Rattle.rup_model.specs.Journal.{recent}
use Rattle.rup_model.proofs.Lists.{In, In_append, In_any, all_In, has_In, In_has, In_Contains, map_In}
use Rattle.rup_model.proofs.Closed.{Rounds-least}
use Rattle.rup_model.proofs.RoundsLemmas.{forces-parts}
use Rattle.ring_port.specs.PortState.{PortState, Holding, held_at, lits_at, lits_in}
use Rattle.ring_port.specs.Port.{Sees, start_lits}
use Rattle.ring_port.proofs.Holdings.{All_In}
use Rattle.ring_trail.specs.declared.step.TrailStep.{TrailStep}
use Rattle.ring_trail.specs.TrailData.{TrailData, IsTrail, HasGrown, HasNoPlace, IsFalseOn, no_step, step_at, lit_at, level_at, reason_at, assigned}
use Rattle.ring_trail.specs.Closed.{TrueWithin, IsClosedClause}
use Rattle.ring_trail.proofs.Causes.{back-kept}
use Rattle.watch_prop.specs.WatchData.{WatchData, attached}
use Rattle.watch_prop.specs.Propagation.{IsQuiet}
use Rattle.ring_run.specs.Ended.{searched, IsTold}
use Rattle.ring_run.specs.Searching.{SeenTrue, Stands, AreFirst, AreTold, FixedSeen, SeesFixed, IsAmong}
use Rattle.ring_run.specs.Course.{Searches, WentBack}
use Rattle.ring_run.proofs.Remembering.{stands_there}

-- what is not so is false
pub never : (b : Bool) → (b ≡ true → ⊥) → b ≡ false
never true h = absurd (h refl)
never false h = refl

-- no sign is the other one
apart_signs : (b : Bool) → b ≡ not b → ⊥
apart_signs true e = true≢false e
apart_signs false e = false≢true e

-- if each literal at level 0 is one of those that are known
pub fixed_seen : (s : PortState) (t : TrailData) (n : ℕ) → AreTold s t n → AreFirst t n → FixedSeen s t
fixed_seen s t n told first p inside level = told.first p (first p inside level)

-- and what is seen is true
pub sees_fixed : (s : PortState) (t : TrailData) (n : ℕ) → AreTold s t n → AreFirst t n → SeenTrue s t.steps → SeesFixed s t
sees_fixed s t n told first alone = record { each = fixed_seen s t n told first; alone = alone }

-- what is true on the first steps stands at no place after them
unseen_behind : (s : PortState) (steps : List TrailStep) (v : TrailData) (q : ℕ) → SeenTrue s steps → IsTrail v → length steps ≤ length v.steps → ((p : ℕ) → p < length steps → step_at v.steps p ≡ step_at steps p)
    → length steps ≤ q → q < length v.steps → has s.seen (lit_at v.steps q) ≡ false
unseen_behind s steps v q seen shape long same le lt = never (has s.seen (lit_at v.steps q)) (λ h.
    let w = seen (lit_at v.steps q) h in
    let e : w.place ≡ q = shape.distinct w.place q (let i = w.in_range in omega arith) lt (ap (λ (x : TrailStep). x.lit.var) (same w.place w.in_range) ∙ ap (λ (l : Literal). l.var) w.true_there) in
    let i = w.in_range in
    absurd (omega arith))

-- a trail that has grown by propagation
pub told_grown : (s : PortState) (t v : TrailData) (n : ℕ) → AreTold s t n → Stands s t → IsTrail v → HasGrown t v → AreTold s v n
told_grown s t v n p st shape grown = record {
  few = omega (arith, p.few, long);
  low = λ q h. ap (λ (x : TrailStep). x.level) (at q (omega (arith, h, p.few))) ∙ p.low q h;
  first = λ q h. subst (λ (x : TrailStep). has s.seen x.lit ≡ true) (sym (at q (omega (arith, h, p.few)))) (p.first q h);
  rest = λ q le lt some. elim (cases_lt q (length t.steps)) as (λ _. has s.seen (lit_at v.steps q) ≡ false) [
    | inl old ↦ subst (λ (x : TrailStep). has s.seen x.lit ≡ false) (sym (at q old)) (p.rest q le old (subst (λ (x : TrailStep). IsSome x.reason) (at q old) some))
    | inr new ↦ unseen_behind s t.steps v q st.seen shape long at new lt
  ];
  all = λ up q lt zero_level. elim (cases_lt q (length t.steps)) as (λ _. q < n) [
    | inl old ↦ p.all (omega (arith, up, grown.level)) q old (sym (ap (λ (x : TrailStep). x.level) (at q old)) ∙ zero_level)
    | inr new ↦ (
        let i : q ≡ length t.steps + (q - length t.steps) = omega arith in
        let there : level_at grown.more (q - length t.steps) ≡ t.level = grown.at_level (q - length t.steps) no_step (omega (arith, lt, long_is)) in
        let here : level_at v.steps q ≡ level_at grown.more (q - length t.steps) =
        ap (λ (ss : List TrailStep). level_at ss q) grown.steps ∙ ap (λ (m : ℕ). level_at (t.steps ++ grown.more) m) i ∙ ap (λ (x : TrailStep). x.level) (get_or-append-add t.steps grown.more (q - length t.steps) no_step) in
        absurd (omega (arith, up, grown.level, there, here, zero_level)))
  ];
}
  where
    long_is : length v.steps ≡ length t.steps + length grown.more
    long_is = ap (λ (ss : List TrailStep). length ss) grown.steps ∙ length-append t.steps grown.more

    long : length t.steps ≤ length v.steps
    long = omega (arith, long_is)

    at : (q : ℕ) → q < length t.steps → step_at v.steps q ≡ step_at t.steps q
    at q h = ap (λ (ss : List TrailStep). step_at ss q) grown.steps ∙ get_or_append_left t.steps grown.more no_step q h

-- a literal that is false is not seen
pub unseen_false : (s : PortState) (t : TrailData) (l : Literal) → Stands s t → IsTrail t → IsFalseOn t.steps l → has s.seen l ≡ false
unseen_false s t l st shape f = never (has s.seen l) (λ h.
    let w = st.seen l h in
    let e : w.place ≡ f.place = shape.distinct w.place f.place w.in_range f.before (ap (λ (x : Literal). x.var) w.true_there ∙ sym (ap (λ (x : Literal). x.var) f.false_there)) in
    let both : l ≡ opposite l = sym w.true_there ∙ ap (lit_at t.steps) e ∙ f.false_there in
    apart_signs l.neg (ap (λ (x : Literal). x.neg) both))

-- one step more
pub told_step : (s : PortState) (t v : TrailData) (x : TrailStep) (n : ℕ) → v.steps ≡ t.steps ++ x ∷ [] → AreTold s t n → (IsSome x.reason → has s.seen x.lit ≡ false)
    → (0 < v.level → AreFirst t n) → (0 < v.level → 0 < x.level) → AreTold s v n
told_step s t v x n is p unseen first up = record {
  few = omega (arith, p.few, long_is);
  low = λ q h. ap (λ (y : TrailStep). y.level) (at q (omega (arith, h, p.few))) ∙ p.low q h;
  first = λ q h. subst (λ (y : TrailStep). has s.seen y.lit ≡ true) (sym (at q (omega (arith, h, p.few)))) (p.first q h);
  rest = λ q le lt some. elim (cases_lt q (length t.steps)) as (λ _. has s.seen (lit_at v.steps q) ≡ false) [
    | inl old ↦ subst (λ (y : TrailStep). has s.seen y.lit ≡ false) (sym (at q old)) (p.rest q le old (subst (λ (y : TrailStep). IsSome y.reason) (at q old) some))
    | inr new ↦ subst (λ (y : TrailStep). has s.seen y.lit ≡ false) (sym (last q lt new)) (unseen (subst (λ (y : TrailStep). IsSome y.reason) (last q lt new) some))
  ];
  all = λ above q lt zero_level. elim (cases_lt q (length t.steps)) as (λ _. q < n) [
    | inl old ↦ first above q old (sym (ap (λ (y : TrailStep). y.level) (at q old)) ∙ zero_level)
    | inr new ↦ (let e = ap (λ (y : TrailStep). y.level) (last q lt new) in absurd (omega (arith, up above, e, zero_level)))
  ];
}
  where
    long_is : length v.steps ≡ length t.steps + 1
    long_is = ap (λ (ss : List TrailStep). length ss) is ∙ length-append t.steps (x ∷ [])

    at : (q : ℕ) → q < length t.steps → step_at v.steps q ≡ step_at t.steps q
    at q h = ap (λ (ss : List TrailStep). step_at ss q) is ∙ get_or_append_left t.steps (x ∷ []) no_step q h

    last : (q : ℕ) → q < length v.steps → length t.steps ≤ q → step_at v.steps q ≡ x
    last q lt le =
        let e : q ≡ length t.steps = omega (arith, lt, le, long_is) in
        ap (λ (ss : List TrailStep). step_at ss q) is ∙ ap (λ (m : ℕ). step_at (t.steps ++ x ∷ []) m) e ∙ get_or-append_seam t.steps x [] no_step

-- the trail goes back
pub told_back : (s : PortState) (t v : TrailData) (back n : ℕ) → AreTold s t n → IsTrail t → back ≤ t.level → WentBack t v back → AreTold s v n
told_back s t v back n p shape within w = record {
  few = few n p.few p.low;
  low = λ q h. ap (λ (x : TrailStep). x.level) (at q (omega (arith, h, few n p.few p.low))) ∙ p.low q h;
  first = λ q h. subst (λ (x : TrailStep). has s.seen x.lit ≡ true) (sym (at q (omega (arith, h, few n p.few p.low)))) (p.first q h);
  rest = λ q le lt some. subst (λ (x : TrailStep). has s.seen x.lit ≡ false) (sym (at q lt)) (p.rest q le (omega (arith, lt, w.short)) (subst (λ (x : TrailStep). IsSome x.reason) (at q lt) some));
  all = λ up q lt zero_level. p.all (omega (arith, up, ap (λ (y : TrailData). y.level) w.is, within)) q (omega (arith, lt, w.short)) (sym (ap (λ (x : TrailStep). x.level) (at q lt)) ∙ zero_level);
}
  where
    at : (q : ℕ) → q < length v.steps → step_at v.steps q ≡ step_at t.steps q
    at q h = ap (λ (ss : List TrailStep). step_at ss q) w.prefix ∙ get_or-take (length v.steps) t.steps q no_step h

    few : (m : ℕ) → m ≤ length t.steps → ((q : ℕ) → q < m → level_at t.steps q ≡ 0) → m ≤ length v.steps
    few zero le low = omega arith
    few (suc m) le low =
        let kept = (back-kept t back m shape (omega (arith, le)) (let e = low m (omega arith) in omega (arith, e))).0 in
        let here = ap (λ (y : TrailData). length y.steps) w.is in
        omega (arith, kept, here)

-- the same is seen
pub told_same : (s u : PortState) (t : TrailData) (n : ℕ) → u.seen ≡ s.seen → AreTold s t n → AreTold u t n
told_same s u t n is p = record {
  few = p.few;
  low = p.low;
  first = λ q h. ap (λ (ls : List Literal). has ls (lit_at t.steps q)) is ∙ p.first q h;
  rest = λ q le lt some. ap (λ (ls : List Literal). has ls (lit_at t.steps q)) is ∙ p.rest q le lt some;
  all = p.all;
}

-- a unit more is seen, which has no value yet
pub told_unit : (s u : PortState) (t : TrailData) (n : ℕ) (l : Literal) → Sees s.seen u.seen l → HasNoPlace t.steps l.var → AreTold s t n → AreTold u t n
told_unit s u t n l sees free p = record {
  few = p.few;
  low = p.low;
  first = λ q h. sees (lit_at t.steps q) ∙ or_left (has s.seen (lit_at t.steps q)) (same l (lit_at t.steps q)) (p.first q h);
  rest = λ q le lt some. sees (lit_at t.steps q) ∙ or_from (has s.seen (lit_at t.steps q)) (same l (lit_at t.steps q)) (p.rest q le lt some)
      (never (same l (lit_at t.steps q)) (λ e. free q lt (ap (λ (k : Literal). k.var) (sym (same-true l (lit_at t.steps q) e)))));
  all = p.all;
}

-- at level 0, if all is known, units have come
pub told_saw : (s u : PortState) (t v : TrailData) (n : ℕ) → AreTold s t n → n ≡ length t.steps → IsTrail v → v.level ≡ 0 → HasGrown t v → ((l : Literal) → has s.seen l ≡ true → has u.seen l ≡ true)
    → ((p : ℕ) → length t.steps ≤ p → p < length v.steps → reason_at v.steps p ≡ None) → AreTold u v n
told_saw s u t v n p whole shape zero_level grown more bare = record {
  few = omega (arith, whole, long);
  low = λ q h. (let w = shape.within q (omega (arith, h, whole, long)) in omega (arith, w, zero_level));
  first = λ q h. subst (λ (x : TrailStep). has u.seen x.lit ≡ true) (sym (at q (omega (arith, h, whole)))) (more (lit_at t.steps q) (p.first q h));
  rest = λ q le lt some. absurd (false≢true (subst (λ (r : Option Cref). IsSome r) (bare q (omega (arith, le, whole)) lt) some));
  all = λ up. absurd (omega (arith, up, zero_level));
}
  where
    long : length t.steps ≤ length v.steps
    long = (let sum = ap (λ (ss : List TrailStep). length ss) grown.steps ∙ length-append t.steps grown.more in omega (arith, sum))

    at : (q : ℕ) → q < length t.steps → step_at v.steps q ≡ step_at t.steps q
    at q h = ap (λ (ss : List TrailStep). step_at ss q) grown.steps ∙ get_or_append_left t.steps grown.more no_step q h

-- a step without a reason leaves none with one after the first ones
pub bare_more : (n : ℕ) (t : TrailData) (l : Literal) → ((p : ℕ) → n ≤ p → p < length t.steps → reason_at t.steps p ≡ None) → (p : ℕ) → n ≤ p → p < length (assigned t l None).steps → reason_at (assigned t l None).steps p ≡ None
bare_more n t l bare p behind lt =
    let x : TrailStep = record { lit = l; level = t.level; reason = None } in
    let long = length-append t.steps (x ∷ []) in
    elim (cases_lt p (length t.steps)) as (λ _. reason_at (t.steps ++ x ∷ []) p ≡ None) [
      | inl old ↦ ap (λ (y : TrailStep). y.reason) (get_or_append_left t.steps (x ∷ []) no_step p old) ∙ bare p behind old
      | inr new ↦ (
          let e : p ≡ length t.steps = omega (arith, lt, new, long) in
          ap (λ (m : ℕ). reason_at (t.steps ++ x ∷ []) m) e ∙ ap (λ (y : TrailStep). y.reason) (get_or-append_seam t.steps x [] no_step))
    ]

-- one place more is known
told_next : (s u : PortState) (t : TrailData) (n : ℕ) → AreTold s t n → IsTrail t → t.level ≡ 0 → n < length t.steps → ((l : Literal) → has s.seen l ≡ true → has u.seen l ≡ true)
    → has u.seen (lit_at t.steps n) ≡ true → ((q : ℕ) → n < q → q < length t.steps → has s.seen (lit_at t.steps q) ≡ false → has u.seen (lit_at t.steps q) ≡ false) → AreTold u t (n + 1)
told_next s u t n p shape zero_level lt more here other = record {
  few = omega (arith, lt);
  low = λ q h. (let w = shape.within q (omega (arith, h, lt)) in omega (arith, w, zero_level));
  first = λ q h. elim (cases_lt q n) as (λ _. has u.seen (lit_at t.steps q) ≡ true) [
    | inl old ↦ more (lit_at t.steps q) (p.first q old)
    | inr le ↦ (let e : n ≡ q = omega (arith, h, le) in subst (λ (m : ℕ). has u.seen (lit_at t.steps m) ≡ true) e here)
  ];
  rest = λ q le lt2 some. other q (omega (arith, le)) lt2 (p.rest q (omega (arith, le)) lt2 some);
  all = λ up. absurd (omega (arith, up, zero_level));
}

-- a literal without a reason is seen already
pub told_skipped : (s : PortState) (t : TrailData) (n : ℕ) → AreTold s t n → Stands s t → IsTrail t → t.level ≡ 0 → n < length t.steps → reason_at t.steps n ≡ None → AreTold s t (n + 1)
told_skipped s t n p st shape zero_level lt none =
    told_next s s t n p shape zero_level lt (λ l h. h)
    (elim (st.reasoned.caused n lt) as (λ _. has s.seen (lit_at t.steps n) ≡ true) [
      | inl forced ↦ absurd (let e : None ≡ Some forced.reason = sym none ∙ forced.reason_is in cc)
      | inr (inl seen) ↦ seen.seen_is
      | inr (inr decision) ↦ (let w = shape.within n lt in absurd (omega (arith, decision.above, w, zero_level)))
    ])
    (λ q up lt2 h. h)

-- one with a reason is seen once its line stands
pub told_written : (s u : PortState) (t : TrailData) (n : ℕ) (l : Literal) → AreTold s t n → IsTrail t → t.level ≡ 0 → n < length t.steps → l ≡ lit_at t.steps n → Sees s.seen u.seen l → AreTold u t (n + 1)
told_written s u t n l p shape zero_level lt is sees =
    told_next s u t n p shape zero_level lt (λ k h. sees k ∙ or_left (has s.seen k) (same l k) h)
    (sees (lit_at t.steps n) ∙ or_right (has s.seen (lit_at t.steps n)) (same l (lit_at t.steps n)) (ap (λ (k : Literal). same k (lit_at t.steps n)) is ∙ same-refl (lit_at t.steps n)))
    (λ q up lt2 h. sees (lit_at t.steps q) ∙ or_from (has s.seen (lit_at t.steps q)) (same l (lit_at t.steps q)) h
    (never (same l (lit_at t.steps q)) (λ e.
    let one : n ≡ q = shape.distinct n q lt lt2 (ap (λ (k : Literal). k.var) (sym is ∙ same-true l (lit_at t.steps q) e)) in
    absurd (omega (arith, up, one)))))

-- At a model

module _ (s : PortState) (t : TrailData) (w : WatchData) (n : ℕ) (p : Searches s t w n) (quiet : IsQuiet w (lits_at s) t) (first : AreFirst t n) where
  -- what is true for good is seen
  seen_zero : (l : Literal) → TrueWithin t.steps 0 l → has s.seen l ≡ true
  seen_zero l v = subst (λ (k : Literal). has s.seen k ≡ true) v.true_there (p.told.first v.place (first v.place v.in_range (let e = v.level in omega (arith, e))))

  -- no literal and its negation are
  apart : (l : Literal) → has s.seen l ≡ true → has s.seen (opposite l) ≡ true → ⊥
  apart l h k =
      let v = p.stands.seen l h in
      let o = p.stands.seen (opposite l) k in
      let e : v.place ≡ o.place = p.trail.distinct v.place o.place v.in_range o.in_range (ap (λ (x : Literal). x.var) v.true_there ∙ sym (ap (λ (x : Literal). x.var) o.true_there)) in
      let both : l ≡ opposite l = sym v.true_there ∙ ap (lit_at t.steps) e ∙ o.true_there in
      apart_signs l.neg (ap (λ (x : Literal). x.neg) both)

  closed_unit : (l : Literal) → has s.seen l ≡ true → IsClosedClause (l ∷ []) t.steps 0
  closed_unit l h = inl (record { lit = l; has_lit = or_left (same l l) false (same-refl l); within = p.stands.seen l h })

  closed_attached : (c : Cref) → Contains (attached w) c → IsClosedClause (lits_at s c.address) t.steps 0
  closed_attached c there = quiet.closed 0 (lits_at s c.address) (stands_there s (attached w) c there)

  closed_among : (c : List Literal) → IsAmong s (attached w) c → IsClosedClause c t.steps 0
  closed_among c (inl there) = quiet.closed 0 c there
  closed_among c (inr unit) = subst (λ (d : List Literal). IsClosedClause d t.steps 0) (sym unit.unit) (closed_unit unit.lit unit.seen)

  closed_all : (c : List Literal) → In c (searched s) → IsClosedClause c t.steps 0
  closed_all c there =
      elim (In_append (start_lits s) (recent s.ring s.mine ++ map (λ l. l ∷ []) s.seen) c there) as (λ _. IsClosedClause c t.steps 0) [
        | inl start ↦ (
            let h = map_In (λ (x : Holding). x.lits) s.start c start in
            let held : held_at s h.0.address ≡ Some h.0 = All_In (λ (x : Holding). held_at s x.address ≡ Some x) s.start h.0 p.clauses.starts_held h.1 in
            subst (λ (d : List Literal). IsClosedClause d t.steps 0) (ap lits_in held ∙ h.2)
            (closed_attached (record { address = h.0.address }) (p.clauses.starts h.0 (In_Contains s.start h.0 h.1))))
        | inr rest ↦ elim (In_append (recent s.ring s.mine) (map (λ l. l ∷ []) s.seen) c rest) as (λ _. IsClosedClause c t.steps 0) [
          | inl own ↦ closed_among c (p.clauses.own.lemmas c (In_Contains (recent s.ring s.mine) c own))
          | inr unit ↦ (
              let l = map_In (λ (x : Literal). x ∷ []) s.seen c unit in
              subst (λ (d : List Literal). IsClosedClause d t.steps 0) l.2 (closed_unit l.0 (In_has s.seen l.0 l.1)))
        ]
      ]

  -- no clause is false at level 0
  none_false : (c : List Literal) → IsClosedClause c t.steps 0 → falsifies (has s.seen) c ≡ false
  none_false c (inl h) = never (falsifies (has s.seen) c) (λ e. apart h.lit (seen_zero h.lit h.within) (all_In (λ k. has s.seen (opposite k)) c h.lit e (has_In c h.lit h.has_lit)))
  none_false c (inr h) = never (falsifies (has s.seen) c) (λ e. h.one_open (p.stands.seen (opposite h.one) (all_In (λ k. has s.seen (opposite k)) c h.one e (has_In c h.one h.has_one))))

  -- none forces a literal there that isn't seen
  forced_seen : (c : List Literal) (l : Literal) → IsClosedClause c t.steps 0 → list_all (λ k. same l k || has s.seen (opposite k)) c ≡ true → has s.seen l ≡ true
  forced_seen c l (inl h) others =
      elim (or_cases (same l h.lit) (has s.seen (opposite h.lit)) (all_In (λ k. same l k || has s.seen (opposite k)) c h.lit others (has_In c h.lit h.has_lit))) as (λ _. has s.seen l ≡ true) [
        | inl e ↦ subst (λ (k : Literal). has s.seen k ≡ true) (sym (same-true l h.lit e)) (seen_zero h.lit h.within)
        | inr bad ↦ absurd (apart h.lit (seen_zero h.lit h.within) bad)
      ]
  forced_seen c l (inr h) others =
      elim (or_cases (same l h.one) (has s.seen (opposite h.one)) (all_In (λ k. same l k || has s.seen (opposite k)) c h.one others (has_In c h.one h.has_one))) as (λ _. has s.seen l ≡ true) [
        | inl e ↦ elim (or_cases (same l h.other) (has s.seen (opposite h.other)) (all_In (λ k. same l k || has s.seen (opposite k)) c h.other others (has_In c h.other h.has_other))) as (λ _. has s.seen l ≡ true) [
          | inl f ↦ absurd (h.differ (sym (same-true l h.one e) ∙ same-true l h.other f))
          | inr bad ↦ absurd (h.other_open (p.stands.seen (opposite h.other) bad))
        ]
        | inr bad ↦ absurd (h.one_open (p.stands.seen (opposite h.one) bad))
      ]

  round_seen : (l : Literal) → round (searched s) (has s.seen) l ≡ true → has s.seen l ≡ true
  round_seen l h =
      elim (or_cases (has s.seen l) (list_any (forces (has s.seen) l) (searched s)) h) as (λ _. has s.seen l ≡ true) [
        | inl old ↦ old
        | inr new ↦ (
            let c = In_any (forces (has s.seen) l) (searched s) new in
            let parts = forces-parts (has s.seen) l c.0 c.2 in
            forced_seen c.0 l (closed_all c.0 c.1) parts.2)
      ]

  -- each literal that plain rounds give is seen
  pub told_model : IsTold s
  told_model l h = Rounds-least (searched s) [] (has s.seen) (λ k none. absurd (false≢true none)) (λ c there. none_false c (closed_all c there)) round_seen l h
