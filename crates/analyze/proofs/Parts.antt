-- The lemma that the walk and minimisation leave.
use Rattle.std.proofs.Common.{◌≡◌, ◌∙◌, ℕ, zero, suc, ◌+◌, ◌<◌, ◌≤◌, ◌⊎◌, Bool, true, false, not, cond, nat_eq, nat_lt, List, [], ◌∷◌, length, get_or, take, drop, add-one, drop-cons, map, filter, sym, refl, ap, subst, inl, inr, Contains, All, arith}
use Rattle.std.specs.List.{IsDistinct, AllByRecursion}
use Rattle.std.specs.Set.{is_member, distinct_count}
use Rattle.std.proofs.lemmas.Cmp.{nat_eq_equiv}
use Rattle.std.proofs.lemmas.List.{take_more}
use Rattle.std.proofs.lemmas.Map.Made.{is_member-filter}
use Rattle.std.proofs.lemmas.Bool.{false≢true, true≢false, or_right, or_cases, and_from, and_parts, eqb-true, eqb-false, lt-ltb, ltb-true, false_from_ne_true}
use Rattle.std.proofs.lemmas.Map.Keys.{IsDistinct-cons, IsDistinct-head, IsDistinct-tail}
use Rattle.std.proofs.lemmas.Map.Steps.{length-le_from_distinct_below}
use Rattle.sat_words.specs.Literal.{Literal, opposite}
use Rattle.sat_words.specs.Clause.{has, distinct_lits, has_opposites}
use Rattle.sat_words.proofs.Members.{opposite-opposite}
use Rattle.rup_model.specs.Rup.{rup}
use Rattle.rup_model.proofs.Lists.{In, In_get_or, In_map, map_In, In_has, has_In, In_any}
use Rattle.rup_model.proofs.Counting.{In_member, member_In}
use Rattle.ring_port.specs.PortState.{PortState, IsOn, known}
use Rattle.ring_port.specs.Port.{IsClause}
use Rattle.ring_trail.specs.declared.step.TrailStep.{TrailStep}
use Rattle.ring_trail.specs.TrailData.{TrailData, IsTrail, IsFalseClause, lit_at, level_at, var_at}
use Rattle.ring_trail.specs.Reasoned.{IsReasoned}
use Rattle.ring_port.proofs.Holdings.{All_In}
use Rattle.analyze.specs.AnalysisData.{IsVariable}
use Rattle.analyze.specs.Levels.{greatest, level_of_lit, levels_of, clause_level}
use Rattle.ring_port.specs.PortState.{clause_at}
use Rattle.analyze.specs.MarksData.{MarksData}
use Rattle.analyze.specs.Marks.{marked, IsMarking, IsWalked}
use Rattle.analyze.specs.Removable.{RestsOn, IsNeeded}
use Rattle.analyze.specs.Minimising.{removability_at, is_removable, is_known, is_kept, IsSettled, IsJudged, kept_of}
use Rattle.analyze.specs.declared.minimise.Removability.{Removability}
use Rattle.analyze.specs.Lemma.{negated_at, IsMinimisedClause, IsFalseAbove, IsLemma}
use Rattle.analyze.proofs.Chains.{has-map, rup-Refuted}
use Rattle.analyze.proofs.Marking.{listed_in_range, touched_few, member_push}
use Rattle.analyze.proofs.LevelLemmas.{level_of_lit-at}
use Rattle.analyze.specs.Tracing.{CanTraceClause}
use Rattle.analyze.proofs.Refuting.{Refuted-walk}
use Rattle.analyze.proofs.Supporting.{CanTraceClause-support}
use Rattle.analyze.proofs.Removing.{removable_is, removable_or_not, found_needed, removable_sound, needed_stays}

pub apart_In : (x : ℕ) (ys : List ℕ) (y : ℕ) → AllByRecursion (λ z. nat_eq x z ≡ false) ys → In y ys → nat_eq x y ≡ false
apart_In x [] y a h = absurd h
apart_In x (z ∷ ys) y a (inl e) = subst (λ (w : ℕ). nat_eq x w ≡ false) e a.0
apart_In x (z ∷ ys) y a (inr h) = apart_In x ys y a.1 h

pub all_apart : (x : ℕ) (ys : List ℕ) → ((y : ℕ) → In y ys → x ≡ y → ⊥) → AllByRecursion (λ z. nat_eq x z ≡ false) ys
all_apart x [] g = tt
all_apart x (y ∷ ys) g = (false_from_ne_true _ (λ e. g y (inl refl) (eqb-true x y e)), all_apart x ys (λ z h. g z (inr h)))

-- an entry of a list of places that differ isn't among those after it
distinct_behind : (xs : List ℕ) (i : ℕ) → IsDistinct nat_eq xs → i < length xs → is_member nat_eq (drop (suc i) xs) (get_or xs i 0) ≡ true → ⊥
distinct_behind [] i d h y = absurd (omega arith)
distinct_behind (x ∷ xs) zero d h y = eqb-false x x (apart_In x xs x (IsDistinct-head nat_eq x xs d) (member_In xs x y)) refl
distinct_behind (x ∷ xs) (suc i) d h y = distinct_behind xs i (IsDistinct-tail nat_eq x xs d) (omega arith) y

pub distinct_ahead : (xs : List ℕ) (i : ℕ) → IsDistinct nat_eq xs → i < length xs → is_member nat_eq (drop (i + 1) xs) (get_or xs i 0) ≡ true → ⊥
distinct_ahead xs i d h y = distinct_behind xs i d h (rw add-one at y)

-- what stands behind an entry stands behind the one before
pub member_ahead : (xs : List ℕ) (i p : ℕ) → i < length xs → is_member nat_eq (drop (i + 1) xs) p ≡ true → is_member nat_eq (drop i xs) p ≡ true
member_ahead xs i p h y = ap (λ (ys : List ℕ). is_member nat_eq ys p) (drop-cons xs i 0 h) ∙ or_right (nat_eq p (get_or xs i 0)) _ (rw add-one at y)

pub member_drop : (xs : List ℕ) (n p : ℕ) → is_member nat_eq (drop n xs) p ≡ true → is_member nat_eq xs p ≡ true
member_drop xs zero p y = y
member_drop [] (suc n) p y = y
member_drop (x ∷ xs) (suc n) p y = or_right (nat_eq p x) _ (member_drop xs n p y)

-- with one more place that is judged if it is of a lower level, those listed so far are judged
pub found_more : (steps : List TrailStep) (m i : ℕ) (ps : List ℕ) (vs ws : List Removability) → i < length ps
    → ((p : ℕ) → is_member nat_eq (take i ps) p ≡ true → level_at steps p < m → is_known vs p ≡ true)
    → ((p : ℕ) → is_known vs p ≡ true → is_known ws p ≡ true) → (level_at steps (get_or ps i 0) < m → is_known ws (get_or ps i 0) ≡ true)
    → (p : ℕ) → is_member nat_eq (take (i + 1) ps) p ≡ true → level_at steps p < m → is_known ws p ≡ true
found_more steps m i ps vs ws h found grown here p y low =
    let o = ap (λ (xs : List ℕ). is_member nat_eq xs p) (sym (take_more ps i 0 h)) ∙ y in
    elim (or_cases (is_member nat_eq (take i ps) p) (nat_eq p (get_or ps i 0)) (sym (member_push (take i ps) (get_or ps i 0) p) ∙ o)) as (λ _. is_known ws p ≡ true) [
      | inl old ↦ grown p (found p old low)
      | inr e ↦ (let s = eqb-true p (get_or ps i 0) e in subst (λ (q : ℕ). is_known ws q ≡ true) (sym s) (here (subst (λ (q : ℕ). level_at steps q < m) s low)))
    ]

-- what a filter keeps
filter_In : (f : ℕ → Bool) (xs : List ℕ) (x : ℕ) → In x (filter f xs) → In x xs × (f x ≡ true)
filter_In f xs x h =
    let b = and_parts (is_member nat_eq xs x) (f x) (sym (is_member-filter nat_eq_equiv f x (λ y e. ap f (eqb-true x y e)) xs) ∙ In_member (filter f xs) x h) in
    (member_In xs x b.0, b.1)

In_filter : (f : ℕ → Bool) (xs : List ℕ) (x : ℕ) → In x xs → f x ≡ true → In x (filter f xs)
In_filter f xs x h y =
    member_In (filter f xs) x (is_member-filter nat_eq_equiv f x (λ z e. ap f (eqb-true x z e)) xs ∙ and_from _ _ (In_member xs x h) y)

distinct_filter : (f : ℕ → Bool) (xs : List ℕ) → IsDistinct nat_eq xs → IsDistinct nat_eq (filter f xs)
distinct_filter f [] d = d
distinct_filter f (x ∷ xs) d = by (f x) (distinct_filter f xs (IsDistinct-tail nat_eq x xs d))
  where
    apart : AllByRecursion (λ z. nat_eq x z ≡ false) (filter f xs)
    apart = all_apart x (filter f xs) (λ y h e. eqb-false x y (apart_In x xs y (IsDistinct-head nat_eq x xs d) (filter_In f xs y h).0) e)

    by : (b : Bool) → IsDistinct nat_eq (filter f xs) → IsDistinct nat_eq (cond b (x ∷ filter f xs) (filter f xs))
    by true r = IsDistinct-cons nat_eq x (filter f xs) apart r
    by false r = r

-- no literal is its own opposite
pub own_opposite : (l : Literal) → l ≡ opposite l → ⊥
own_opposite l e = by l.neg (ap (λ (x : Literal). x.neg) e)
  where
    by : (b : Bool) → b ≡ not b → ⊥
    by true e = true≢false e
    by false e = false≢true e

-- the levels of the negations are those of the places
levels_at : (t : TrailData) (ps : List ℕ) → IsTrail t → ((p : ℕ) → In p ps → p < length t.steps) → levels_of t.steps (map (negated_at t.steps) ps) ≡ map (level_at t.steps) ps
levels_at t [] shape h = refl
levels_at t (p ∷ ps) shape h =
    let a = level_of_lit-at t (negated_at t.steps p) p shape (record { in_range = h p (inl refl); var = refl }) in
    let r = levels_at t ps shape (λ q i. h q (inr i)) in
    cc

-- places that differ have literals that differ
distinct_negated : (t : TrailData) (ps : List ℕ) → IsTrail t → IsDistinct nat_eq ps → ((p : ℕ) → In p ps → p < length t.steps) → distinct_lits (map (negated_at t.steps) ps) ≡ true
distinct_negated t [] shape d h = refl
distinct_negated t (p ∷ ps) shape d h =
    let rest = map (negated_at t.steps) ps in
    let no : has rest (negated_at t.steps p) ≡ false = false_from_ne_true _ (λ y.
    let q = map_In (negated_at t.steps) ps (negated_at t.steps p) (has_In rest (negated_at t.steps p) y) in
    let e : p ≡ q.0 = shape.distinct p q.0 (h p (inl refl)) (h q.0 (inr q.1)) (sym (ap (λ (l : Literal). l.var) q.2)) in
    eqb-false p q.0 (apart_In p ps q.0 (IsDistinct-head nat_eq p ps d) q.1) e) in
    and_from _ _ (ap not no) (distinct_negated t ps shape (IsDistinct-tail nat_eq p ps d) (λ q i. h q (inr i)))

-- the negations of true literals have no opposites among them
no_opposites : (t : TrailData) (ps : List ℕ) → IsTrail t → ((p : ℕ) → In p ps → p < length t.steps) → has_opposites (map (negated_at t.steps) ps) ≡ false
no_opposites t ps shape h = false_from_ne_true _ (λ y.
    let lits = map (negated_at t.steps) ps in
    let l = In_any (λ (k : Literal). has lits (opposite k)) lits y in
    let p = map_In (negated_at t.steps) ps l.0 l.1 in
    let q = map_In (negated_at t.steps) ps (opposite l.0) (has_In lits (opposite l.0) l.2) in
    let e : p.0 ≡ q.0 = shape.distinct p.0 q.0 (h p.0 p.1) (h q.0 q.1) (ap (λ (k : Literal). k.var) p.2 ∙ sym (ap (λ (k : Literal). k.var) q.2)) in
    own_opposite l.0 (sym p.2 ∙ ap (negated_at t.steps) e ∙ q.2))

module _ (s : PortState) (t : TrailData) (c : List Literal) (u : ℕ) (ms : MarksData Bool) (vs : MarksData Removability)
    (shape : IsTrail t) (reasoned : IsReasoned (clause_at s) s.seen t.steps) (inG : Contains (known s) c) (bad : IsFalseClause t.steps c)
    (k : IsMarking t.steps t.vars (clause_level t.steps c) ms) (w : IsWalked (clause_at s) t.steps (clause_level t.steps c) c ms.values u) (pos : 1 ≤ clause_level t.steps c)
    (j : IsJudged (clause_at s) t.steps t.vars ms.values vs) (found : (p : ℕ) → marked ms.values p ≡ true → level_at t.steps p < clause_level t.steps c → is_known vs.values p ≡ true) where
  -- the places of the lemma, except the point
  kept_places : List ℕ
  kept_places = kept_of t.steps (clause_level t.steps c) vs.values ms.touched

  kept_places_are : (p : ℕ) → In p kept_places → (marked ms.values p ≡ true) × (level_at t.steps p < clause_level t.steps c) × (not (is_removable (removability_at vs.values p)) ≡ true)
  unfolding kept_places
  kept_places_are p h =
      let f = filter_In (is_kept t.steps (clause_level t.steps c) vs.values) ms.touched p h in
      let b = and_parts (nat_lt (level_at t.steps p) (clause_level t.steps c)) (not (is_removable (removability_at vs.values p))) f.1 in
      (sym (k.listed p) ∙ In_member ms.touched p f.0, ltb-true _ _ b.0, b.1)

  kept_places_marked : (p : ℕ) → In p kept_places → (marked ms.values p ≡ true) × (level_at t.steps p < clause_level t.steps c)
  kept_places_marked p h = let a = kept_places_are p h in (a.0, a.1)

  In_kept_places : (p : ℕ) → marked ms.values p ≡ true → level_at t.steps p < clause_level t.steps c → not (is_removable (removability_at vs.values p)) ≡ true → In p kept_places
  unfolding kept_places
  In_kept_places p y low n =
      In_filter (is_kept t.steps (clause_level t.steps c) vs.values) ms.touched p (member_In ms.touched p (k.listed p ∙ y)) (and_from _ _ (lt-ltb _ _ low) n)

  places_lt : (p : ℕ) → In p (u ∷ kept_places) → p < length t.steps
  places_lt p (inl e) = let h = w.point.in_range in omega arith
  places_lt p (inr h) = k.in_range p (kept_places_marked p h).0

  places_above : (p : ℕ) → In p (u ∷ kept_places) → 0 < level_at t.steps p
  places_above p (inl e) = subst (λ (q : ℕ). 0 < level_at t.steps q) e (let l = w.point.level in omega arith)
  places_above p (inr h) = k.above p (kept_places_marked p h).0

  level_here : (p : ℕ) → p < length t.steps → level_of_lit t.steps (negated_at t.steps p) ≡ level_at t.steps p
  level_here p h = level_of_lit-at t (negated_at t.steps p) p shape (record { in_range = h; var = refl })

  kept_places_distinct : IsDistinct nat_eq kept_places
  unfolding kept_places
  kept_places_distinct = distinct_filter (is_kept t.steps (clause_level t.steps c) vs.values) ms.touched k.distinct

  places_distinct : IsDistinct nat_eq (u ∷ kept_places)
  places_distinct = IsDistinct-cons nat_eq u kept_places (all_apart u kept_places (λ p h e. let l = (kept_places_marked p h).1 in let i = w.point.level in let z = ap (level_at t.steps) e in omega arith)) kept_places_distinct

  lemma_lits : List Literal
  lemma_lits = map (negated_at t.steps) (u ∷ kept_places)

  in_lemma : (p : ℕ) → In p (u ∷ kept_places) → has (map opposite lemma_lits) (lit_at t.steps p) ≡ true
  unfolding lemma_lits
  in_lemma p h =
      subst (λ (x : Literal). has (map opposite lemma_lits) x ≡ true) (opposite-opposite (lit_at t.steps p))
      (has-map opposite lemma_lits (negated_at t.steps p) (In_has lemma_lits (negated_at t.steps p) (In_map (negated_at t.steps) (u ∷ kept_places) p h)))

  -- what was removed
  removed : ℕ → Bool
  removed q = is_removable (removability_at vs.values q)

  removed_rests : (p : ℕ) → removed p ≡ true → RestsOn (clause_at s) t.steps (λ q. (marked ms.values q ≡ true) ⊎ (removed q ≡ true)) p
  unfolding removed
  removed_rests p y =
      let o : RestsOn (clause_at s) t.steps (IsSettled ms.values vs.values) p = j.cleared p (removable_is (removability_at vs.values p) y) in
      record {
        lits = o.lits;
        reason = o.reason;
        others = λ q b f. elim (o.others q b f) as (λ _. (marked ms.values q ≡ true) ⊎ (is_removable (removability_at vs.values q) ≡ true)) [ inl m ↦ inl m | inr e ↦ inr (ap is_removable e) ];
      }

  lemma_lower : (p : ℕ) → marked ms.values p ≡ true → level_at t.steps p < clause_level t.steps c → (removed p ≡ true) ⊎ (has (map opposite lemma_lits) (lit_at t.steps p) ≡ true)
  unfolding removed
  lemma_lower p y low = elim (removable_or_not (removability_at vs.values p)) as (λ _. (is_removable (removability_at vs.values p) ≡ true) ⊎ (has (map opposite lemma_lits) (lit_at t.steps p) ≡ true)) [
    | inl e ↦ inl e
    | inr n ↦ inr (in_lemma p (inr (In_kept_places p y low n)))
  ]

  lemma_implied : rup (known s) lemma_lits ≡ true
  lemma_implied =
      rup-Refuted (known s) lemma_lits
      (Refuted-walk s t (clause_level t.steps c) u c ms.values removed (map opposite lemma_lits) shape reasoned inG bad w k.within pos removed_rests (in_lemma u (inl refl)) lemma_lower)

  lemma_clause : IsClause t.vars lemma_lits
  unfolding lemma_lits
  lemma_clause = record {
    on = λ i d lt. (
        let p = map_In (negated_at t.steps) (u ∷ kept_places) (get_or lemma_lits i d) (In_get_or lemma_lits i d lt) in
        subst (λ (l : Literal). IsOn t.vars l) p.2 (record { low = shape.low p.0 (places_lt p.0 p.1); high = shape.high p.0 (places_lt p.0 p.1) }));
    distinct = distinct_negated t (u ∷ kept_places) shape places_distinct places_lt;
    no_opposites = no_opposites t (u ∷ kept_places) shape places_lt;
  }

  lemma_minimised : IsMinimisedClause s t.steps c (negated_at t.steps u) (map (negated_at t.steps) kept_places)
  lemma_minimised = record {
    place = u;
    point = w.point;
    first_is = refl;
    all = λ p n. In_has (map (negated_at t.steps) kept_places) (negated_at t.steps p) (In_map (negated_at t.steps) kept_places p (needed_In p n));
    only = λ l h. (
        let p = map_In (negated_at t.steps) kept_places l (has_In (map (negated_at t.steps) kept_places) l h) in
        (p.0, In_needed p.0 p.1, sym p.2));
  }
    where
      needed_In : (p : ℕ) → IsNeeded (clause_at s) t.steps (clause_level t.steps c) c u p → In p kept_places
      needed_In p n =
          let y = w.complete p n.left.reached in
          elim (removable_or_not (removability_at vs.values p)) as (λ _. In p kept_places) [
            | inl e ↦ absurd (n.not_removable (removable_sound (clause_at s) t ms.values vs (clause_level t.steps c) c u shape j w (suc p) p (omega arith) n.left.in_range n.left.lower (removable_is (removability_at vs.values p) e)))
            | inr stay ↦ In_kept_places p y n.left.lower stay
          ]

      In_needed : (p : ℕ) → In p kept_places → IsNeeded (clause_at s) t.steps (clause_level t.steps c) c u p
      In_needed p h =
          let a = kept_places_are p h in
          record {
            left = record { in_range = k.in_range p a.0; above = k.above p a.0; lower = a.1; reached = w.sound p a.0 };
            not_removable = needed_stays (clause_at s) t ms.values vs (clause_level t.steps c) c u shape j w p (found_needed (removability_at vs.values p) (found p a.0 a.1) a.2);
          }

  IsLemma-walked : (back glue : ℕ) → back ≡ greatest (map (level_at t.steps) kept_places) → glue ≡ distinct_count nat_eq (map (level_at t.steps) kept_places) → IsLemma s t c lemma_lits back glue
  unfolding lemma_lits
  IsLemma-walked back glue b g = record {
    first = negated_at t.steps u;
    rest = map (negated_at t.steps) kept_places;
    parts = refl;
    implied = lemma_implied;
    clause = lemma_clause;
    all_false = λ l h. literal_false l (map_In (negated_at t.steps) (u ∷ kept_places) l (has_In lemma_lits l h));
    asserting = level_here u w.point.in_range ∙ w.point.level;
    below = λ l h. literal_low l (map_In (negated_at t.steps) kept_places l (has_In (map (negated_at t.steps) kept_places) l h));
    back_is = b ∙ ap greatest (sym (levels_at t kept_places shape (λ p h. places_lt p (inr h))));
    glue_is = g ∙ ap (distinct_count nat_eq) (sym (levels_at t kept_places shape (λ p h. places_lt p (inr h))));
    minimised = lemma_minimised;
  }
    where
      literal_false : (l : Literal) → ((p : ℕ) × In p (u ∷ kept_places) × (negated_at t.steps p ≡ l)) → IsFalseAbove t.steps l
      literal_false l p = record {
        false_now = record { place = p.0; before = places_lt p.0 p.1; false_there = sym (opposite-opposite (lit_at t.steps p.0)) ∙ ap opposite p.2 };
        above = (let e = ap (level_of_lit t.steps) p.2 in let a = places_above p.0 p.1 in let h = level_here p.0 (places_lt p.0 p.1) in omega arith);
      }

      literal_low : (l : Literal) → ((p : ℕ) × In p kept_places × (negated_at t.steps p ≡ l)) → level_of_lit t.steps l < clause_level t.steps c
      literal_low l p =
          let e = ap (level_of_lit t.steps) p.2 in
          let a = (kept_places_marked p.0 p.1).1 in
          let h = level_here p.0 (places_lt p.0 (inr p.1)) in
          omega arith

  in_line : (p : ℕ) → In p (u ∷ kept_places) → has lemma_lits (negated_at t.steps p) ≡ true
  unfolding lemma_lits
  in_line p h = In_has lemma_lits (negated_at t.steps p) (In_map (negated_at t.steps) (u ∷ kept_places) p h)

  line_lower : (p : ℕ) → marked ms.values p ≡ true → level_at t.steps p < clause_level t.steps c → (removed p ≡ true) ⊎ (has lemma_lits (opposite (lit_at t.steps p)) ≡ true)
  unfolding removed
  line_lower p y low = elim (removable_or_not (removability_at vs.values p)) as (λ _. (is_removable (removability_at vs.values p) ≡ true) ⊎ (has lemma_lits (opposite (lit_at t.steps p)) ≡ true)) [
    | inl e ↦ inl e
    | inr n ↦ inr (in_line p (inr (In_kept_places p y low n)))
  ]

  none_true : (p : ℕ) → p < length t.steps → has lemma_lits (lit_at t.steps p) ≡ false
  unfolding lemma_lits
  none_true p lt = false_from_ne_true _ (λ y.
      let q = map_In (negated_at t.steps) (u ∷ kept_places) (lit_at t.steps p) (has_In lemma_lits (lit_at t.steps p) y) in
      let e : q.0 ≡ p = shape.distinct q.0 p (places_lt q.0 q.1) lt (ap (λ (l : Literal). l.var) q.2) in
      own_opposite (lit_at t.steps p) (sym (ap (negated_at t.steps) (sym e) ∙ q.2)))

  -- what the walk marked or minimisation removed is a support of the lemma
  CanTraceClause-walked : CanTraceClause (clause_at s) t.steps lemma_lits c
  CanTraceClause-walked =
      CanTraceClause-support (clause_at s) s.seen t (clause_level t.steps c) u c ms.values removed lemma_lits shape reasoned bad w k.within pos removed_rests (in_line u (inl refl)) line_lower none_true

-- so hints can be found for the lemma
pub CanTraceClause-from : (s : PortState) (t : TrailData) (m : ℕ) (c : List Literal) (u : ℕ) (ms : MarksData Bool) (vs : MarksData Removability)
    → IsTrail t → IsReasoned (clause_at s) s.seen t.steps → Contains (known s) c → IsFalseClause t.steps c → m ≡ clause_level t.steps c → 1 ≤ m
    → IsMarking t.steps t.vars m ms → IsWalked (clause_at s) t.steps m c ms.values u
    → IsJudged (clause_at s) t.steps t.vars ms.values vs → ((p : ℕ) → marked ms.values p ≡ true → level_at t.steps p < m → is_known vs.values p ≡ true)
    → CanTraceClause (clause_at s) t.steps (negated_at t.steps u ∷ map (negated_at t.steps) (kept_of t.steps m vs.values ms.touched)) c
CanTraceClause-from s t m c u ms vs shape reasoned inG bad e pos k w j found =
    subst (λ (n : ℕ). 1 ≤ n → IsMarking t.steps t.vars n ms → IsWalked (clause_at s) t.steps n c ms.values u → ((p : ℕ) → marked ms.values p ≡ true → level_at t.steps p < n → is_known vs.values p ≡ true)
    → CanTraceClause (clause_at s) t.steps (negated_at t.steps u ∷ map (negated_at t.steps) (kept_of t.steps n vs.values ms.touched)) c) (sym e)
    (λ p k w f. unfold lemma_lits in unfold kept_places in CanTraceClause-walked s t c u ms vs shape reasoned inG bad k w p j f) pos k w found

-- what the walk marked and minimisation kept makes the lemma
pub IsLemma-from : (s : PortState) (t : TrailData) (m : ℕ) (c : List Literal) (u : ℕ) (ms : MarksData Bool) (vs : MarksData Removability)
    → IsTrail t → IsReasoned (clause_at s) s.seen t.steps → Contains (known s) c → IsFalseClause t.steps c → m ≡ clause_level t.steps c → 1 ≤ m
    → IsMarking t.steps t.vars m ms → IsWalked (clause_at s) t.steps m c ms.values u
    → IsJudged (clause_at s) t.steps t.vars ms.values vs → ((p : ℕ) → marked ms.values p ≡ true → level_at t.steps p < m → is_known vs.values p ≡ true)
    → (back glue : ℕ) → back ≡ greatest (map (level_at t.steps) (kept_of t.steps m vs.values ms.touched)) → glue ≡ distinct_count nat_eq (map (level_at t.steps) (kept_of t.steps m vs.values ms.touched))
    → IsLemma s t c (negated_at t.steps u ∷ map (negated_at t.steps) (kept_of t.steps m vs.values ms.touched)) back glue
IsLemma-from s t m c u ms vs shape reasoned inG bad e pos k w j found back glue b g =
    subst (λ (n : ℕ). 1 ≤ n → IsMarking t.steps t.vars n ms → IsWalked (clause_at s) t.steps n c ms.values u → ((p : ℕ) → marked ms.values p ≡ true → level_at t.steps p < n → is_known vs.values p ≡ true)
    → back ≡ greatest (map (level_at t.steps) (kept_of t.steps n vs.values ms.touched)) → glue ≡ distinct_count nat_eq (map (level_at t.steps) (kept_of t.steps n vs.values ms.touched))
    → IsLemma s t c (negated_at t.steps u ∷ map (negated_at t.steps) (kept_of t.steps n vs.values ms.touched)) back glue) (sym e)
    (λ p k w f b g. from p k w f b g) pos k w found b g
  where
    from : 1 ≤ clause_level t.steps c → IsMarking t.steps t.vars (clause_level t.steps c) ms → IsWalked (clause_at s) t.steps (clause_level t.steps c) c ms.values u
        → ((p : ℕ) → marked ms.values p ≡ true → level_at t.steps p < clause_level t.steps c → is_known vs.values p ≡ true)
        → back ≡ greatest (map (level_at t.steps) (kept_of t.steps (clause_level t.steps c) vs.values ms.touched)) → glue ≡ distinct_count nat_eq (map (level_at t.steps) (kept_of t.steps (clause_level t.steps c) vs.values ms.touched))
        → IsLemma s t c (negated_at t.steps u ∷ map (negated_at t.steps) (kept_of t.steps (clause_level t.steps c) vs.values ms.touched)) back glue
    from p k w f b g = unfold lemma_lits in unfold kept_places in IsLemma-walked s t c u ms vs shape reasoned inG bad k w p j f back glue b g

module _ (t : TrailData) (m : ℕ) (ms : MarksData Bool) (shape : IsTrail t) (k : IsMarking t.steps t.vars m ms) where
  listed_lt : (p : ℕ) → In p ms.touched → p < length t.steps
  listed_lt p h = listed_in_range t m ms shape k p (In_member ms.touched p h)

  pub touched_in_range : All (λ p. p < length t.steps) ms.touched
  touched_in_range i d h = listed_lt (get_or ms.touched i d) (In_get_or ms.touched i d h)

  pub touched_short : length ms.touched ≤ length t.steps
  touched_short = touched_few t m ms shape k

  module _ (vs : List Removability) where
    pub kept_listed : (p : ℕ) → In p (kept_of t.steps m vs ms.touched) → In p ms.touched
    kept_listed p h = (filter_In (is_kept t.steps m vs) ms.touched p h).0

    pub kept_in_range : All (λ p. p < length t.steps) (kept_of t.steps m vs ms.touched)
    kept_in_range i d h = listed_lt (get_or (kept_of t.steps m vs ms.touched) i d) (kept_listed (get_or (kept_of t.steps m vs ms.touched) i d) (In_get_or (kept_of t.steps m vs ms.touched) i d h))

    pub kept_few : length (kept_of t.steps m vs ms.touched) ≤ length t.steps
    kept_few = length-le_from_distinct_below (kept_of t.steps m vs ms.touched) (length t.steps) (distinct_filter (is_kept t.steps m vs) ms.touched k.distinct)
        (λ q y. listed_lt q (kept_listed q (member_In (kept_of t.steps m vs ms.touched) q y)))

-- the literals of a trail are on its variables
pub vars_of_trail : (t : TrailData) (n : ℕ) (places : List ℕ) → IsTrail t → t.vars ≡ n → All (λ p. p < length t.steps) places → All (IsVariable n) (map (var_at t.steps) places)
vars_of_trail t n places shape is inside = λ i d h.
    let at = map_In (var_at t.steps) places (get_or (map (var_at t.steps) places) i d) (In_get_or (map (var_at t.steps) places) i d h) in
    let lt : at.0 < length t.steps = All_In (λ p. p < length t.steps) places at.0 inside at.1 in
    let high = shape.high at.0 lt in
    subst (IsVariable n) at.2 (record { low = shape.low at.0 lt; high = omega (arith, is, high) })
