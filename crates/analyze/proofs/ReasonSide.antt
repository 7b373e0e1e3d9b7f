-- Marks on the reason side, and the variables that are bumped.
use Rattle.std.proofs.Common.{◌≡◌, ◌∙◌, ℕ, ◌+◌, ◌<◌, ◌≤◌, ◌⊎◌, Bool, true, nat_eq, List, [], ◌∷◌, ◌++◌, length, get_or, take, map, sym, refl, ap, subst, inl, inr, Contains, All, arith}
use Rattle.std.specs.List.{IsDistinct}
use Rattle.std.proofs.lemmas.List.{take_more}
use Rattle.std.proofs.lemmas.Map.Keys.{IsDistinct-cons, IsDistinct-head, IsDistinct-tail}
use Rattle.std.proofs.lemmas.Bool.{eqb-false}
use Rattle.sat_words.specs.Literal.{Literal}
use Rattle.rup_model.proofs.Lists.{In, In_get_or, In_map, map_In, In_has, has_In, In_append, In_append_left, In_append_right, Contains_In, In_Contains}
use Rattle.rup_model.proofs.Counting.{In_member, member_In}
use Rattle.ring_port.proofs.Holdings.{All_In}
use Rattle.ring_trail.specs.declared.step.TrailStep.{TrailStep}
use Rattle.ring_trail.specs.TrailData.{TrailData, IsTrail, var_at}
use Rattle.ring_trail.specs.Reasoned.{Held}
use Rattle.analyze.specs.Levels.{clause_level}
use Rattle.analyze.specs.MarksData.{MarksData}
use Rattle.analyze.specs.Marks.{marked, IsMarking, IsWalked}
use Rattle.analyze.specs.Lemma.{negated_at}
use Rattle.analyze.specs.Minimising.{kept_of}
use Rattle.analyze.specs.declared.minimise.Removability.{Removability}
use Rattle.analyze.specs.ReasonSide.{IsInReason, IsAnalyzed, AreAnalyzed, IsUpTo, HasMarkedReasons}
use Rattle.analyze.proofs.Parts.{apart_In, all_apart, kept_listed}

-- one more place
HasMarkedReasons-push : (held : Held) (steps : List TrailStep) (a b d : List Bool) (ps : List ℕ) (p : ℕ) → HasMarkedReasons held steps a b ps → HasMarkedReasons held steps b d (p ∷ [])
    → HasMarkedReasons held steps a d (ps ++ p ∷ [])
HasMarkedReasons-push held steps a b d ps p x y = record {
  kept = λ q h. y.kept q (x.kept q h);
  only = λ q h. elim (y.only q h) as (λ _. (marked a q ≡ true) ⊎ ((r : ℕ) × Contains (ps ++ p ∷ []) r × IsInReason held steps r q)) [
    | inl old ↦ elim (x.only q old) as (λ _. (marked a q ≡ true) ⊎ ((r : ℕ) × Contains (ps ++ p ∷ []) r × IsInReason held steps r q)) [
      | inl older ↦ inl older
      | inr r ↦ inr (r.0, In_Contains (ps ++ p ∷ []) r.0 (In_append_left ps (p ∷ []) r.0 (Contains_In ps r.0 r.1)), r.2)
    ]
    | inr r ↦ inr (r.0, In_Contains (ps ++ p ∷ []) r.0 (In_append_right ps (p ∷ []) r.0 (Contains_In (p ∷ []) r.0 r.1)), r.2)
  ];
  all = λ r q at i. elim (In_append ps (p ∷ []) r (Contains_In (ps ++ p ∷ []) r at)) as (λ _. marked d q ≡ true) [
    | inl old ↦ y.kept q (x.all r q (In_Contains ps r old) i)
    | inr new ↦ y.all r q (In_Contains (p ∷ []) r new) i
  ];
}

pub HasMarkedReasons-more : (held : Held) (steps : List TrailStep) (a b d : List Bool) (u : ℕ) (ps : List ℕ) (i : ℕ) → i < length ps
    → HasMarkedReasons held steps a b (u ∷ take i ps) → HasMarkedReasons held steps b d (get_or ps i 0 ∷ []) → HasMarkedReasons held steps a d (u ∷ take (i + 1) ps)
HasMarkedReasons-more held steps a b d u ps i h x y =
    subst (λ (xs : List ℕ). HasMarkedReasons held steps a d (u ∷ xs)) (sym (take_more ps i 0 h))
    (HasMarkedReasons-push held steps a b d (u ∷ take i ps) (get_or ps i 0) x y)

-- places that differ have variables that differ
distinct_vars : (t : TrailData) (ps : List ℕ) → IsTrail t → IsDistinct nat_eq ps → ((p : ℕ) → In p ps → p < length t.steps) → IsDistinct nat_eq (map (var_at t.steps) ps)
distinct_vars t [] shape d h = d
distinct_vars t (p ∷ ps) shape d h =
    IsDistinct-cons nat_eq (var_at t.steps p) (map (var_at t.steps) ps)
    (all_apart (var_at t.steps p) (map (var_at t.steps) ps) (λ v i e.
    let q = map_In (var_at t.steps) ps v i in
    let same : p ≡ q.0 = shape.distinct p q.0 (h p (inl refl)) (h q.0 (inr q.1)) (e ∙ sym q.2) in
    eqb-false p q.0 (apart_In p ps q.0 (IsDistinct-head nat_eq p ps d) q.1) same))
    (distinct_vars t ps shape (IsDistinct-tail nat_eq p ps d) (λ q i. h q (inr i)))

-- the point is above level 0, and of a level up to m
pub point_up_to : (held : Held) (steps : List TrailStep) (m : ℕ) (c : List Literal) (ms : List Bool) (u : ℕ) → 1 ≤ m → IsWalked held steps m c ms u → IsUpTo steps m u
point_up_to held steps m c ms u pos w = let l = w.point.level in record { in_range = w.point.in_range; above = omega arith; within = omega arith }

module _ (t : TrailData) (m : ℕ) (ms : MarksData Bool) (k : IsMarking t.steps t.vars m ms) where
  listed_up_to : (p : ℕ) → In p ms.touched → IsUpTo t.steps m p
  listed_up_to p h =
      let y = sym (k.listed p) ∙ In_member ms.touched p h in
      let a = k.above p y in
      record { in_range = k.in_range p y; above = omega arith; within = k.within p y }

  pub kept_up_to : (vs : List Removability) → IsTrail t → All (IsUpTo t.steps m) (kept_of t.steps m vs ms.touched)
  kept_up_to vs shape = λ i d h. listed_up_to (get_or (kept_of t.steps m vs ms.touched) i d) (kept_listed t m ms shape k vs _ (In_get_or (kept_of t.steps m vs ms.touched) i d h))

-- the variables of the marked places, after the reason side is marked
pub AreAnalyzed-from : (held : Held) (t : TrailData) (m : ℕ) (c : List Literal) (u : ℕ) (ms : List Bool) (more : MarksData Bool) (rest : List ℕ) → IsTrail t → m ≡ clause_level t.steps c
    → IsWalked held t.steps m c ms u → IsMarking t.steps t.vars m more → All (IsUpTo t.steps m) rest → HasMarkedReasons held t.steps ms more.values (u ∷ rest)
    → AreAnalyzed held t.steps c (negated_at t.steps u ∷ map (negated_at t.steps) rest) (map (var_at t.steps) more.touched)
AreAnalyzed-from held t m c u ms more rest shape e walked k inside marks = record {
  place = u;
  point = w.point;
  all = λ q h. variable q (by_all q h);
  only = λ v h. (
      let q = map_In (var_at t.steps) more.touched v (Contains_In (map (var_at t.steps) more.touched) v h) in
      (q.0, by_only q.0 (marks.only q.0 (sym (k.listed q.0) ∙ In_member more.touched q.0 q.1)), sym q.2));
  distinct = distinct_vars t more.touched shape k.distinct (λ p h. k.in_range p (sym (k.listed p) ∙ In_member more.touched p h));
}
  where
    w : IsWalked held t.steps (clause_level t.steps c) c ms u
    w = subst (λ (n : ℕ). IsWalked held t.steps n c ms u) e walked

    places_lt : (p : ℕ) → In p (u ∷ rest) → p < length t.steps
    places_lt p (inl same) = let h = w.point.in_range in omega arith
    places_lt p (inr h) = (All_In (IsUpTo t.steps m) rest p inside h).in_range

    variable : (q : ℕ) → marked more.values q ≡ true → Contains (map (var_at t.steps) more.touched) (var_at t.steps q)
    variable q y = In_Contains (map (var_at t.steps) more.touched) (var_at t.steps q) (In_map (var_at t.steps) more.touched q (member_In more.touched q (k.listed q ∙ y)))

    by_all : (q : ℕ) → IsAnalyzed held t.steps c (map (negated_at t.steps) (u ∷ rest)) u q → marked more.values q ≡ true
    by_all q (inl r) = marks.kept q (w.complete q r)
    by_all q (inr s) = (
        let p = map_In (negated_at t.steps) (u ∷ rest) (negated_at t.steps s.place) (has_In (map (negated_at t.steps) (u ∷ rest)) (negated_at t.steps s.place) s.in_lemma) in
        let same : p.0 ≡ s.place = shape.distinct p.0 s.place (places_lt p.0 p.1) s.in_range (ap (λ (l : Literal). l.var) p.2) in
        marks.all s.place q (In_Contains (u ∷ rest) s.place (subst (λ (r : ℕ). In r (u ∷ rest)) same p.1)) s.in_reason)

    by_only : (q : ℕ) → (marked ms q ≡ true) ⊎ ((p : ℕ) × Contains (u ∷ rest) p × IsInReason held t.steps p q) → IsAnalyzed held t.steps c (map (negated_at t.steps) (u ∷ rest)) u q
    by_only q (inl y) = inl (w.sound q y)
    by_only q (inr r) = (
        let h = Contains_In (u ∷ rest) r.0 r.1 in
        inr (record {
          place = r.0;
          in_range = places_lt r.0 h;
          in_lemma = In_has (map (negated_at t.steps) (u ∷ rest)) (negated_at t.steps r.0) (In_map (negated_at t.steps) (u ∷ rest) r.0 h);
          in_reason = r.2;
        }))
