-- If every clause is settled, nothing follows.
use Rattle.std.proofs.Common.{◌≡◌, inl, inr, ℕ, Bool, true, false, not, ◌||◌, List, length, map, refl, sym, ap, ◌∙◌, subst, Option, Some, None, Contains}
use Rattle.std.specs.List.{list_any, list_all}
use Rattle.std.proofs.lemmas.Bool.{or_cases, false≢true}
use Rattle.sat_words.specs.Literal.{Literal, opposite, same}
use Rattle.sat_words.specs.Clause.{has, has_opposites}
use Rattle.sat_words.proofs.Members.{same-true, opposite-opposite}
use Rattle.rup_model.specs.Rounds.{falsifies, forces, Rounds}
use Rattle.rup_model.specs.Rup.{conflicts, rup}
use Rattle.rup_model.specs.Quiet.{IsQuiet}
use Rattle.rup_model.proofs.Lists.{In, In_any, none_In, all_In, has_In, In_has, In_map, map_In, In_Contains}
use Rattle.rup_model.proofs.RoundsLemmas.{Within, forces-parts, falsifies-Within}
use Rattle.rup_model.proofs.Closed.{Rounds-least}
use Rattle.simp_base.specs.WorkState.{lists}
use Rattle.simp_base.specs.Tables.{IsUnit}
use Rattle.simp_base.specs.Hinting.{lit_at, reason_at, TrueBefore, IsTrueBy, IsStart, IsTrail}
use Rattle.simp_base.specs.Search.{true_set, IsSettled}
use Rattle.simp_base.specs.declared.hints.trail.Step.{Step}
use Rattle.simp_base.proofs.TrueSet.{true_by, by_place}

not_true : (b : Bool) → (b ≡ true → ⊥) → b ≡ false
not_true true f = absurd (f refl)
not_true false f = refl

-- a quiet set with the negations of all literals of a clause shows that it doesn't follow
pub quiet_refutes : (G : List (List Literal)) (S : Literal → Bool) (c : List Literal) → IsQuiet G S → ((l : Literal) → has c l ≡ true → S (opposite l) ≡ true) → has_opposites c ≡ false → rup G c ≡ true → ⊥
unfolding rup conflicts
quiet_refutes G S c q all none e =
    elim (or_cases (has_opposites c) (list_any (falsifies (Rounds G (map opposite c))) G) e) as (λ _. ⊥) [
      | inl o ↦ false≢true (sym none ∙ o)
      | inr f ↦ (
          let d = In_any (falsifies (Rounds G (map opposite c))) G f in
          false≢true (sym (none_In (falsifies S) G d.0 q.open_yet d.1) ∙ falsifies-Within (Rounds G (map opposite c)) S within d.0 d.2))
    ]
  where
    start : Within (has (map opposite c)) S
    start l h = let m = map_In opposite c l (has_In (map opposite c) l h) in subst (λ (k : Literal). S k ≡ true) m.2 (all m.0 (In_has c m.0 m.1))

    within : Within (Rounds G (map opposite c)) S
    within = Rounds-least G (map opposite c) S start (λ d i. none_In (falsifies S) G d q.open_yet i) q.closed

module _ (G : List (List Literal)) (S : Literal → Bool) (consistent : (l : Literal) → S l ≡ true → S (opposite l) ≡ true → ⊥) (settled : (c : List Literal) → In c G → IsSettled S c) where
  not_falsified : (c : List Literal) → IsSettled S c → falsifies S c ≡ true → ⊥
  not_falsified c (inl t) f = consistent t.lit t.is_true (all_In (λ k. S (opposite k)) c t.lit f (has_In c t.lit t.there))
  not_falsified c (inr t) f = false≢true (sym t.open_first ∙ all_In (λ k. S (opposite k)) c t.first f (has_In c t.first t.has_first))

  -- the literal is the only one that isn't false
  only_open : (c : List Literal) (l k : Literal) → list_all (λ j. same l j || S (opposite j)) c ≡ true → has c k ≡ true → S (opposite k) ≡ false → l ≡ k
  only_open c l k others h o = elim (or_cases (same l k) (S (opposite k)) (all_In (λ j. same l j || S (opposite j)) c k others (has_In c k h))) as (λ _. l ≡ k) [
    | inl s ↦ same-true l k s
    | inr t ↦ absurd (false≢true (sym o ∙ t))
  ]

  forced_true : (c : List Literal) (l : Literal) → IsSettled S c → forces S l c ≡ true → S l ≡ true
  forced_true c l (inl t) f =
      let p = forces-parts S l c f in
      elim (or_cases (same l t.lit) (S (opposite t.lit)) (all_In (λ j. same l j || S (opposite j)) c t.lit p.2 (has_In c t.lit t.there))) as (λ _. S l ≡ true) [
        | inl s ↦ ap S (same-true l t.lit s) ∙ t.is_true
        | inr o ↦ absurd (consistent t.lit t.is_true o)
      ]
  forced_true c l (inr t) f =
      let p = forces-parts S l c f in
      absurd (t.differ (sym (only_open c l t.first p.2 t.has_first t.open_first) ∙ only_open c l t.second p.2 t.has_second t.open_second))

  pub settled_quiet : IsQuiet G S
  settled_quiet = record {
    open_yet = not_true (list_any (falsifies S) G) (λ e. (let d = In_any (falsifies S) G e in not_falsified d.0 (settled d.0 d.1) d.2));
    closed = λ l h. elim (or_cases (S l) (list_any (forces S l) G) h) as (λ _. S l ≡ true) [
      | inl t ↦ t
      | inr f ↦ (let d = In_any (forces S l) G f in forced_true d.0 l (settled d.0 d.1) d.2)
    ];
  }

-- no literal is true and false
module _ (cells : List (ℕ × List Literal)) (start : Literal → Bool) (steps : List Step) (s : IsStart cells start) (t : IsTrail cells start steps) where
  unit_place : (u : Literal) → IsUnit cells u → TrueBefore steps (length steps) (opposite u) → ⊥
  unit_place u is p = by (reason_at steps p.place) refl
    where
      by : (o : Option ℕ) → reason_at steps p.place ≡ o → ⊥
      by None e = false≢true (sym (s.open_yet u is) ∙ ap start (sym p.true_there) ∙ t.given p.place p.before e)
      by (Some n) e = t.apart p.place n p.before e u is (ap (λ (l : Literal). l.var) (sym p.true_there))

  two_places : (l : Literal) → TrueBefore steps (length steps) l → TrueBefore steps (length steps) (opposite l) → ⊥
  two_places l p q =
      let v : (lit_at steps p.place).var ≡ (lit_at steps q.place).var = ap (λ (k : Literal). k.var) p.true_there ∙ sym (ap (λ (k : Literal). k.var) q.true_there) in
      let e : p.place ≡ q.place = t.distinct p.place q.place p.before q.before v in
      differ l.neg (ap (λ (k : Literal). k.neg) (sym p.true_there ∙ ap (lit_at steps) e ∙ q.true_there))
    where
      differ : (b : Bool) → b ≡ not b → ⊥
      differ true e = false≢true (sym e)
      differ false e = false≢true e

  pub consistent : (l : Literal) → true_set cells steps l ≡ true → true_set cells steps (opposite l) ≡ true → ⊥
  consistent l a b = by (true_by cells steps l a) (true_by cells steps (opposite l) b)
    where
      by : IsTrueBy cells steps (length steps) l → IsTrueBy cells steps (length steps) (opposite l) → ⊥
      by (inl u) (inl v) = s.agree l u v
      by (inl u) (inr q) = unit_place l u q
      by (inr p) (inl v) = unit_place (opposite l) v (subst (TrueBefore steps (length steps)) (sym (opposite-opposite l)) p)
      by (inr p) (inr q) = two_places l p q

-- if every clause is settled, the clause whose negations were assumed doesn't follow
pub nothing_follows : (cells : List (ℕ × List Literal)) (lits : List Literal) (steps : List Step) → rup (lists cells) lits ≡ true → has_opposites lits ≡ false → IsStart cells (has (map opposite lits))
    → IsTrail cells (has (map opposite lits)) steps → ((n : ℕ) (c : List Literal) → Contains cells (n, c) → IsSettled (true_set cells steps) c) → ⊥
nothing_follows cells lits steps e none s t settled =
    quiet_refutes (lists cells) (true_set cells steps) lits
    (settled_quiet (lists cells) (true_set cells steps) (consistent cells (has (map opposite lits)) steps s t)
    (λ c i. let m = map_In (λ (x : ℕ × List Literal). x.1) cells c i in subst (IsSettled (true_set cells steps)) m.2 (settled m.0.0 m.0.1 (In_Contains cells m.0 m.1))))
    (λ l h. let a = t.all (opposite l) (In_has (map opposite lits) (opposite l) (In_map opposite lits l (has_In lits l h))) in by_place cells steps (opposite l) a.0 a.1 a.3)
    none e
