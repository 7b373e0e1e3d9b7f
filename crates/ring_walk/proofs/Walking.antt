-- A walk begins, and goes on by one step.
use Rattle.std.proofs.Common.{◌≡◌, ◌∙◌, ℕ, zero, suc, ◌+◌, ◌-◌, ◌<◌, ◌≤◌, ◌==◌, Bool, not, List, length, refl, sym, ap, subst, inl, inr, ◌⊎◌, arith}
use Rattle.std.specs.Prelude.{if◌then◌else◌}
use Rattle.std.proofs.Math.Numerals.{add-one}
use Rattle.std.proofs.lemmas.Bool.{cases_lt, eq-eqb, ne_eqb}
use Rattle.std.proofs.lemmas.List.{length-set}
use Rattle.rand_pcg.specs.Lcg.{Lcg}
use Rattle.sat_words.specs.Literal.{Literal}
use Rattle.sat_words.specs.Truth.{value_of}
use Rattle.ring_walk.specs.WalkData.{WalkData, false_under}
use Rattle.ring_walk.specs.Walk.{Stand, stand_of, IsStep, MakesSteps, HasWalked, whole_weight, next_drawn}

-- no step was made yet
pub begun : (w : WalkData) (g : Lcg) → MakesSteps w g 0 (false_under w.clauses w.values) (record w { best = w.values }) g
begun w g = record {
  met = λ _. stand_of w g;
  first = refl;
  last = refl;
  each = λ k lt. absurd (omega arith);
  same = refl;
  counted = refl;
  best = (0, omega arith, refl);
  least = λ k le. omega arith;
}

-- where a walk stood, and where it stands after one step more
extend : (ℕ → Stand) → ℕ → Stand → ℕ → Stand
extend met made s k = if k == made + 1 then s else met k

extend-here : (met : ℕ → Stand) (made : ℕ) (s : Stand) → extend met made s (made + 1) ≡ s
unfolding extend
extend-here met made s = ap (λ (b : Bool). if b then s else met (made + 1)) (eq-eqb (made + 1) (made + 1) refl)

extend-before : (met : ℕ → Stand) (made : ℕ) (s : Stand) (k : ℕ) → k ≤ made → extend met made s k ≡ met k
unfolding extend
extend-before met made s k le = ap (λ (b : Bool). if b then s else met k) (ne_eqb k (made + 1) (λ e. omega arith))

module _ (old w v : WalkData) (g h n : Lcg) (made count : ℕ) (was : MakesSteps old g made count w h) (step : IsStep w.clauses w.fixed (stand_of w h) (stand_of v n)) (same : v ≡ record w { values = v.values; order = v.order }) where
  clauses_is : w.clauses ≡ old.clauses
  clauses_is = ap (λ (x : WalkData). x.clauses) was.same

  fixed_is : w.fixed ≡ old.fixed
  fixed_is = ap (λ (x : WalkData). x.fixed) was.same

  pub clauses_then : v.clauses ≡ old.clauses
  clauses_then = ap (λ (x : WalkData). x.clauses) same ∙ clauses_is

  fixed_then : v.fixed ≡ old.fixed
  fixed_then = ap (λ (x : WalkData). x.fixed) same ∙ fixed_is

  met : ℕ → Stand
  met = extend was.met made (stand_of v n)

  here : extend was.met made (stand_of v n) (made + 1) ≡ stand_of v n
  here = extend-here was.met made (stand_of v n)

  before : (k : ℕ) → k ≤ made → extend was.met made (stand_of v n) k ≡ was.met k
  before k le = extend-before was.met made (stand_of v n) k le

  step_is : IsStep old.clauses old.fixed (stand_of w h) (stand_of v n)
  step_is = subst (λ (G : List (List Literal)). IsStep G old.fixed (stand_of w h) (stand_of v n)) clauses_is (subst (λ (f : List Bool). IsStep w.clauses f (stand_of w h) (stand_of v n)) fixed_is step)

  each : (k : ℕ) → k < made + 1 → IsStep old.clauses old.fixed (extend was.met made (stand_of v n) k) (extend was.met made (stand_of v n) (k + 1))
  each k lt = elim (cases_lt k made) as (λ _. IsStep old.clauses old.fixed (extend was.met made (stand_of v n) k) (extend was.met made (stand_of v n) (k + 1))) [
    | inl low ↦
        subst (λ (s : Stand). IsStep old.clauses old.fixed s (extend was.met made (stand_of v n) (k + 1))) (sym (before k (omega arith)))
        (subst (λ (s : Stand). IsStep old.clauses old.fixed (was.met k) s) (sym (before (k + 1) (omega arith))) (was.each k low))
    | inr high ↦ (
        let is : made ≡ k = omega arith in
        subst (λ (j : ℕ). IsStep old.clauses old.fixed (extend was.met made (stand_of v n) j) (extend was.met made (stand_of v n) (j + 1))) is
        (subst (λ (s : Stand). IsStep old.clauses old.fixed s (extend was.met made (stand_of v n) (made + 1))) (sym (before made (omega arith) ∙ was.last))
        (subst (λ (s : Stand). IsStep old.clauses old.fixed (stand_of w h) s) (sym here) step_is)))
  ]

  best_was : w.best ≡ (was.met was.best.0).values
  best_was = was.best.2

  -- the best one stays
  pub kept : count ≤ false_under v.clauses v.values → MakesSteps old g (made + 1) count v n
  kept le = record {
    met = extend was.met made (stand_of v n);
    first = before 0 (omega arith) ∙ was.first;
    last = here;
    each = each;
    same = same_then;
    counted = was.counted ∙ ap (false_under old.clauses) (sym best_then);
    best = (was.best.0, (let b = was.best.1 in omega arith), best_then ∙ was.best.2 ∙ ap (λ (s : Stand). s.values) (sym (before was.best.0 was.best.1)));
    least = λ k up. elim (cases_lt k (made + 1)) as (λ _. count ≤ false_under old.clauses (extend was.met made (stand_of v n) k).values) [
      | inl low ↦ subst (λ (s : Stand). count ≤ false_under old.clauses s.values) (sym (before k (omega arith))) (was.least k (omega arith))
      | inr high ↦ (
          let is : made + 1 ≡ k = omega arith in
          subst (λ (j : ℕ). count ≤ false_under old.clauses (extend was.met made (stand_of v n) j).values) is
          (subst (λ (s : Stand). count ≤ false_under old.clauses s.values) (sym here)
          (subst (λ (G : List (List Literal)). count ≤ false_under G v.values) clauses_then le)))
    ];
  }
    where
      best_then : v.best ≡ w.best
      best_then = ap (λ (x : WalkData). x.best) same

      same_then : v ≡ record old { values = v.values; best = v.best; order = v.order }
      same_then = λ i. record { clauses = clauses_then i; fixed = fixed_then i; values = v.values; best = v.best; order = v.order }

  -- a better one is met
  pub better : false_under v.clauses v.values < count → MakesSteps old g (made + 1) (false_under v.clauses v.values) (record v { best = v.values }) n
  better lt = record {
    met = extend was.met made (stand_of v n);
    first = before 0 (omega arith) ∙ was.first;
    last = here;
    each = each;
    same = λ i. record { clauses = clauses_then i; fixed = fixed_then i; values = v.values; best = v.values; order = v.order };
    counted = ap (λ (G : List (List Literal)). false_under G v.values) clauses_then;
    best = (made + 1, omega arith, ap (λ (s : Stand). s.values) (sym here));
    least = λ k up. elim (cases_lt k (made + 1)) as (λ _. false_under v.clauses v.values ≤ false_under old.clauses (extend was.met made (stand_of v n) k).values) [
      | inl low ↦ (
          let a = was.least k (omega arith) in
          let b = ap (λ (s : Stand). false_under old.clauses s.values) (before k (omega arith)) in
          omega arith)
      | inr high ↦ (
          let is : k ≡ made + 1 = omega arith in
          let a = ap (λ (j : ℕ). false_under old.clauses (extend was.met made (stand_of v n) j).values) is in
          let b = ap (λ (s : Stand). false_under old.clauses s.values) here in
          let e = ap (λ (G : List (List Literal)). false_under G v.values) clauses_then in
          omega arith)
    ];
  }

-- a step keeps how many variables have values
step_long : (G : List (List Literal)) (fixed : List Bool) (from to : Stand) → IsStep G fixed from to → length to.values ≡ length from.values
step_long G fixed from to s = elim (cases_zero (whole_weight G fixed from.values (next_drawn G from))) as (λ _. length to.values ≡ length from.values) [
  | inl none ↦ ap (λ (x : Stand). length x.values) (s.stays none)
  | inr some ↦ (let f = s.flips some in ap (λ (a : List Bool). length a) f.values ∙ length-set from.values (f.lit.var - 1) (not (value_of from.values f.lit.var)))
]
  where
    cases_zero : (n : ℕ) → (n ≡ 0) ⊎ (0 < n)
    cases_zero zero = inl refl
    cases_zero (suc n) = inr (omega arith)

met_long : (old new : WalkData) (g h : Lcg) (made count : ℕ) (w : MakesSteps old g made count new h) (k : ℕ) → k ≤ made → length (w.met k).values ≡ length old.values
met_long old new g h made count w zero le = ap (λ (s : Stand). length s.values) w.first
met_long old new g h made count w (suc k) le =
    let step = subst (λ (n : ℕ). IsStep old.clauses old.fixed (w.met k) (w.met n)) (add-one k) (w.each k (omega arith)) in
    step_long old.clauses old.fixed (w.met k) (w.met (suc k)) step ∙ met_long old new g h made count w k (omega arith)

-- and so has the best assignment
pub best_long : (old new : WalkData) (g h : Lcg) (steps count : ℕ) → HasWalked old g steps count new h → length new.best ≡ length old.values
best_long old new g h steps count p = ap (λ (a : List Bool). length a) p.walk.best.2 ∙ met_long old new g h p.made count p.walk p.walk.best.0 p.walk.best.1
