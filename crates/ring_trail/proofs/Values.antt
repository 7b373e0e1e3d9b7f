-- The tables by variable, if a step is put at the end or taken from there.
use Rattle.std.proofs.Common.{◌≡◌, ◌≢◌, ℕ, zero, suc, ◌<◌, ◌≤◌, ◌+◌, Bool, true, false, not, List, [], ◌∷◌, ◌++◌, length, get_or, take, Option, None, Some, nat_eq, sym, refl, ap, subst, ◌∙◌, inl, inr, arith, All}
use Rattle.std.proofs.Math.ListN.{set}
use Rattle.std.specs.List.{count_by}
use Rattle.std.specs.Option.{is_some, option_map}
use Rattle.std.proofs.lemmas.Bool.{cases_Bool, cases_lt}
use Rattle.std.proofs.lemmas.Bool.Decides.{nat_tests}
use Rattle.std.proofs.lemmas.List.{length-set, get_or-set_same, get_or-set_other, length-append, get_or_append_left, get_or_push, length-take, get_or-take}
use Rattle.std.proofs.lemmas.List.Sums.{count_by-le-length}
use Rattle.std.proofs.lemmas.List.Elements.{All-push}
use Rattle.std.proofs.lemmas.Grind.{common_steps}
use Rattle.ring_trail.specs.declared.step.TrailStep.{TrailStep}
use Rattle.ring_trail.specs.TrailData.{no_step, step_at, var_at, step_of, value_of, HasNoPlace}
use Rattle.ring_trail.specs.Inside.{IsDistinct, IsKept, ArePlaces}

eq_refl : (n : ℕ) → nat_eq n n ≡ true
eq_refl n = grind (arith, nat_tests)

eq_true : (m n : ℕ) → nat_eq m n ≡ true → m ≡ n
eq_true m n e = grind (arith, nat_tests)

eq_false : (m n : ℕ) → nat_eq m n ≡ false → m ≢ n
eq_false m n e = grind (arith, nat_tests)

ne_false : (m n : ℕ) → m ≢ n → nat_eq m n ≡ false
ne_false m n e = grind (arith, nat_tests)

eq_swap : (m n : ℕ) → nat_eq m n ≡ false → nat_eq n m ≡ false
eq_swap m n e = grind (arith, nat_tests)

-- the head is another variable's
step_of-cons_other : (s : TrailStep) (steps : List TrailStep) (v : ℕ) → nat_eq s.lit.var v ≡ false → step_of (s ∷ steps) v ≡ step_of steps v
step_of-cons_other s steps v e = rw e refl

step_of-cons_same : (s : TrailStep) (steps : List TrailStep) (v : ℕ) → nat_eq s.lit.var v ≡ true → step_of (s ∷ steps) v ≡ Some s
step_of-cons_same s steps v e = rw e refl

step_of-none : (s : TrailStep) (steps : List TrailStep) (v : ℕ) → step_of (s ∷ steps) v ≡ None → (nat_eq s.lit.var v ≡ false) × (step_of steps v ≡ None)
step_of-none s steps v h =
    elim (cases_Bool (nat_eq s.lit.var v)) as (λ _. (nat_eq s.lit.var v ≡ false) × (step_of steps v ≡ None)) [
      | inl e ↦ absurd (let k = sym (step_of-cons_same s steps v e) ∙ h in cc)
      | inr e ↦ (e, sym (step_of-cons_other s steps v e) ∙ h)
    ]

step_of-push_other : (steps : List TrailStep) (s : TrailStep) (v : ℕ) → nat_eq s.lit.var v ≡ false → step_of (steps ++ s ∷ []) v ≡ step_of steps v
step_of-push_other [] s v ne = step_of-cons_other s [] v ne
step_of-push_other (x ∷ xs) s v ne =
    elim (cases_Bool (nat_eq x.lit.var v)) as (λ _. step_of ((x ∷ xs) ++ s ∷ []) v ≡ step_of (x ∷ xs) v) [
      | inl e ↦ step_of-cons_same x (xs ++ s ∷ []) v e ∙ sym (step_of-cons_same x xs v e)
      | inr e ↦ step_of-cons_other x (xs ++ s ∷ []) v e ∙ step_of-push_other xs s v ne ∙ sym (step_of-cons_other x xs v e)
    ]

step_of-push_same : (steps : List TrailStep) (s : TrailStep) → step_of steps s.lit.var ≡ None → step_of (steps ++ s ∷ []) s.lit.var ≡ Some s
step_of-push_same [] s h = step_of-cons_same s [] s.lit.var (eq_refl s.lit.var)
step_of-push_same (x ∷ xs) s h =
    let p = step_of-none x xs s.lit.var h in
    step_of-cons_other x (xs ++ s ∷ []) s.lit.var p.0 ∙ step_of-push_same xs s p.1

IsDistinct-push : (steps : List TrailStep) (s : TrailStep) → IsDistinct steps → step_of steps s.lit.var ≡ None → IsDistinct (steps ++ s ∷ [])
IsDistinct-push [] s d h = (refl, tt)
IsDistinct-push (x ∷ xs) s d h =
    let p = step_of-none x xs s.lit.var h in
    (step_of-push_other xs s x.lit.var (eq_swap x.lit.var s.lit.var p.0) ∙ d.0, IsDistinct-push xs s d.1 p.1)

-- from the list with one more step
step_of-front : (steps : List TrailStep) (s : TrailStep) (v : ℕ) → step_of (steps ++ s ∷ []) v ≡ None → (nat_eq s.lit.var v ≡ false) × (step_of steps v ≡ None)
step_of-front [] s v h = step_of-none s [] v h
step_of-front (x ∷ xs) s v h =
    let p = step_of-none x (xs ++ s ∷ []) v h in
    let q = step_of-front xs s v p.1 in
    (q.0, step_of-cons_other x xs v p.0 ∙ q.1)

IsDistinct-front : (steps : List TrailStep) (s : TrailStep) → IsDistinct (steps ++ s ∷ []) → IsDistinct steps × (step_of steps s.lit.var ≡ None)
IsDistinct-front [] s d = (tt, refl)
IsDistinct-front (x ∷ xs) s d =
    let p = step_of-front xs s x.lit.var d.0 in
    let q = IsDistinct-front xs s d.1 in
    ((p.1, q.0), step_of-cons_other x xs s.lit.var (eq_swap s.lit.var x.lit.var p.0) ∙ q.1)

-- a variable without a step has no place
pub none_at : (steps : List TrailStep) (v : ℕ) → step_of steps v ≡ None → HasNoPlace steps v
none_at [] v h p lt e = absurd (omega arith)
none_at (s ∷ steps) v h zero lt e = absurd (eq_false s.lit.var v (step_of-none s steps v h).0 e)
none_at (s ∷ steps) v h (suc p) lt e = none_at steps v (step_of-none s steps v h).1 p (omega arith) e

pub step_of-no_place : (steps : List TrailStep) (v : ℕ) → HasNoPlace steps v → step_of steps v ≡ None
step_of-no_place [] v none = refl
step_of-no_place (s ∷ steps) v none =
    step_of-cons_other s steps v (ne_false s.lit.var v (none 0 (omega arith)))
    ∙ step_of-no_place steps v (λ p lt e. none (suc p) (omega arith) e)

-- the step of a variable stands at some place
pub some_at : (steps : List TrailStep) (v : ℕ) (s : TrailStep) → step_of steps v ≡ Some s → (p : ℕ) × (p < length steps) × (step_at steps p ≡ s) × (s.lit.var ≡ v)
some_at [] v s h = absurd (cc)
some_at (x ∷ steps) v s h =
    elim (cases_Bool (nat_eq x.lit.var v)) as (λ _. (p : ℕ) × (p < length (x ∷ steps)) × (step_at (x ∷ steps) p ≡ s) × (s.lit.var ≡ v)) [
      | inl e ↦ (let k : Some x ≡ Some s = sym (step_of-cons_same x steps v e) ∙ h in
          let is : x ≡ s = cc in
          (0, omega arith, is, ap (λ (y : TrailStep). y.lit.var) (sym is) ∙ eq_true x.lit.var v e))
      | inr e ↦ (let r = some_at steps v s (sym (step_of-cons_other x steps v e) ∙ h) in (suc r.0, omega (arith, r.1), r.2, r.3))
    ]

-- by place, no variable stands twice
pub distinct_at : (steps : List TrailStep) (p q : ℕ) → IsDistinct steps → p < length steps → q < length steps → var_at steps p ≡ var_at steps q → p ≡ q
distinct_at [] p q d lp lq e = absurd (omega arith)
distinct_at (s ∷ steps) zero zero d lp lq e = refl
distinct_at (s ∷ steps) zero (suc q) d lp lq e = absurd (none_at steps s.lit.var d.0 q (omega arith) (sym e))
distinct_at (s ∷ steps) (suc p) zero d lp lq e = absurd (none_at steps s.lit.var d.0 p (omega arith) e)
distinct_at (s ∷ steps) (suc p) (suc q) d lp lq e = ap suc (distinct_at steps p q d.1 (omega arith) (omega arith) e)

-- if no variable stands twice, the step at a variable's place is its step
pub step_of-at : (steps : List TrailStep) (v p : ℕ) → ((q : ℕ) → q < p → var_at steps q ≢ v) → p < length steps → var_at steps p ≡ v → step_of steps v ≡ Some (step_at steps p)
step_of-at [] v p before lt e = absurd (omega arith)
step_of-at (s ∷ steps) v zero before lt e = step_of-cons_same s steps v (subst (λ n. nat_eq n v ≡ true) (sym e) (eq_refl v))
step_of-at (s ∷ steps) v (suc p) before lt e =
    step_of-cons_other s steps v (ne_false s.lit.var v (before 0 (omega arith)))
    ∙ step_of-at steps v p (λ q h. before (suc q) (omega arith)) (omega arith) e

count-some : {A : Type 0} (x : A) (values : List (Option A)) → count_by is_some (Some x ∷ values) ≡ count_by is_some values + 1
count-some x values = grind (arith, common_steps)

count-set_some : (values : List (Option Bool)) (v : ℕ) (s : Bool) → v < length values → get_or values v None ≡ None → count_by is_some (set values v (Some s)) ≡ count_by is_some values + 1
count-set_some [] v s lt e = absurd (omega arith)
count-set_some (None ∷ values) zero s lt e = grind (arith, common_steps)
count-set_some (Some x ∷ values) zero s lt e = cc
count-set_some (None ∷ values) (suc v) s lt e = count-set_some values v s (omega arith) e
count-set_some (Some x ∷ values) (suc v) s lt e = let k = count-set_some values v s (omega arith) e in omega (arith, k, count-some x values, count-some x (set values v (Some s)))

count-set_none : (values : List (Option Bool)) (v : ℕ) (s : Bool) → v < length values → get_or values v None ≡ Some s → count_by is_some (set values v None) + 1 ≡ count_by is_some values
count-set_none [] v s lt e = absurd (omega arith)
count-set_none (Some x ∷ values) zero s lt e = grind (arith, common_steps)
count-set_none (None ∷ values) zero s lt e = cc
count-set_none (None ∷ values) (suc v) s lt e = count-set_none values v s (omega arith) e
count-set_none (Some x ∷ values) (suc v) s lt e = let k = count-set_none values v s (omega arith) e in omega (arith, k, count-some x values, count-some x (set values v None))

-- a place with nothing leaves room
count-lt : (values : List (Option Bool)) (v : ℕ) → v < length values → get_or values v None ≡ None → count_by is_some values < length values
count-lt [] v lt e = absurd (omega arith)
count-lt (None ∷ values) zero lt e = let k = count_by-le-length is_some values in omega (arith, k)
count-lt (Some x ∷ values) zero lt e = cc
count-lt (None ∷ values) (suc v) lt e = let k = count_by-le-length is_some values in omega (arith, k)
count-lt (Some x ∷ values) (suc v) lt e = let k = count-lt values v (omega arith) e in omega (arith, k, count-some x values)

pub Kept-room : (steps : List TrailStep) (values : List (Option Bool)) → IsKept steps values → length steps < length values
Kept-room steps values k = let h = count-lt values 0 k.first.0 k.first.1 in omega (arith, h, k.counted)

-- no value, no step
pub value_none : (steps : List TrailStep) (v : ℕ) → value_of steps v ≡ None → step_of steps v ≡ None
value_none steps v h = by (step_of steps v) h
  where
    by : (o : Option TrailStep) → option_map (λ (s : TrailStep). not s.lit.neg) o ≡ None → o ≡ None
    by None e = refl
    by (Some s) e = absurd (cc)

pub value_some : (steps : List TrailStep) (v : ℕ) (b : Bool) → value_of steps v ≡ Some b → (s : TrailStep) × (step_of steps v ≡ Some s) × (not s.lit.neg ≡ b)
value_some steps v b h = by (step_of steps v) h
  where
    by : (o : Option TrailStep) → option_map (λ (s : TrailStep). not s.lit.neg) o ≡ Some b → (s : TrailStep) × (o ≡ Some s) × (not s.lit.neg ≡ b)
    by None e = absurd (cc)
    by (Some s) e = (let is : not s.lit.neg ≡ b = cc in (s, refl, is))

pub Kept-put : (steps : List TrailStep) (values : List (Option Bool)) (s : TrailStep) → IsKept steps values → s.lit.var < length values → 1 ≤ s.lit.var → value_of steps s.lit.var ≡ None
    → IsKept (steps ++ s ∷ []) (set values s.lit.var (Some (not s.lit.neg)))
Kept-put steps values s k lt low none =
    let ne : 0 ≢ s.lit.var = omega arith in
    let free : step_of steps s.lit.var ≡ None = value_none steps s.lit.var none in
    let b : Bool = not s.lit.neg in
    let n = length-append steps (s ∷ []) in
    record {
      first = (omega (arith, length-set values s.lit.var (Some b), k.first.0), get_or-set_other values s.lit.var 0 (Some b) None ne ∙ k.first.1);
      told = λ v h.
          elim (cases_Bool (nat_eq s.lit.var v)) as (λ _. get_or (set values s.lit.var (Some b)) v None ≡ value_of (steps ++ s ∷ []) v) [
            | inl e ↦ (
                let same = eq_true s.lit.var v e in
                subst (λ (w : ℕ). get_or (set values s.lit.var (Some b)) w None ≡ value_of (steps ++ s ∷ []) w) same
                (get_or-set_same values s.lit.var (Some b) None lt ∙ sym (ap (option_map (λ (x : TrailStep). not x.lit.neg)) (step_of-push_same steps s free))))
            | inr e ↦ (
                let other : v ≢ s.lit.var = λ q. eq_false s.lit.var v e (sym q) in
                get_or-set_other values s.lit.var v (Some b) None other ∙ k.told v (omega (arith, length-set values s.lit.var (Some b), h))
                ∙ sym (ap (option_map (λ (x : TrailStep). not x.lit.neg)) (step_of-push_other steps s v e)))
          ];
      in_range = subst (λ (n : ℕ). All (λ (x : TrailStep). x.lit.var < n) (steps ++ s ∷ [])) (sym (length-set values s.lit.var (Some b))) (All-push (λ (x : TrailStep). x.lit.var < length values) steps s k.in_range lt);
      distinct = IsDistinct-push steps s k.distinct free;
      counted = count-set_some values s.lit.var b lt (k.told s.lit.var lt ∙ none) ∙ ap (λ n. n + 1) k.counted ∙ sym n;
    }

-- the new step's place is written beside those of other variables
pub ArePlaces-put : (steps : List TrailStep) (places : List ℕ) (s : TrailStep) → ArePlaces steps places → s.lit.var < length places → value_of steps s.lit.var ≡ None
    → ArePlaces (steps ++ s ∷ []) (set places s.lit.var (length steps))
ArePlaces-put steps places s a lt none p h =
    let free : step_of steps s.lit.var ≡ None = value_none steps s.lit.var none in
    let n = length-append steps (s ∷ []) in
    elim (cases_lt p (length steps)) as (λ _. get_or (set places s.lit.var (length steps)) (var_at (steps ++ s ∷ []) p) 0 ≡ p) [
      | inl l ↦ (
          let there = get_or_append_left steps (s ∷ []) no_step p l in
          let other : var_at steps p ≢ s.lit.var = λ e. none_at steps s.lit.var free p l e in
          subst (λ (x : TrailStep). get_or (set places s.lit.var (length steps)) x.lit.var 0 ≡ p) (sym there)
          (get_or-set_other places s.lit.var (var_at steps p) (length steps) 0 other ∙ a p l))
      | inr g ↦ (
          let e : p ≡ length steps = omega (arith, n) in
          subst (λ (x : TrailStep). get_or (set places s.lit.var (length steps)) x.lit.var 0 ≡ p) (sym (get_or_push steps s no_step p (sym e)))
          (get_or-set_same places s.lit.var (length steps) 0 lt ∙ sym e))
    ]

pub ArePlaces-take : (steps : List TrailStep) (places : List ℕ) (m : ℕ) → ArePlaces steps places → ArePlaces (take m steps) places
ArePlaces-take steps places m a p h =
    let n = length-take m steps in
    subst (λ (x : TrailStep). get_or places x.lit.var 0 ≡ p) (sym (get_or-take m steps p no_step (omega arith))) (a p (omega arith))

last_in_range : (n : ℕ) (steps : List TrailStep) (s : TrailStep) → All (λ (x : TrailStep). x.lit.var < n) (steps ++ s ∷ []) → All (λ (x : TrailStep). x.lit.var < n) steps × (s.lit.var < n)
last_in_range n steps s all = (
  λ k d h. subst (λ (x : TrailStep). x.lit.var < n) (get_or_append_left steps (s ∷ []) d k h) (all k d (omega (arith, length-append steps (s ∷ [])))),
  subst (λ (x : TrailStep). x.lit.var < n) (get_or_push steps s s (length steps) refl) (all (length steps) s (omega (arith, length-append steps (s ∷ [])))),
)

pub Kept-pop : (steps : List TrailStep) (values : List (Option Bool)) (s : TrailStep) → IsKept (steps ++ s ∷ []) values → IsKept steps (set values s.lit.var None) × (s.lit.var < length values)
Kept-pop steps values s k =
    let r = last_in_range (length values) steps s k.in_range in
    let d = IsDistinct-front steps s k.distinct in
    let b : Bool = not s.lit.neg in
    let there : get_or values s.lit.var None ≡ Some b = k.told s.lit.var r.1 ∙ ap (option_map (λ (x : TrailStep). not x.lit.neg)) (step_of-push_same steps s d.1) in
    let n = length-set values s.lit.var None in
    let m = length-append steps (s ∷ []) in (
      record {
        first = (
          omega (arith, n, k.first.0),
          (elim (cases_Bool (nat_eq s.lit.var 0)) as (λ _. get_or (set values s.lit.var None) 0 None ≡ None) [
            | inl e ↦ (let same = eq_true s.lit.var 0 e in subst (λ (w : ℕ). get_or (set values s.lit.var None) w None ≡ None) same (get_or-set_same values s.lit.var None None r.1))
            | inr e ↦ (let other : 0 ≢ s.lit.var = λ q. eq_false s.lit.var 0 e (sym q) in get_or-set_other values s.lit.var 0 None None other ∙ k.first.1)
          ]),
        );
        told = λ v h.
            elim (cases_Bool (nat_eq s.lit.var v)) as (λ _. get_or (set values s.lit.var None) v None ≡ value_of steps v) [
              | inl e ↦ (
                  let same = eq_true s.lit.var v e in
                  subst (λ (w : ℕ). get_or (set values s.lit.var None) w None ≡ value_of steps w) same
                  (get_or-set_same values s.lit.var None None r.1 ∙ sym (ap (option_map (λ (x : TrailStep). not x.lit.neg)) d.1)))
              | inr e ↦ (
                  let other : v ≢ s.lit.var = λ q. eq_false s.lit.var v e (sym q) in
                  get_or-set_other values s.lit.var v None None other ∙ k.told v (omega (arith, n, h)) ∙ ap (option_map (λ (x : TrailStep). not x.lit.neg)) (step_of-push_other steps s v e))
            ];
        in_range = subst (λ (m : ℕ). All (λ (x : TrailStep). x.lit.var < m) steps) (sym n) r.0;
        distinct = d.0;
        counted = (let q = count-set_none values s.lit.var b r.1 there in omega (arith, q, k.counted, m));
      },
      r.1,
    )
