-- The steps of the walk back, and what it gives at its end.
use Rattle.std.proofs.Common.{◌≡◌, ◌∙◌, ℕ, zero, suc, ◌+◌, ◌-◌, ◌<◌, ◌≤◌, Bool, true, false, ◌&&◌, cond, nat_eq, Some, List, length, sym, refl, ap, subst, inl, inr, ◌⊎◌, arith}
use Rattle.std.proofs.lemmas.Bool.{cases_Bool, false≢true, and_from, and_parts, eq-eqb, eqb-true, cases_eq}
use Rattle.sat_words.specs.Literal.{Literal, opposite}
use Rattle.sat_words.specs.Clause.{has}
use Rattle.sat_words.proofs.Members.{opposite-opposite}
use Rattle.sat_words.specs.declared.shared.Cref.{Cref}
use Rattle.ring_trail.specs.declared.step.TrailStep.{TrailStep}
use Rattle.ring_trail.specs.TrailData.{TrailData, IsTrail, FalseBefore, lit_at, level_at, reason_at}
use Rattle.ring_trail.specs.Reasoned.{Held, WasUnit, IsForced, IsSeen, IsDecision, IsReasoned}
use Rattle.analyze.specs.MarksData.{MarksData}
use Rattle.analyze.specs.Walk.{MakesFalse, LeadsTo, IsWalkSet, IsReached}
use Rattle.analyze.specs.Marks.{marked, is_open, open_below, IsMarking, CanMarkAll, HasMarked, IsWalked}

-- a walk set stays one if fewer places lead on
IsWalkSet-more : (held : Held) (steps : List TrailStep) (m : ℕ) (c : List Literal) (i j : ℕ) (R : ℕ → Bool) → j ≤ i → IsWalkSet held steps m c j R → IsWalkSet held steps m c i R
IsWalkSet-more held steps m c i j R le w = record {
  starts = w.starts;
  goes_on = λ q p y l. w.goes_on q p y (record {
    in_range = l.in_range;
    from_here = (let h = l.from_here in omega arith);
    level = l.level;
    reason = l.reason;
    lits = l.lits;
    reason_is = l.reason_is;
    held_is = l.held_is;
    before = l.before;
    falsifies = l.falsifies;
  });
}

-- what is reached stays so further down
pub IsReached-on : (held : Held) (steps : List TrailStep) (m : ℕ) (c : List Literal) (i j p : ℕ) → j ≤ i → IsReached held steps m c i p → IsReached held steps m c j p
IsReached-on held steps m c i j p le r R w = r R (IsWalkSet-more held steps m c i j R le w)

-- a clause that forces a place or is false there: the literal that makes one of it false
pub makes_false : (steps : List TrailStep) (c : List Literal) (k : Literal) (p : ℕ) → p < length steps → 0 < level_at steps p → lit_at steps p ≡ opposite k → has c k ≡ true → MakesFalse steps c p
makes_false steps c k p lt above e h = record {
  in_range = lt;
  above = above;
  has_opposite = subst (λ (x : Literal). has c x ≡ true) (sym (ap opposite e ∙ opposite-opposite k)) h;
}

-- counting the open places
pub none_open : (steps : List TrailStep) (m : ℕ) (ms : List Bool) (n p : ℕ) → open_below steps m ms n ≡ 0 → p < n → is_open steps m ms p ≡ false
unfolding open_below
none_open steps m ms zero p e h = absurd (omega arith)
none_open steps m ms (suc n) p e h =
    elim (cases_eq p n) as (λ _. is_open steps m ms p ≡ false) [
      | inl s ↦ subst (λ (q : ℕ). is_open steps m ms q ≡ false) (sym s) (by (is_open steps m ms n) refl e)
      | inr ne ↦ none_open steps m ms n p (omega arith) (omega arith)
    ]
  where
    by : (b : Bool) → is_open steps m ms n ≡ b → open_below steps m ms n + cond b 1 0 ≡ 0 → is_open steps m ms n ≡ false
    by true q z = absurd (omega arith)
    by false q z = q

pub some_open : (steps : List TrailStep) (m : ℕ) (ms : List Bool) (n : ℕ) → 1 ≤ open_below steps m ms n → (q : ℕ) × (q < n) × (is_open steps m ms q ≡ true)
unfolding open_below
some_open steps m ms zero h = absurd (omega arith)
some_open steps m ms (suc n) h =
    elim (cases_Bool (is_open steps m ms n)) as (λ _. (q : ℕ) × (q < suc n) × (is_open steps m ms q ≡ true)) [
      | inl y ↦ (n, omega arith, y)
      | inr f ↦ (
          let z = ap {B = ℕ} (λ (b : Bool). cond b 1 0) f in
          let r : (q : ℕ) × (q < n) × (is_open steps m ms q ≡ true) = some_open steps m ms n (omega arith) in
          (r.0, omega arith, r.2))
    ]

pub open_below-le : (steps : List TrailStep) (m : ℕ) (ms : List Bool) (n : ℕ) → open_below steps m ms n ≤ n
unfolding open_below
open_below-le steps m ms zero = omega arith
open_below-le steps m ms (suc n) =
    let r = open_below-le steps m ms n in
    let z : cond (is_open steps m ms n) 1 0 ≤ 1 = by (is_open steps m ms n) in
    omega arith
  where
    by : (b : Bool) → cond b 1 0 ≤ 1
    by true = omega arith
    by false = omega arith

open_below-more : (steps : List TrailStep) (m : ℕ) (ms : List Bool) (u : ℕ) → marked ms u ≡ true → level_at steps u ≡ m → open_below steps m ms (suc u) ≡ open_below steps m ms u + 1
unfolding open_below
open_below-more steps m ms u y e =
    let z = ap {B = ℕ} (λ (b : Bool). cond b 1 0) (and_from (marked ms u) (nat_eq (level_at steps u) m) y (eq-eqb _ _ e)) in
    omega (arith, z)

open_below-skip : (steps : List TrailStep) (m : ℕ) (ms : List Bool) (u : ℕ) → is_open steps m ms u ≡ false → open_below steps m ms (suc u) ≡ open_below steps m ms u
unfolding open_below
open_below-skip steps m ms u f = let z = ap {B = ℕ} (λ (b : Bool). cond b 1 0) f in omega (arith, z)

pub open_counted : (steps : List TrailStep) (m : ℕ) (ms : List Bool) (n p : ℕ) → p < n → is_open steps m ms p ≡ true → 1 ≤ open_below steps m ms n
unfolding open_below
open_counted steps m ms zero p h y = absurd (omega arith)
open_counted steps m ms (suc n) p h y =
    elim (cases_eq p n) as (λ _. 1 ≤ open_below steps m ms n + cond (is_open steps m ms n) 1 0) [
      | inl e ↦ (let z = ap {B = ℕ} (λ (b : Bool). cond b 1 0) (ap (is_open steps m ms) (sym e) ∙ y) in omega (arith, z))
      | inr ne ↦ (let r = open_counted steps m ms n p (omega arith) y in omega (arith, r))
    ]

pub none_open_yet : (steps : List TrailStep) (m : ℕ) (ms : List Bool) (i : ℕ) → ((p : ℕ) → marked ms p ≡ false) → open_below steps m ms i ≡ 0
unfolding open_below
none_open_yet steps m ms zero off = refl
none_open_yet steps m ms (suc i) off =
    let z = ap {B = ℕ} (λ (b : Bool). cond b 1 0) (ap (λ (x : Bool). x && nat_eq (level_at steps i) m) (off i)) in
    omega (arith, none_open_yet steps m ms i off, z)

-- at each place of the level from i on that the walk reached, it reached another one before
abbrev pub IsBefore : Held → List TrailStep → ℕ → List Literal → ℕ → Type 0
IsBefore held steps m c v = (p : ℕ) × (p < v) × (level_at steps p ≡ m) × IsReached held steps m c (suc v) p

-- where the walk stands: `open_places` places below i are open, and the marks are what it reached
pub record Walking (held : Held) (steps : List TrailStep) (vars m : ℕ) (c : List Literal) (ms : MarksData Bool) (open_places i : ℕ) : Type 0 where
  pub in_range : i ≤ length steps
  pub marking : IsMarking steps vars m ms
  pub count : open_places ≡ open_below steps m ms.values i
  pub some : 1 ≤ open_places
  pub sound : (p : ℕ) → marked ms.values p ≡ true → IsReached held steps m c i p
  pub closed : IsWalkSet held steps m c i (marked ms.values)
  pub first : (v : ℕ) → i ≤ v → v < length steps → level_at steps v ≡ m → IsReached held steps m c (suc v) v → IsBefore held steps m c v

module _ (held : Held) (steps : List TrailStep) (vars m : ℕ) (c : List Literal) (ms : MarksData Bool) (n i : ℕ) (w : Walking held steps vars m c ms n i) where
  pub Walking-positive : 1 ≤ i
  Walking-positive = let a = w.count in let b = w.some in omega (arith, open_below-le steps m ms.values i)

  pub Walking-small : n ≤ i
  Walking-small = let a = w.count in omega (arith, open_below-le steps m ms.values i)

  -- a place that is not open is passed over
  pub Walking-skip : (u : ℕ) → i ≡ suc u → is_open steps m ms.values u ≡ false → Walking held steps vars m c ms n u
  Walking-skip u e shut = record {
    in_range = (let h = w.in_range in omega arith);
    marking = w.marking;
    count = w.count ∙ ap (open_below steps m ms.values) e ∙ open_below-skip steps m ms.values u shut;
    some = w.some;
    sound = λ p y. IsReached-on held steps m c i u p (omega arith) (w.sound p y);
    closed = record {
      starts = w.closed.starts;
      goes_on = λ q p y l. elim (cases_eq q u) as (λ _. marked ms.values p ≡ true) [
        | inl s ↦ absurd (false≢true (sym shut ∙ ap (is_open steps m ms.values) (sym s) ∙ and_from _ _ y (eq-eqb _ _ l.level)))
        | inr ne ↦ w.closed.goes_on q p y (record {
          in_range = l.in_range;
          from_here = (let h = l.from_here in omega arith);
          level = l.level;
          reason = l.reason;
          lits = l.lits;
          reason_is = l.reason_is;
          held_is = l.held_is;
          before = l.before;
          falsifies = l.falsifies;
        })
      ];
    };
    first = λ v le lt l r. elim (cases_eq v u) as (λ _. IsBefore held steps m c v) [
      | inl s ↦ absurd (false≢true (sym shut ∙ ap (is_open steps m ms.values) (sym s)
          ∙ and_from _ _ (subst (λ (j : ℕ). IsReached held steps m c j v) (ap suc s ∙ sym e) r (marked ms.values) w.closed) (eq-eqb _ _ l)))
      | inr ne ↦ w.first v (omega arith) lt l r
    ];
  }

  module _ (u : ℕ) (e : i ≡ suc u) (y : marked ms.values u ≡ true) (l : level_at steps u ≡ m) where
    counted : n ≡ open_below steps m ms.values u + 1
    counted = w.count ∙ ap (open_below steps m ms.values) e ∙ open_below-more steps m ms.values u y l

    -- the one open place that is left is the first unique implication point
    pub Walking-last : n ≡ 1 → IsWalked held steps m c ms.values u
    Walking-last one = record {
      point = record {
        in_range = (let h = w.in_range in omega arith);
        level = l;
        reached = subst (λ (j : ℕ). IsReached held steps m c j u) e (w.sound u y);
        alone = λ p lt at r. (
            let shut = none_open steps m ms.values u p (let k = counted in omega arith) lt in
            false≢true (sym shut ∙ and_from _ _ (r (marked ms.values) (subst (λ (j : ℕ). IsWalkSet held steps m c j (marked ms.values)) e w.closed)) (eq-eqb _ _ at)));
        first = λ v gt lt at r. w.first v (omega arith) lt at r;
      };
      sound = λ p h. subst (λ (j : ℕ). IsReached held steps m c j p) e (w.sound p h);
      complete = λ p r. r (marked ms.values) (subst (λ (j : ℕ). IsWalkSet held steps m c j (marked ms.values)) e w.closed);
    }

    -- another open place is before this one
    another : (n ≡ 1 → ⊥) → (q : ℕ) × (q < u) × (is_open steps m ms.values q ≡ true)
    another ne = some_open steps m ms.values u (let k = counted in let s = w.some in omega arith)

    -- so it wasn't decided
    pub Walking-forced : (n ≡ 1 → ⊥) → 1 ≤ m → (seen : List Literal) → IsReasoned held seen steps → IsForced held steps u
    Walking-forced ne pos seen r = by (r.caused u (let h = w.in_range in omega arith))
      where
        by : IsForced held steps u ⊎ (IsSeen seen steps u ⊎ IsDecision steps u) → IsForced held steps u
        by (inl f) = f
        by (inr (inl z)) = absurd (let s = z.level in omega arith)
        by (inr (inr d)) = absurd (
            let q = another ne in
            let a = d.first q.0 q.1 in
            let s = eqb-true _ _ (and_parts (marked ms.values q.0) (nat_eq (level_at steps q.0) m) q.2).1 in
            omega arith)

    -- its reason's literals are marked in its place
    pub Walking-resolve : (n ≡ 1 → ⊥) → (a : Cref) (d : List Literal) → reason_at steps u ≡ Some a → held a.address ≡ Some d → (more : MarksData Bool) (k : ℕ)
        → HasMarked steps m ms.values more.values u d k → IsMarking steps vars m more → Walking held steps vars m c more (n - 1 + k) u
    Walking-resolve ne a d reason_is held_is more k marks marking = record {
      in_range = (let h = w.in_range in omega arith);
      marking = marking;
      count = (let t = counted in let s = marks.count in omega arith);
      some = (let t = w.some in omega arith);
      sound = sound_now;
      closed = record {
        starts = λ p f. marks.kept p (w.closed.starts p f);
        goes_on = λ q p h t. elim (cases_eq q u) as (λ _. marked more.values p ≡ true) [
          | inl s ↦ from_here q p s t
          | inr other ↦ further q p other h t
        ];
      };
      first = λ v le lt at r. elim (cases_eq v u) as (λ _. IsBefore held steps m c v) [
        | inl s ↦ (
            let q = another ne in
            let parts = and_parts (marked ms.values q.0) (nat_eq (level_at steps q.0) m) q.2 in
            (q.0, omega (arith, q.1), eqb-true _ _ parts.1, subst (λ (j : ℕ). IsReached held steps m c j q.0) (e ∙ ap suc (sym s)) (w.sound q.0 parts.0)))
        | inr other ↦ w.first v (omega arith) lt at r
      ];
    }
      where
        reached_here : IsReached held steps m c u u
        reached_here = IsReached-on held steps m c i u u (omega arith) (w.sound u y)

        leads : (p : ℕ) → p < u → MakesFalse steps d p → LeadsTo held steps m u u p
        leads p lt f = record {
          in_range = (let h = w.in_range in omega arith);
          from_here = omega arith;
          level = l;
          reason = a;
          lits = d;
          reason_is = reason_is;
          held_is = held_is;
          before = lt;
          falsifies = f;
        }

        sound_now : (p : ℕ) → marked more.values p ≡ true → IsReached held steps m c u p
        sound_now p h R set = by (marks.only p h)
          where
            by : (marked ms.values p ≡ true) ⊎ ((p < u) × MakesFalse steps d p) → R p ≡ true
            by (inl old) = IsReached-on held steps m c i u p (omega arith) (w.sound p old) R set
            by (inr new) = set.goes_on u p (reached_here R set) (leads p new.0 new.1)

        from_here : (q p : ℕ) → q ≡ u → LeadsTo held steps m u q p → marked more.values p ≡ true
        from_here q p s t =
            let one : Some a ≡ Some t.reason = sym reason_is ∙ ap (reason_at steps) (sym s) ∙ t.reason_is in
            let same : a ≡ t.reason = cc in
            let two : Some d ≡ Some t.lits = sym held_is ∙ ap (λ (r : Cref). held r.address) same ∙ t.held_is in
            let lits : t.lits ≡ d = cc in
            marks.all p (let b = t.before in omega arith) (subst (λ (x : List Literal). MakesFalse steps x p) lits t.falsifies)

        further : (q p : ℕ) → (q ≡ u → ⊥) → marked more.values q ≡ true → LeadsTo held steps m u q p → marked more.values p ≡ true
        further q p other h t = by (marks.only q h)
          where
            by : (marked ms.values q ≡ true) ⊎ ((q < u) × MakesFalse steps d q) → marked more.values p ≡ true
            by (inr new) = absurd (let f = t.from_here in let b = new.0 in omega arith)
            by (inl old) = marks.kept p (w.closed.goes_on q p old (record {
              in_range = t.in_range;
              from_here = (let f = t.from_here in omega arith);
              level = t.level;
              reason = t.reason;
              lits = t.lits;
              reason_is = t.reason_is;
              held_is = t.held_is;
              before = t.before;
              falsifies = t.falsifies;
            }))

-- the walk begins at the conflict's places
pub Walking-start : (held : Held) (steps : List TrailStep) (vars m : ℕ) (c : List Literal) (ms : List Bool) (more : MarksData Bool) (n : ℕ)
    → ((p : ℕ) → marked ms p ≡ false) → HasMarked steps m ms more.values (length steps) c n → IsMarking steps vars m more → 1 ≤ n → Walking held steps vars m c more n (length steps)
Walking-start held steps vars m c ms more n off marks marking some = record {
  in_range = omega arith;
  marking = marking;
  count = (let z = none_open_yet steps m ms (length steps) off in let s = marks.count in omega arith);
  some = some;
  sound = λ p h R set. by p (marks.only p h) R set;
  closed = record {
    starts = λ p f. marks.all p f.in_range f;
    goes_on = λ q p h t. absurd (let a = t.in_range in let b = t.from_here in omega arith);
  };
  first = λ v le lt at r. absurd (omega arith);
}
  where
    by : (p : ℕ) → (marked ms p ≡ true) ⊎ ((p < length steps) × MakesFalse steps c p) → (R : ℕ → Bool) → IsWalkSet held steps m c (length steps) R → R p ≡ true
    by p (inl old) R set = absurd (false≢true (sym (off p) ∙ old))
    by p (inr new) R set = set.starts p new.1

-- the literals of a place's reason can be marked below it
pub CanMark-reason : (t : TrailData) (u m : ℕ) (d : List Literal) → IsTrail t → u < length t.steps → level_at t.steps u ≡ m → WasUnit t.steps u d → CanMarkAll t.steps m u d
CanMark-reason t u m d shape lt l f k h = record {
  false_or_own = by (f.others k h);
  within = λ p b e. (let r = shape.rising p u (omega arith) lt in omega arith);
}
  where
    by : (k ≡ lit_at t.steps u) ⊎ FalseBefore t.steps u k → ((u < length t.steps) × (k ≡ lit_at t.steps u)) ⊎ FalseBefore t.steps u k
    by (inl e) = inl (lt, e)
    by (inr q) = inr q

-- the reason of a forced place, as it was read
pub record HasReason (held : Held) (steps : List TrailStep) (u : ℕ) (a : Cref) : Type 0 where
  pub lits : List Literal
  pub held_is : held a.address ≡ Some lits
  pub unit : WasUnit steps u lits

pub forced_by : (held : Held) (steps : List TrailStep) (u : ℕ) (a : Cref) → IsForced held steps u → reason_at steps u ≡ Some a → HasReason held steps u a
forced_by held steps u a f e =
    let both : Some f.reason ≡ Some a = sym f.reason_is ∙ e in
    let same : f.reason ≡ a = cc in
    record { lits = f.lits; held_is = ap (λ (r : Cref). held r.address) (sym same) ∙ f.held_is; unit = f.unit }

-- the place before where the walk stands has its mark in the table
pub Walking-in_table : (held : Held) (t : TrailData) (m : ℕ) (c : List Literal) (ms : MarksData Bool) (n i : ℕ) → IsTrail t
    → Walking held t.steps t.vars m c ms n i → i - 1 < length ms.values
Walking-in_table held t m c ms n i shape w =
    let p = Walking-positive held t.steps t.vars m c ms n i w in
    let s = shape.short in
    let z = w.marking.size in
    let h = w.in_range in
    omega arith
