-- What a new mark changes.
use Rattle.std.proofs.Common.{◌≡◌, ◌∙◌, ℕ, zero, suc, ◌+◌, ◌<◌, ◌≤◌, Bool, true, false, ◌&&◌, ◌||◌, cond, nat_eq, List, [], ◌∷◌, ◌++◌, length, get_or, take, replicate, sym, refl, ap, subst, inl, inr, ◌⊎◌, arith, length-append}
use Rattle.std.proofs.lemmas.List.{get_or-set_same, get_or-set_other, take_more, length-replicate}
use Rattle.std.proofs.Math.ListN.{set, length-set}
use Rattle.std.specs.List.{IsDistinct}
use Rattle.std.specs.Set.{is_member}
use Rattle.std.proofs.lemmas.Cmp.{nat_eq_equiv}
use Rattle.std.proofs.lemmas.Bool.{or_cases, eq-eqb, eqb-true, cases_eq, ne_eqb, or_left, or_right, false≢true}
use Rattle.std.proofs.lemmas.List.Folds.{list_any-append}
use Rattle.std.proofs.lemmas.Map.Keys.{IsDistinct-push}
use Rattle.std.proofs.lemmas.Map.Steps.{length-le_from_distinct_below}
use Rattle.sat_words.specs.Literal.{Literal, opposite, same}
use Rattle.sat_words.specs.Clause.{has}
use Rattle.sat_words.proofs.Members.{opposite-opposite}
use Rattle.ring_trail.specs.declared.step.TrailStep.{TrailStep}
use Rattle.ring_trail.specs.TrailData.{TrailData, IsTrail, IsPlaceOf, FalseBefore, lit_at, level_at}
use Rattle.analyze.specs.MarksData.{MarksData, all_blank, with_mark}
use Rattle.analyze.specs.Walk.{MakesFalse}
use Rattle.analyze.specs.Marks.{marked, is_open, open_below, IsMarking, CanMark, HasMarked}
use Rattle.analyze.proofs.Chains.{has-head, has-one}

-- places that are open alike are counted alike
pub open_below-alike : (steps : List TrailStep) (m : ℕ) (ms more : List Bool) (n : ℕ) → ((p : ℕ) → p < n → is_open steps m more p ≡ is_open steps m ms p) → open_below steps m more n ≡ open_below steps m ms n
unfolding open_below
open_below-alike steps m ms more zero f = refl
open_below-alike steps m ms more (suc n) f =
    let e = open_below-alike steps m ms more n (λ p h. f p (omega arith)) in
    let g = ap {B = ℕ} (λ (b : Bool). cond b 1 0) (f n (omega arith)) in
    omega (arith, e, g)

pub marked-same : (ms : List Bool) (q : ℕ) (b : Bool) → q < length ms → marked (set ms q b) q ≡ b
marked-same ms q b h = get_or-set_same ms q b false h

pub marked-other : (ms : List Bool) (q p : ℕ) (b : Bool) → (p ≡ q → ⊥) → marked (set ms q b) p ≡ marked ms p
marked-other ms q p b ne = get_or-set_other ms q p b false ne

-- a new mark is counted if it is of the level
pub open_below-set : (steps : List TrailStep) (m : ℕ) (ms : List Bool) (q n : ℕ) → q < n → q < length ms → marked ms q ≡ false
    → open_below steps m (set ms q true) n ≡ open_below steps m ms n + cond (nat_eq (level_at steps q) m) 1 0
unfolding open_below
open_below-set steps m ms q zero h lt off = absurd (omega arith)
open_below-set steps m ms q (suc n) h lt off =
    elim (cases_eq q n) as (λ _. open_below steps m (set ms q true) n + cond (is_open steps m (set ms q true) n) 1 0 ≡ (open_below steps m ms n + cond (is_open steps m ms n) 1 0) + cond (nat_eq (level_at steps q) m) 1 0) [
      | inl e ↦ (
          let a = open_below-alike steps m ms (set ms q true) n (λ p l. ap (λ (x : Bool). x && nat_eq (level_at steps p) m) (marked-other ms q p true (λ s. absurd (omega arith)))) in
          let now : is_open steps m (set ms q true) n ≡ nat_eq (level_at steps q) m =
          ap (is_open steps m (set ms q true)) (sym e) ∙ ap (λ (x : Bool). x && nat_eq (level_at steps q) m) (marked-same ms q true lt) in
          let was : is_open steps m ms n ≡ false = ap (is_open steps m ms) (sym e) ∙ ap (λ (x : Bool). x && nat_eq (level_at steps q) m) off in
          let x = ap {B = ℕ} (λ (b : Bool). cond b 1 0) now in
          let y = ap {B = ℕ} (λ (b : Bool). cond b 1 0) was in
          omega (arith, a, x, y))
      | inr ne ↦ (
          let a = open_below-set steps m ms q n (omega arith) lt off in
          let x = ap {B = ℕ} (λ (b : Bool). cond b 1 0) (ap (λ (x : Bool). x && nat_eq (level_at steps n) m) (marked-other ms q n true (λ s. ne (sym s)))) in
          omega (arith, a, x))
    ]

pub or_false : (b : Bool) → (b || false) ≡ b
or_false true = refl
or_false false = refl

pub member_push : (xs : List ℕ) (q p : ℕ) → is_member nat_eq (xs ++ q ∷ []) p ≡ (is_member nat_eq xs p || nat_eq p q)
member_push xs q p = list_any-append (nat_eq p) xs (q ∷ []) ∙ ap (λ (x : Bool). is_member nat_eq xs p || x) (or_false (nat_eq p q))

none_twice : IsDistinct nat_eq []
unfolding IsDistinct
none_twice = tt

-- nothing is marked
pub marked-none : (n p : ℕ) → marked (replicate n false) p ≡ false
marked-none zero p = refl
marked-none (suc n) zero = refl
marked-none (suc n) (suc p) = marked-none n p

pub IsMarking-none : (t : TrailData) (m : ℕ) → IsMarking t.steps t.vars m (all_blank t.vars false)
IsMarking-none t m =
    let off = marked-none t.vars in
    record {
      blank = refl;
      size = length-replicate t.vars false;
      in_range = λ p y. absurd (false≢true (sym (off p) ∙ y));
      above = λ p y. absurd (false≢true (sym (off p) ∙ y));
      within = λ p y. absurd (false≢true (sym (off p) ∙ y));
      listed = λ p. sym (off p);
      distinct = none_twice;
    }

module _ (t : TrailData) (m : ℕ) (ms : MarksData Bool) (shape : IsTrail t) (k : IsMarking t.steps t.vars m ms) where
  pub listed_in_range : (p : ℕ) → is_member nat_eq ms.touched p ≡ true → p < length t.steps
  listed_in_range p y = k.in_range p (sym (k.listed p) ∙ y)

  pub touched_few : length ms.touched ≤ length t.steps
  touched_few = length-le_from_distinct_below ms.touched (length t.steps) k.distinct listed_in_range

  module _ (q : ℕ) (lt : q < length t.steps) (off : marked ms.values q ≡ false) where
    in_table : q < length ms.values
    in_table = let s = shape.short in let z = k.size in omega arith

    pushed : IsDistinct nat_eq (ms.touched ++ q ∷ [])
    pushed = IsDistinct-push nat_eq_equiv ms.touched q k.distinct (k.listed q ∙ off)

    -- there is room to list one more place
    pub room_touched : length ms.touched < t.vars
    room_touched =
        let le = length-le_from_distinct_below (ms.touched ++ q ∷ []) (length t.steps) pushed (λ r y.
        elim (or_cases (is_member nat_eq ms.touched r) (nat_eq r q) (sym (member_push ms.touched q r) ∙ y)) as (λ _. r < length t.steps) [
          | inl old ↦ listed_in_range r old
          | inr e ↦ (let s = eqb-true r q e in omega arith)
        ]) in
        let s = shape.short in
        omega (arith, le, length-append ms.touched (q ∷ []))

    pub IsMarking-set : 0 < level_at t.steps q → level_at t.steps q ≤ m → IsMarking t.steps t.vars m (with_mark ms q true)
    IsMarking-set above low = record {
      blank = k.blank;
      size = length-set ms.values q true ∙ k.size;
      in_range = λ p y. elim (cases_eq p q) as (λ _. p < length t.steps) [
        | inl e ↦ omega arith
        | inr ne ↦ k.in_range p (sym (marked-other ms.values q p true ne) ∙ y)
      ];
      above = λ p y. elim (cases_eq p q) as (λ _. 0 < level_at t.steps p) [
        | inl e ↦ subst (λ (r : ℕ). 0 < level_at t.steps r) (sym e) above
        | inr ne ↦ k.above p (sym (marked-other ms.values q p true ne) ∙ y)
      ];
      within = λ p y. elim (cases_eq p q) as (λ _. level_at t.steps p ≤ m) [
        | inl e ↦ subst (λ (r : ℕ). level_at t.steps r ≤ m) (sym e) low
        | inr ne ↦ k.within p (sym (marked-other ms.values q p true ne) ∙ y)
      ];
      listed = λ p. member_push ms.touched q p ∙ elim (cases_eq p q) as (λ _. (is_member nat_eq ms.touched p || nat_eq p q) ≡ marked (set ms.values q true) p) [
        | inl e ↦ or_right _ _ (eq-eqb p q e) ∙ sym (subst (λ (r : ℕ). marked (set ms.values q true) r ≡ true) (sym e) (marked-same ms.values q true in_table))
        | inr ne ↦ ap (λ (x : Bool). is_member nat_eq ms.touched p || x) (ne_eqb p q ne) ∙ or_false (is_member nat_eq ms.touched p) ∙ k.listed p ∙ sym (marked-other ms.values q p true ne)
      ];
      distinct = pushed;
    }

    -- the place of a literal that can be marked
    pub HasMarked-set : (bound : ℕ) (l : Literal) → q < bound → bound ≤ length t.steps → IsPlaceOf t.steps l.var q → CanMark t.steps m bound l → 0 < level_at t.steps q
        → HasMarked t.steps m ms.values (set ms.values q true) bound (l ∷ []) (cond (nat_eq (level_at t.steps q) m) 1 0)
    HasMarked-set bound l h b i can above = record {
      kept = λ p y. elim (cases_eq p q) as (λ _. marked (set ms.values q true) p ≡ true) [
        | inl e ↦ subst (λ (r : ℕ). marked (set ms.values q true) r ≡ true) (sym e) (marked-same ms.values q true in_table)
        | inr ne ↦ marked-other ms.values q p true ne ∙ y
      ];
      only = λ p y. elim (cases_eq p q) as (λ _. (marked ms.values p ≡ true) ⊎ ((p < bound) × MakesFalse t.steps (l ∷ []) p)) [
        | inl e ↦ inr (
          omega arith,
          subst (λ (r : ℕ). MakesFalse t.steps (l ∷ []) r) (sym e) (record {
            in_range = lt;
            above = above;
            has_opposite = subst (λ (x : Literal). has (l ∷ []) x ≡ true) (sym (ap opposite false_here ∙ opposite-opposite l)) (has-head [] l);
          }),
        )
        | inr ne ↦ inl (sym (marked-other ms.values q p true ne) ∙ y)
      ];
      all = λ p lp f. (
          let e : p ≡ q = shape.distinct p q f.in_range lt (ap (λ (x : Literal). x.var) (has-one l (opposite (lit_at t.steps p)) f.has_opposite) ∙ sym i.var) in
          subst (λ (r : ℕ). marked (set ms.values q true) r ≡ true) (sym e) (marked-same ms.values q true in_table));
      count = open_below-set t.steps m ms.values q bound h in_table off;
    }
      where
        false_here : lit_at t.steps q ≡ opposite l
        false_here = by can.false_or_own
          where
            by : ((bound < length t.steps) × (l ≡ lit_at t.steps bound)) ⊎ FalseBefore t.steps bound l → lit_at t.steps q ≡ opposite l
            by (inl own) = absurd (let e : q ≡ bound = shape.distinct q bound lt own.0 (i.var ∙ ap (λ (x : Literal). x.var) own.1) in omega arith)
            by (inr f) = (
                let before = f.before in
                let e : q ≡ f.place = shape.distinct q f.place lt (omega arith) (i.var ∙ sym (ap (λ (x : Literal). x.var) f.false_there)) in
                ap (lit_at t.steps) e ∙ f.false_there)

-- a place that needs no mark: it is not below the bound, or marked, or at level 0
pub HasMarked-same : (t : TrailData) (m : ℕ) (ms : List Bool) (bound q : ℕ) (l : Literal) → IsTrail t → IsPlaceOf t.steps l.var q
    → (q < bound → 0 < level_at t.steps q → marked ms q ≡ true) → HasMarked t.steps m ms ms bound (l ∷ []) 0
HasMarked-same t m ms bound q l shape i done = record {
  kept = λ p y. y;
  only = λ p y. inl y;
  all = λ p lp f. (
      let e : q ≡ p = shape.distinct q p i.in_range f.in_range (i.var ∙ sym (ap (λ (x : Literal). x.var) (has-one l (opposite (lit_at t.steps p)) f.has_opposite))) in
      subst (λ (r : ℕ). marked ms r ≡ true) e (done (omega arith) (let a = f.above in subst (λ (r : ℕ). 0 < level_at t.steps r) (sym e) a)));
  count = omega arith;
}

pub has-append : (c d : List Literal) (l : Literal) → has (c ++ d) l ≡ (has c l || has d l)
has-append c d l = list_any-append (same l) c d

-- one more literal of a clause
pub HasMarked-push : (steps : List TrailStep) (m : ℕ) (a b d : List Bool) (bound : ℕ) (c : List Literal) (l : Literal) (n k : ℕ)
    → HasMarked steps m a b bound c n → HasMarked steps m b d bound (l ∷ []) k → HasMarked steps m a d bound (c ++ l ∷ []) (n + k)
HasMarked-push steps m a b d bound c l n k x y = record {
  kept = λ p h. y.kept p (x.kept p h);
  only = λ p h. elim (y.only p h) as (λ _. (marked a p ≡ true) ⊎ ((p < bound) × MakesFalse steps (c ++ l ∷ []) p)) [
    | inl old ↦ elim (x.only p old) as (λ _. (marked a p ≡ true) ⊎ ((p < bound) × MakesFalse steps (c ++ l ∷ []) p)) [
      | inl older ↦ inl older
      | inr f ↦ inr (f.0, record { in_range = f.1.in_range; above = f.1.above; has_opposite = has-append c (l ∷ []) (opposite (lit_at steps p)) ∙ or_left _ _ f.1.has_opposite })
    ]
    | inr f ↦ inr (f.0, record { in_range = f.1.in_range; above = f.1.above; has_opposite = has-append c (l ∷ []) (opposite (lit_at steps p)) ∙ or_right _ _ f.1.has_opposite })
  ];
  all = λ p h f. elim (or_cases (has c (opposite (lit_at steps p))) (has (l ∷ []) (opposite (lit_at steps p))) (sym (has-append c (l ∷ []) (opposite (lit_at steps p))) ∙ f.has_opposite)) as (λ _. marked d p ≡ true) [
    | inl old ↦ y.kept p (x.all p h (record { in_range = f.in_range; above = f.above; has_opposite = old }))
    | inr new ↦ y.all p h (record { in_range = f.in_range; above = f.above; has_opposite = new })
  ];
  count = (let e = x.count in let g = y.count in omega arith);
}

pub HasMarked-more : (steps : List TrailStep) (m : ℕ) (a b d : List Bool) (bound : ℕ) (c : List Literal) (i n k : ℕ) (e : Literal) → i < length c
    → HasMarked steps m a b bound (take i c) n → HasMarked steps m b d bound (get_or c i e ∷ []) k → HasMarked steps m a d bound (take (i + 1) c) (n + k)
HasMarked-more steps m a b d bound c i n k e h x y =
    subst (λ (xs : List Literal). HasMarked steps m a d bound xs (n + k)) (sym (take_more c i e h))
    (HasMarked-push steps m a b d bound (take i c) (get_or c i e) n k x y)

pub HasMarked-none : (steps : List TrailStep) (m : ℕ) (ms : List Bool) (bound : ℕ) (c : List Literal) → HasMarked steps m ms ms bound (take 0 c) 0
HasMarked-none steps m ms bound c = record {
  kept = λ p y. y;
  only = λ p y. inl y;
  all = λ p h f. absurd (false≢true f.has_opposite);
  count = omega arith;
}
