-- Levels of clauses and of places.
use Rattle.std.proofs.Common.{◌≡◌, ◌∙◌, ℕ, ◌+◌, ◌<◌, ◌≤◌, max, Bool, true, false, ◌||◌, cond, nat_eq, List, [], ◌∷◌, ◌++◌, length, length-append, get_or, take, map, Option, unwrap_or, sym, refl, ap, subst, inl, inr, arith}
use Rattle.std.specs.Option.{option_map}
use Rattle.std.specs.Set.{is_member, distinct_count, unique_keys}
use Rattle.std.specs.List.{IsDistinct}
use Rattle.std.proofs.Math.ListN.{set, length-set}
use Rattle.std.proofs.lemmas.List.{take_more, map-append, length-replicate, get_or_past}
use Rattle.std.proofs.lemmas.Cmp.{nat_eq_equiv}
use Rattle.std.proofs.lemmas.Map.Keys.{IsDistinct-push}
use Rattle.std.proofs.lemmas.Map.Steps.{length-le_from_distinct_below}
use Rattle.std.proofs.lemmas.Bool.{or_cases, or_left, or_right, false≢true, cases_lt, cases_eq, and_from, eq-eqb, eqb-true, ne_eqb}
use Rattle.sat_words.specs.Literal.{Literal, same}
use Rattle.sat_words.specs.Clause.{has}
use Rattle.sat_words.proofs.Members.{same-true, same-refl}
use Rattle.ring_trail.specs.declared.step.TrailStep.{TrailStep}
use Rattle.ring_trail.specs.TrailData.{TrailData, IsTrail, IsPlaceOf, FalseBefore, IsFalseClause, level_at}
use Rattle.ring_trail.proofs.Shape.{step_at_place}
use Rattle.analyze.specs.MarksData.{MarksData, all_blank, with_mark}
use Rattle.analyze.specs.Levels.{greatest, level_of_lit, levels_of, clause_level}
use Rattle.analyze.specs.Marks.{marked, CanMarkAll, HasMarked}
use Rattle.analyze.proofs.Marking.{marked-none, marked-same, marked-other, member_push, or_false}
use Rattle.analyze.proofs.Walking.{open_counted, none_open_yet, makes_false}

-- the level of a literal is that of its variable's place
pub level_of_lit-at : (t : TrailData) (l : Literal) (p : ℕ) → IsTrail t → IsPlaceOf t.steps l.var p → level_of_lit t.steps l ≡ level_at t.steps p
level_of_lit-at t l p shape i = ap (λ (o : Option TrailStep). unwrap_or (option_map (λ (s : TrailStep). s.level) o) 0) (step_at_place t l.var p shape i)

pub greatest-push : (ns : List ℕ) (n : ℕ) → greatest (ns ++ n ∷ []) ≡ max (greatest ns) n
greatest-push [] n = omega arith
greatest-push (k ∷ ns) n = let r = greatest-push ns n in omega arith

pub clause_level-more : (steps : List TrailStep) (c : List Literal) (i : ℕ) (d : Literal) → i < length c → clause_level steps (take (i + 1) c) ≡ max (clause_level steps (take i c)) (level_of_lit steps (get_or c i d))
clause_level-more steps c i d h =
    ap (clause_level steps) (take_more c i d h) ∙ ap greatest (map-append (level_of_lit steps) (take i c) (get_or c i d ∷ []))
    ∙ greatest-push (levels_of steps (take i c)) (level_of_lit steps (get_or c i d))

pub clause_level-above : (steps : List TrailStep) (c : List Literal) (k : Literal) → has c k ≡ true → level_of_lit steps k ≤ clause_level steps c
clause_level-above steps [] k h = absurd (false≢true h)
clause_level-above steps (l ∷ c) k h =
    elim (or_cases (same k l) (has c k) h) as (λ _. level_of_lit steps k ≤ clause_level steps (l ∷ c)) [
      | inl e ↦ (let s = ap (level_of_lit steps) (same-true k l e) in omega arith)
      | inr r ↦ (let s = clause_level-above steps c k r in omega arith)
    ]

clause_level-attained : (steps : List TrailStep) (c : List Literal) → 1 ≤ clause_level steps c → (k : Literal) × (has c k ≡ true) × (level_of_lit steps k ≡ clause_level steps c)
clause_level-attained steps [] h = absurd (omega arith)
clause_level-attained steps (l ∷ c) h =
    elim (cases_lt (level_of_lit steps l) (clause_level steps c)) as (λ _. (k : Literal) × (has (l ∷ c) k ≡ true) × (level_of_lit steps k ≡ clause_level steps (l ∷ c))) [
      | inl lt ↦ (
          let r : (k : Literal) × (has c k ≡ true) × (level_of_lit steps k ≡ clause_level steps c) = clause_level-attained steps c (omega arith) in
          (r.0, or_right (same r.0 l) (has c r.0) r.1, omega (arith, r.2)))
      | inr ge ↦ (l, or_left (same l l) (has c l) (same-refl l), omega arith)
    ]

pub false_place : (steps : List TrailStep) (n : ℕ) (k : Literal) (f : FalseBefore steps n k) → n ≤ length steps → IsPlaceOf steps k.var f.place
false_place steps n k f le = record { in_range = (let b = f.before in omega arith); var = ap (λ (l : Literal). l.var) f.false_there }

-- the literals of the conflict can be marked
pub CanMark-conflict : (t : TrailData) (m : ℕ) (c : List Literal) → IsTrail t → IsFalseClause t.steps c → m ≡ clause_level t.steps c → CanMarkAll t.steps m (length t.steps) c
CanMark-conflict t m c shape bad e k h = record {
  false_or_own = inr (bad k h);
  within = λ p lt v. (let a = clause_level-above t.steps c k h in let l = level_of_lit-at t k p shape (record { in_range = lt; var = v }) in omega arith);
}

-- if the conflict is above level 0, one of its literals is open
pub some_marked : (t : TrailData) (m n : ℕ) (ms more : List Bool) (c : List Literal) → IsTrail t → IsFalseClause t.steps c → m ≡ clause_level t.steps c → 1 ≤ m
    → ((p : ℕ) → marked ms p ≡ false) → HasMarked t.steps m ms more (length t.steps) c n → 1 ≤ n
some_marked t m n ms more c shape bad e pos off k =
    let a : (l : Literal) × (has c l ≡ true) × (level_of_lit t.steps l ≡ clause_level t.steps c) = clause_level-attained t.steps c (omega arith) in
    let f : FalseBefore t.steps (length t.steps) a.0 = bad a.0 a.1 in
    let l = level_of_lit-at t a.0 f.place shape (false_place t.steps (length t.steps) a.0 f (omega arith)) in
    let d = a.2 in
    let y : marked more f.place ≡ true = k.all f.place f.before (makes_false t.steps c a.0 f.place f.before (omega arith) f.false_there a.1) in
    let o = open_counted t.steps m more (length t.steps) f.place f.before (and_from (marked more f.place) (nat_eq (level_at t.steps f.place) m) y (eq-eqb _ _ (omega arith))) in
    let z = none_open_yet t.steps m ms (length t.steps) off in
    let count = k.count in
    omega arith

pub greatest-more : (f : ℕ → ℕ) (ps : List ℕ) (i d : ℕ) → i < length ps → greatest (map f (take (i + 1) ps)) ≡ max (greatest (map f (take i ps))) (f (get_or ps i d))
greatest-more f ps i d h =
    ap (λ (x : List ℕ). greatest (map f x)) (take_more ps i d h) ∙ ap greatest (map-append f (take i ps) (get_or ps i d ∷ []))
    ∙ greatest-push (map f (take i ps)) (f (get_or ps i d))

-- one more number is counted if it is not among those before
distinct_count-push : (ns : List ℕ) (y : ℕ) → distinct_count nat_eq (ns ++ y ∷ []) ≡ distinct_count nat_eq ns + cond (is_member nat_eq ns y) 0 1
distinct_count-push [] y = omega arith
distinct_count-push (x ∷ ns) y =
    ap (λ (b : Bool). length (cond b (unique_keys nat_eq (ns ++ y ∷ [])) (x ∷ unique_keys nat_eq (ns ++ y ∷ [])))) (member_push ns y x)
    ∙ by (is_member nat_eq ns x) (is_member nat_eq ns y) (nat_eq x y) (nat_eq y x) refl refl refl refl (distinct_count-push ns y)
  where
    by : (a b e f : Bool) → is_member nat_eq ns x ≡ a → is_member nat_eq ns y ≡ b → nat_eq x y ≡ e → nat_eq y x ≡ f
        → length (unique_keys nat_eq (ns ++ y ∷ [])) ≡ length (unique_keys nat_eq ns) + cond b 0 1
        → length (cond (a || e) (unique_keys nat_eq (ns ++ y ∷ [])) (x ∷ unique_keys nat_eq (ns ++ y ∷ []))) ≡ length (cond a (unique_keys nat_eq ns) (x ∷ unique_keys nat_eq ns)) + cond (f || b) 0 1
    by true true e true p q i j r = r
    by true true e false p q i j r = r
    by true false e true p q i j r = absurd (false≢true (sym q ∙ ap (is_member nat_eq ns) (eqb-true y x j) ∙ p))
    by true false e false p q i j r = r
    by false true true f p q i j r = absurd (false≢true (sym p ∙ ap (is_member nat_eq ns) (eqb-true x y i) ∙ q))
    by false true false true p q i j r = omega (arith, r)
    by false true false false p q i j r = omega (arith, r)
    by false false true true p q i j r = omega (arith, r)
    by false false true false p q i j r = absurd (false≢true (sym j ∙ eq-eqb y x (sym (eqb-true x y i))))
    by false false false true p q i j r = absurd (false≢true (sym i ∙ eq-eqb x y (sym (eqb-true y x j))))
    by false false false false p q i j r = omega (arith, r)

-- a level is among those found where its mark is set
pub found_more : (f : ℕ → ℕ) (ps : List ℕ) (i : ℕ) (found : List Bool) (n at : ℕ) → i < length ps → at ≡ f (get_or ps i 0) → at < length found
    → ((l : ℕ) → marked found l ≡ is_member nat_eq (map f (take i ps)) l)
    → marked (set found at true) n ≡ is_member nat_eq (map f (take (i + 1) ps)) n
found_more f ps i found n at h e lt same =
    by ∙ sym (member_push (map f (take i ps)) at n)
    ∙ ap (λ (x : List ℕ). is_member nat_eq x n) (sym (ap (map f) (take_more ps i 0 h) ∙ map-append f (take i ps) (get_or ps i 0 ∷ []) ∙ ap (λ (x : ℕ). map f (take i ps) ++ x ∷ []) (sym e)))
  where
    by : marked (set found at true) n ≡ (is_member nat_eq (map f (take i ps)) n || nat_eq n at)
    by = elim (cases_eq n at) as (λ _. marked (set found at true) n ≡ (is_member nat_eq (map f (take i ps)) n || nat_eq n at)) [
      | inl s ↦ ap (marked (set found at true)) s ∙ marked-same found at true lt ∙ sym (or_right _ _ (eq-eqb n at s))
      | inr ne ↦ marked-other found at n true ne ∙ same n ∙ sym (or_false (is_member nat_eq (map f (take i ps)) n)) ∙ ap (λ (b : Bool). is_member nat_eq (map f (take i ps)) n || b) (sym (ne_eqb n at ne))
    ]

pub count_more : (f : ℕ → ℕ) (ps : List ℕ) (i at : ℕ) → i < length ps → at ≡ f (get_or ps i 0)
    → distinct_count nat_eq (map f (take (i + 1) ps)) ≡ distinct_count nat_eq (map f (take i ps)) + cond (is_member nat_eq (map f (take i ps)) at) 0 1
count_more f ps i at h e =
    ap (distinct_count nat_eq) (ap (map f) (take_more ps i 0 h) ∙ map-append f (take i ps) (get_or ps i 0 ∷ []) ∙ ap (λ (x : ℕ). map f (take i ps) ++ x ∷ []) (sym e))
    ∙ distinct_count-push (map f (take i ps)) at

-- a level that is marked already
pub found_again : (f : ℕ → ℕ) (ps : List ℕ) (i : ℕ) (found : List Bool) (n at : ℕ) → i < length ps → at ≡ f (get_or ps i 0)
    → ((l : ℕ) → marked found l ≡ is_member nat_eq (map f (take i ps)) l) → marked found at ≡ true
    → marked found n ≡ is_member nat_eq (map f (take (i + 1) ps)) n
found_again f ps i found n at h e same y =
    by ∙ sym (member_push (map f (take i ps)) at n)
    ∙ ap (λ (x : List ℕ). is_member nat_eq x n) (sym (ap (map f) (take_more ps i 0 h) ∙ map-append f (take i ps) (get_or ps i 0 ∷ []) ∙ ap (λ (x : ℕ). map f (take i ps) ++ x ∷ []) (sym e)))
  where
    by : marked found n ≡ (is_member nat_eq (map f (take i ps)) n || nat_eq n at)
    by = elim (cases_eq n at) as (λ _. marked found n ≡ (is_member nat_eq (map f (take i ps)) n || nat_eq n at)) [
      | inl s ↦ ap (marked found) s ∙ y ∙ sym (or_right _ _ (eq-eqb n at s))
      | inr ne ↦ same n ∙ sym (or_false (is_member nat_eq (map f (take i ps)) n)) ∙ ap (λ (b : Bool). is_member nat_eq (map f (take i ps)) n || b) (sym (ne_eqb n at ne))
    ]

-- a false literal's variable is one of the trail's
pub false_var_in_range : (t : TrailData) (k : Literal) → IsTrail t → FalseBefore t.steps (length t.steps) k → k.var ≤ t.vars
false_var_in_range t k shape f = (let h = shape.high f.place f.before in let e = ap (λ (l : Literal). l.var) f.false_there in omega arith)

-- a bound of each literal's level bounds the clause's
pub levels_within : (steps : List TrailStep) (c : List Literal) (n : ℕ) → ((l : Literal) → has c l ≡ true → level_of_lit steps l ≤ n) → greatest (levels_of steps c) ≤ n
levels_within steps [] n h = omega arith
levels_within steps (l ∷ c) n h =
    let a = h l (or_left (same l l) (has c l) (same-refl l)) in
    let r = levels_within steps c n (λ k y. h k (or_right (same k l) (has c k) y)) in
    omega arith

pub levels_lower : (steps : List TrailStep) (c : List Literal) (n : ℕ) → 0 < n → ((l : Literal) → has c l ≡ true → level_of_lit steps l < n) → greatest (levels_of steps c) < n
levels_lower steps [] n pos h = omega arith
levels_lower steps (l ∷ c) n pos h =
    let a = h l (or_left (same l l) (has c l) (same-refl l)) in
    let r = levels_lower steps c n pos (λ k y. h k (or_right (same k l) (has c k) y)) in
    omega arith

-- Levels that are marked

-- the marks stand exactly on the values of f at these places, each listed once
pub record AreLevels (f : ℕ → ℕ) (ps : List ℕ) (n : ℕ) (found : MarksData Bool) : Type 0 where
  pub blank : found.blank ≡ false
  pub size : length found.values ≡ n
  pub among : (l : ℕ) → marked found.values l ≡ is_member nat_eq (map f ps) l
  pub listed : (l : ℕ) → is_member nat_eq found.touched l ≡ marked found.values l
  pub distinct : IsDistinct nat_eq found.touched
  pub count : length found.touched ≡ distinct_count nat_eq (map f ps)

marked_in_range : (ms : List Bool) (l : ℕ) → marked ms l ≡ true → l < length ms
marked_in_range ms l y =
    elim (cases_lt l (length ms)) as (λ _. l < length ms) [
      | inl lt ↦ lt
      | inr ge ↦ absurd (false≢true (sym (get_or_past ms l false ge) ∙ y))
    ]

none_twice : IsDistinct nat_eq []
unfolding IsDistinct
none_twice = tt

pub AreLevels-none : (f : ℕ → ℕ) (ps : List ℕ) (n : ℕ) → AreLevels f (take 0 ps) n (all_blank n false)
AreLevels-none f ps n = record {
  blank = refl;
  size = length-replicate n false;
  among = marked-none n;
  listed = λ l. sym (marked-none n l);
  distinct = none_twice;
  count = refl;
}

module _ (f : ℕ → ℕ) (ps : List ℕ) (i n : ℕ) (found : MarksData Bool) (k : AreLevels f (take i ps) n found) where
  pub levels_few : length found.touched ≤ n
  levels_few = length-le_from_distinct_below found.touched n k.distinct
      (λ l y. let r = marked_in_range found.values l (sym (k.listed l) ∙ y) in let z = k.size in omega arith)

  module _ (at : ℕ) (h : i < length ps) (e : at ≡ f (get_or ps i 0)) where
    pub AreLevels-again : marked found.values at ≡ true → AreLevels f (take (i + 1) ps) n found
    AreLevels-again y = record {
      blank = k.blank;
      size = k.size;
      among = λ l. found_again f ps i found.values l at h e k.among y;
      listed = k.listed;
      distinct = k.distinct;
      count = (
          let more = count_more f ps i at h e in
          let z = ap {B = ℕ} (λ (b : Bool). cond b 0 1) (sym (k.among at) ∙ y) in
          let c = k.count in
          omega (arith, more, z));
    }

    module _ (lt : at < n) (off : marked found.values at ≡ false) where
      pushed : IsDistinct nat_eq (found.touched ++ at ∷ [])
      pushed = IsDistinct-push nat_eq_equiv found.touched at k.distinct (k.listed at ∙ off)

      in_table : at < length found.values
      in_table = let z = k.size in omega arith

      pub levels_room : length found.touched < n
      levels_room =
          let le = length-le_from_distinct_below (found.touched ++ at ∷ []) n pushed (λ l y.
          elim (or_cases (is_member nat_eq found.touched l) (nat_eq l at) (sym (member_push found.touched at l) ∙ y)) as (λ _. l < n) [
            | inl old ↦ (let r = marked_in_range found.values l (sym (k.listed l) ∙ old) in let z = k.size in omega arith)
            | inr s ↦ (let t = eqb-true l at s in omega arith)
          ]) in
          omega (arith, le, length-append found.touched (at ∷ []))

      pub AreLevels-set : AreLevels f (take (i + 1) ps) n (with_mark found at true)
      AreLevels-set = record {
        blank = k.blank;
        size = length-set found.values at true ∙ k.size;
        among = λ l. found_more f ps i found.values l at h e in_table k.among;
        listed = λ l. member_push found.touched at l ∙ elim (cases_eq l at) as (λ _. (is_member nat_eq found.touched l || nat_eq l at) ≡ marked (set found.values at true) l) [
          | inl s ↦ or_right _ _ (eq-eqb l at s) ∙ sym (subst (λ (r : ℕ). marked (set found.values at true) r ≡ true) (sym s) (marked-same found.values at true in_table))
          | inr ne ↦ ap (λ (x : Bool). is_member nat_eq found.touched l || x) (ne_eqb l at ne) ∙ or_false (is_member nat_eq found.touched l) ∙ k.listed l ∙ sym (marked-other found.values at l true ne)
        ];
        distinct = pushed;
        count = (
            let more = count_more f ps i at h e in
            let z = ap {B = ℕ} (λ (b : Bool). cond b 0 1) (sym (k.among at) ∙ off) in
            let c = k.count in
            omega (arith, more, z, length-append found.touched (at ∷ [])));
      }
