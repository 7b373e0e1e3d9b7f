-- Units that are seen, and units that are given.
use Rattle.std.proofs.Common.{◌≡◌, ◌⊎◌, ℕ, zero, suc, ◌+◌, ◌-◌, ◌*◌, ◌<◌, ◌≤◌, Bool, true, false, not, ◌&&◌, ◌||◌, if◌then◌else◌, List, [], ◌∷◌, ◌++◌, length, get_or, take, drop, refl, sym, ap, subst, ◌∙◌, inl, inr, ⊎_elim, arith, None, Option, length-append, append-nil, eq-eqb, ne_eqb}
use Rattle.std.specs.Prelude.{min, ◌^◌, MatchOption}
use Rattle.std.specs.List.{All, filter}
use Rattle.std.proofs.lemmas.Bool.{false≢true, true≢false, and_parts}
use Rattle.std.proofs.lemmas.List.Folds.{list_any-append}
use Rattle.std.proofs.Math.Nat.{min-le_left, min-le_right, min-eq_left, min-eq_right}
use mathlib.Core.Logic.{dite}
use native.Mathlib.Decide.{ℕ_discrete}
use Rattle.sat_words.specs.Literal.{Literal, same}
use Rattle.sat_words.specs.Clause.{has, distinct_lits}
use Rattle.sat_words.proofs.Members.{same-true, same-refl}
use Rattle.sat_words.specs.declared.shared.Cref.{Cref}
use Rattle.rup_model.proofs.Lists.{In, has_In, In_has, In_append_left, In_append_right}
use Rattle.rup_model.proofs.ProgramOpening.{All_from_In}
use Rattle.atomic_table.specs.declared.shared.Seat.{Seat}
use Rattle.share_core.specs.declared.part.Part.{Part}
use Rattle.share_core.proofs.ClauseLists.{all_in, all_last, all_map}
use Rattle.share_core.proofs.Leaving.{left_sound}
use Rattle.share_rule.specs.declared.Shared.{Shared}
use Rattle.share_rule.specs.declared.view.RingPart.{RingPart}
use Rattle.share_rule.specs.declared.view.View.{View}
use Rattle.share_rule.specs.Passes.{IsPassOf, IsSamePass}
use Rattle.share_rule.specs.Seen.{Seen}
use Rattle.share_rule.specs.Steps.{on_first, after_load}
use Rattle.share_rule.specs.Layout.{number_at}
use Rattle.share_rule.specs.Units.{count_part, see_part, after_count, after_see}
use Rattle.share_rule.specs.Views.{only}
use Rattle.share_rule.proofs.Literals.{few_distinct}
use Rattle.ring_port.specs.Port.{Sees, TookUnit, TookNone, Took}
use Rattle.ring_port.specs.PortState.{PortState}
use Rattle.ring_pass.specs.RingState.{Own, kept, without_kept, port_with, port_of, home_of, IsOwn, HasUnits, IsRingPass, HasRoom}
use Rattle.ring_pass.specs.declared.waiting.Waiting.{Waiting}
use Rattle.ring_pass.specs.Sights.{after_sight, SawOne, SawAll}
use Rattle.ring_pass.proofs.PollsHere.{port_step}
use Rattle.ring_pass.proofs.RingPorts.{part_of, seen_listed, unit_on}
use Rattle.ring_pass.specs.Numbers.{KeepsNumbers}
use Rattle.ring_pass.proofs.Stays.{numbers_then, only_is, one_is, one_changed, ring_changes, name_stays}
use Rattle.ring_pass.proofs.TurnsHere.{room_turns}
use Rattle.ring_pass.proofs.Units.{filter_In, In_filter}
use Rattle.ring_pass.proofs.AllListed.{listed_sees}

-- Truth values

both_ways : (a b : Bool) → (a ≡ true → b ≡ true) → (b ≡ true → a ≡ true) → a ≡ b
both_ways true true f g = refl
both_ways true false f g = sym (f refl)
both_ways false true f g = g refl
both_ways false false f g = refl

is_false : (b : Bool) → (b ≡ true → ⊥) → b ≡ false
is_false true h = absurd (h refl)
is_false false h = refl

not_true : (b : Bool) → not b ≡ true → b ≡ false
not_true true e = absurd (false≢true e)
not_true false e = refl

or_left : (a b : Bool) → a ≡ true → (a || b) ≡ true
or_left true b e = refl
or_left false b e = absurd (false≢true e)

or_right : (a b : Bool) → b ≡ true → (a || b) ≡ true
or_right true b e = refl
or_right false b e = e

or_either : (a b : Bool) → (a || b) ≡ true → (a ≡ true) ⊎ (b ≡ true)
or_either true b e = inl refl
or_either false b e = inr e

-- Counts that end at a last one

-- one more, and then no further than the last, is one more than what went no further
pub more_counted : (most n : ℕ) → min (n + 1) most ≡ min (min n most + 1) most
more_counted most n = dite (ℕ_discrete (n - most) 0)
    (λ e. ap (λ (k : ℕ). min (k + 1) most) (sym (min-eq_left {n = n} {m = most} (omega arith))))
    (λ ne. min-eq_right {n = most} {m = n + 1} (omega arith) ∙ sym (ap (λ (k : ℕ). min (k + 1) most) (min-eq_right {n = most} {m = n} (omega arith)) ∙ min-eq_right {n = most} {m = most + 1} (omega arith)))

-- no less stays no less
pub less_counted : (most n m : ℕ) → n ≤ m → min n most ≤ min m most
less_counted most n m le = dite (ℕ_discrete (m - most) 0)
    (λ e. let is = min-eq_left {n = m} {m = most} (omega arith) in let below = min-le_left n most in omega arith)
    (λ ne. let is = min-eq_right {n = most} {m = m} (omega arith) in let below = min-le_right n most in omega arith)

-- Lists without repeats

pub filter_passes : (p : Literal → Bool) (xs : List Literal) (l : Literal) → In l (filter p xs) → p l ≡ true
filter_passes p [] l i = absurd i
filter_passes p (x ∷ xs) l i = by (filter_passes p xs l) (p x) refl i
  where
    by : (In l (filter p xs) → p l ≡ true) → (b : Bool) → p x ≡ b → In l (if b then x ∷ filter p xs else filter p xs) → p l ≡ true
    by again true e (inl is) = ap p (sym is) ∙ e
    by again true e (inr k) = again k
    by again false e k = again k

-- the last of a list without repeats is not among those before it
pub last_else : (xs : List Literal) (x : Literal) (ys : List Literal) → distinct_lits (xs ++ x ∷ ys) ≡ true → has xs x ≡ false
last_else [] x ys d = refl
last_else (y ∷ xs) x ys d =
    let t = and_parts (not (has (xs ++ x ∷ ys) y)) (distinct_lits (xs ++ x ∷ ys)) d in
    is_false (has (y ∷ xs) x) (λ e. by (has_In (y ∷ xs) x e) (not_true (has (xs ++ x ∷ ys) y) t.0) (last_else xs x ys t.1))
  where
    by : In x (y ∷ xs) → has (xs ++ x ∷ ys) y ≡ false → has xs x ≡ false → ⊥
    by (inl is) none again = false≢true (sym none ∙ subst (λ (z : Literal). has (xs ++ x ∷ ys) z ≡ true) (sym is) (In_has (xs ++ x ∷ ys) x (In_append_right xs (x ∷ ys) x (inl refl))))
    by (inr i) none again = false≢true (sym again ∙ In_has xs x i)

-- nor are its parts with repeats
pub front_distinct : (xs ys : List Literal) → distinct_lits (xs ++ ys) ≡ true → distinct_lits xs ≡ true
front_distinct [] ys d = refl
front_distinct (x ∷ xs) ys d =
    let t = and_parts (not (has (xs ++ ys) x)) (distinct_lits (xs ++ ys)) d in
    by (has xs x) (is_false (has xs x) (λ e. false≢true (sym (not_true (has (xs ++ ys) x) t.0) ∙ In_has (xs ++ ys) x (In_append_left xs ys x (has_In xs x e))))) (front_distinct xs ys t.1)
  where
    by : (b : Bool) → b ≡ false → distinct_lits xs ≡ true → (not b && distinct_lits xs) ≡ true
    by true e h = absurd (true≢false e)
    by false e h = h

pub rest_distinct : (n : ℕ) (xs : List Literal) → distinct_lits xs ≡ true → distinct_lits (drop n xs) ≡ true
rest_distinct zero xs d = d
rest_distinct (suc n) [] d = d
rest_distinct (suc n) (x ∷ xs) d = rest_distinct n xs (and_parts (not (has xs x)) (distinct_lits xs) d).1

-- one more after them
pub more_distinct : (xs : List Literal) (x : Literal) → distinct_lits xs ≡ true → has xs x ≡ false → distinct_lits (xs ++ x ∷ []) ≡ true
more_distinct [] x d none = refl
more_distinct (y ∷ xs) x d none =
    let t = and_parts (not (has xs y)) (distinct_lits xs) d in
    by (has (xs ++ x ∷ []) y) (is_false (has (xs ++ x ∷ []) y) (λ e. among (or_either (has xs y) (has (x ∷ []) y) (sym (list_any-append (same y) xs (x ∷ [])) ∙ e)) (not_true (has xs y) t.0)))
    (more_distinct xs x t.1 (is_false (has xs x) (λ e. false≢true (sym none ∙ or_right (same x y) (has xs x) e))))
  where
    among : (has xs y ≡ true) ⊎ (has (x ∷ []) y ≡ true) → has xs y ≡ false → ⊥
    among (inl e) h = false≢true (sym h ∙ e)
    among (inr e) h = one (has_In (x ∷ []) y e)
      where
        one : In y (x ∷ []) → ⊥
        one (inl is) = false≢true (sym none ∙ subst (λ (z : Literal). has (y ∷ xs) z ≡ true) (sym is) (In_has (y ∷ xs) y (inl refl)))
        one (inr i) = i

    by : (b : Bool) → b ≡ false → distinct_lits (xs ++ x ∷ []) ≡ true → (not b && distinct_lits (xs ++ x ∷ [])) ≡ true
    by true e h = absurd (true≢false e)
    by false e h = h

-- Kept units

-- if none is kept, all that is seen was given or written
pub without_none : (ks seen : List Literal) → ks ≡ [] → without_kept ks seen ≡ seen
without_none ks seen e = ap (λ (xs : List Literal). without_kept xs seen) e ∙ all seen
  where
    all : (xs : List Literal) → without_kept [] xs ≡ xs
    all [] = refl
    all (x ∷ xs) = ap (λ (ys : List Literal). x ∷ ys) (all xs)

-- what is kept was not given
pub kept_fresh : (ks seen : List Literal) (x : Literal) → In x ks → has (without_kept ks seen) x ≡ false
kept_fresh ks seen x i = is_false (has (without_kept ks seen) x) (λ e.
    false≢true (sym (ap not (In_has ks x i)) ∙ filter_passes (λ k. not (has ks k)) seen x (has_In (without_kept ks seen) x e)))

-- the first of them is given
pub kept_given : (x : Literal) (ks seen : List Literal) → has ks x ≡ false → In x seen → Sees (without_kept (x ∷ ks) seen) (without_kept ks seen) x
kept_given x ks seen apart there k = both_ways (has (without_kept ks seen) k) (has (without_kept (x ∷ ks) seen) k || same x k)
    (λ e. let i = has_In (without_kept ks seen) k e in
    let j = filter_In (λ l. not (has ks l)) seen k i in
    let none = not_true (has ks k) (filter_passes (λ l. not (has ks l)) seen k i) in
    by (same x k) refl j none)
    (λ e. ⊎_elim (old k) (λ (h : same x k ≡ true). subst (λ (z : Literal). has (without_kept ks seen) z ≡ true) (same-true x k h) here) (or_either (has (without_kept (x ∷ ks) seen) k) (same x k) e))
  where
    here : has (without_kept ks seen) x ≡ true
    here = In_has (without_kept ks seen) x (In_filter (λ l. not (has ks l)) seen x there (ap not apart))

    old : (l : Literal) → has (without_kept (x ∷ ks) seen) l ≡ true → has (without_kept ks seen) l ≡ true
    old l e =
        let i = has_In (without_kept (x ∷ ks) seen) l e in
        let j = filter_In (λ m. not (has (x ∷ ks) m)) seen l i in
        let none = not_true (has (x ∷ ks) l) (filter_passes (λ m. not (has (x ∷ ks) m)) seen l i) in
        In_has (without_kept ks seen) l (In_filter (λ m. not (has ks m)) seen l j (ap not (is_false (has ks l) (λ f. false≢true (sym none ∙ or_right (same l x) (has ks l) f)))))

    by : (b : Bool) → same x k ≡ b → In k seen → has ks k ≡ false → (has (without_kept (x ∷ ks) seen) k || b) ≡ true
    by true e j none = or_right (has (without_kept (x ∷ ks) seen) k) true refl
    by false e j none = or_left (has (without_kept (x ∷ ks) seen) k) false (In_has (without_kept (x ∷ ks) seen) k (In_filter (λ m. not (has (x ∷ ks) m)) seen k j (ap not (is_false (has (x ∷ ks) k) (λ f. among (has_In (x ∷ ks) k f))))))
      where
        among : In k (x ∷ ks) → ⊥
        among (inl is) = false≢true (sym e ∙ subst (λ (z : Literal). same x z ≡ true) is (same-refl x))
        among (inr i) = false≢true (sym none ∙ In_has ks k i)

-- a unit that is new is seen at once
pub new_sees : (seen : List Literal) (x : Literal) → Sees seen (seen ++ x ∷ []) x
new_sees seen x k = list_any-append (same k) seen (x ∷ []) ∙ ap (λ (b : Bool). has seen k || b) (both_ways (has (x ∷ []) k) (same x k)
    (λ e. one (has_In (x ∷ []) k e))
    (λ e. In_has (x ∷ []) k (inl (same-true x k e))))
  where
    one : In k (x ∷ []) → same x k ≡ true
    one (inl is) = subst (λ (z : Literal). same x z ≡ true) is (same-refl x)
    one (inr i) = absurd i

dropped : (n : ℕ) (xs : List Literal) (x : Literal) → n < length xs → x ≡ get_or xs n x → drop n xs ≡ x ∷ drop (suc n) xs
dropped zero [] x lt e = absurd (omega arith)
dropped zero (y ∷ xs) x lt e = ap (λ (z : Literal). z ∷ xs) (sym e)
dropped (suc n) [] x lt e = absurd (omega arith)
dropped (suc n) (y ∷ xs) x lt e = dropped n xs x (omega arith) e

taken : (n : ℕ) (xs : List Literal) (x : Literal) → n < length xs → x ≡ get_or xs n x → take (suc n) xs ≡ take n xs ++ x ∷ []
taken zero [] x lt e = absurd (omega arith)
taken zero (y ∷ xs) x lt e = ap (λ (z : Literal). z ∷ []) (sym e)
taken (suc n) [] x lt e = absurd (omega arith)
taken (suc n) (y ∷ xs) x lt e = ap (λ (zs : List Literal). y ∷ zs) (taken n xs x (omega arith) e)

pub drop_next : (n : ℕ) (xs : List Literal) (x : Literal) → n < length xs → x ≡ get_or xs n x → drop n xs ≡ x ∷ drop (n + 1) xs
drop_next n xs x lt e = let same : suc n ≡ n + 1 = omega arith in dropped n xs x lt e ∙ ap (λ (m : ℕ). x ∷ drop m xs) same

pub take_next : (n : ℕ) (xs : List Literal) (x : Literal) → n < length xs → x ≡ get_or xs n x → take (n + 1) xs ≡ take n xs ++ x ∷ []
take_next n xs x lt e = let same : n + 1 ≡ suc n = omega arith in ap (λ (m : ℕ). take m xs) same ∙ taken n xs x lt e

next_In : (n : ℕ) (xs : List Literal) (x : Literal) → n < length xs → x ≡ get_or xs n x → In x xs
next_In zero [] x lt e = absurd (omega arith)
next_In zero (y ∷ xs) x lt e = inl (sym e)
next_In (suc n) [] x lt e = absurd (omega arith)
next_In (suc n) (y ∷ xs) x lt e = inr (next_In n xs x (omega arith) e)

drop_all : (xs ys : List Literal) (n : ℕ) → n ≡ length xs → drop n (xs ++ ys) ≡ ys
drop_all [] ys zero e = refl
drop_all [] ys (suc n) e = absurd (omega arith)
drop_all (x ∷ xs) ys zero e = absurd (omega arith)
drop_all (x ∷ xs) ys (suc n) e = drop_all xs ys n (omega arith)

take_all : (xs ys : List Literal) (n : ℕ) → n ≡ length xs → take n (xs ++ ys) ≡ xs
take_all [] ys zero e = refl
take_all [] ys (suc n) e = absurd (omega arith)
take_all (x ∷ xs) ys zero e = absurd (omega arith)
take_all (x ∷ xs) ys (suc n) e = ap (λ (zs : List Literal). x ∷ zs) (take_all xs ys n (omega arith))

-- What a ring has seen

module _ (v : View) (s : Seen v) (one : v.parts ≡ only v ∷ []) where
  pub seen_distinct : distinct_lits (only v).core.seen ≡ true
  seen_distinct =
      let t = (left_sound s.core.opening s.core s.left).units.seen (only v).core.ring in
      let d = (left_sound s.core.opening s.core s.left).units.distinct in
      subst (λ (q : Part). distinct_lits q.seen ≡ true) (sym (part_of v s one).part) (front_distinct (s.core.part (only v).core.ring).seen t.0 (subst (λ (us : List Literal). distinct_lits us ≡ true) t.1 d))

  pub seen_on : (l : Literal) → In l (only v).core.seen → (1 ≤ l.var) × (l.var ≤ v.layout.vars)
  seen_on l i = let k = unit_on v s one l (seen_listed v s one l i) in (k.low, k.high)

  pub few_arrived : (xs : List Literal) → distinct_lits xs ≡ true → All (λ l. has (only v).core.seen l ≡ true) xs → length xs ≤ 2 * v.layout.vars
  few_arrived xs d told = few_distinct v.layout.vars xs d (All_from_In (λ (l : Literal). (1 ≤ l.var) × (l.var ≤ v.layout.vars)) xs (λ l i. seen_on l (has_In (only v).core.seen l (all_in (λ (k : Literal). has (only v).core.seen k ≡ true) xs l i told))))

  pub few_seen : length (only v).core.seen ≤ 2 * v.layout.vars
  few_seen = few_arrived (only v).core.seen seen_distinct (All_from_In (λ (l : Literal). has (only v).core.seen l ≡ true) (only v).core.seen (λ l i. In_has (only v).core.seen l i))

-- One more unit is seen

-- the ring's part then
abbrev pub saw_part : Literal → ℕ → ℕ → RingPart → RingPart
saw_part x u n p = see_part x u (count_part n p)

pub saw_parts : (v w : View) (x : Literal) (u n : ℕ) → v.parts ≡ only v ∷ [] → w ≡ after_sight x u n v → w.parts ≡ saw_part x u n (only v) ∷ []
saw_parts v w x u n one is = ap (λ (y : View). y.parts) is ∙ ap (λ (ps : List RingPart). on_first (see_part x u) (on_first (count_part n) ps)) one

-- if more are listed than were seen the ring has not caught up once more
pub saw_short : (v w : View) (x : Literal) (u n k : ℕ) → v.parts ≡ only v ∷ [] → w ≡ after_sight x u n v → k < n → k ≡ length (only v).core.seen → (only w).caught_up ≡ (only v).caught_up
saw_short v w x u n k one is lt e =
    ap (λ (q : RingPart). q.caught_up) (only_is w (saw_part x u n (only v)) (saw_parts v w x u n one is))
    ∙ (λ i. if ne_eqb n (length (only v).core.seen) (λ f. absurd (omega arith)) i then (only v).caught_up + 1 else (only v).caught_up)

-- and where as many are it has
pub saw_level : (v w : View) (n : ℕ) → v.parts ≡ only v ∷ [] → w ≡ after_count n v → n ≡ length (only v).core.seen → (only w).caught_up ≡ (only v).caught_up + 1
saw_level v w n one is e =
    ap (λ (q : RingPart). q.caught_up) (only_is w (count_part n (only v)) (one_changed (count_part n) v w one (ap (λ (u : View). u.parts) is)))
    ∙ (λ i. if eq-eqb n (length (only v).core.seen) e i then (only v).caught_up + 1 else (only v).caught_up)

-- the number was read where the next one stands
pub sight_is : (v w : View) (seen : List Literal) (x : Literal) (u n k : ℕ) → k ≡ length seen → seen ≡ (only v).core.seen → w ≡ after_load (number_at v.layout k) u (after_see x u (after_count n v)) → w ≡ after_sight x u n v
sight_is v w seen x u n k e all is = is ∙ (λ i. after_load (number_at v.layout ((e ∙ ap length all) i)) u (after_see x u (after_count n v)))

-- one more, or none, as the look for the next one found it
pub saw_one : {v w : View} {seen seen' arrived arrived' : List Literal} {x : Literal} {u : ℕ} (k : ℕ) → v.parts ≡ only v ∷ [] → seen ≡ (only v).core.seen → k ≡ length seen → (n : ℕ) × (k < n) × (w ≡ after_load (number_at v.layout k) u (after_see x u (after_count n v))) → seen' ≡ seen ++ x ∷ [] → arrived' ≡ arrived ++ x ∷ [] → SawOne v w seen seen' arrived arrived' x
saw_one {v} {w} {seen} {seen'} {arrived} {arrived'} {x} {u} k one all e h more later = record {
  listed = h.0;
  number = u;
  view = sight_is v w seen x u h.0 k e all h.2;
  caught_up = saw_short v w x u h.0 k one (sight_is v w seen x u h.0 k e all h.2) h.1 (e ∙ ap length all);
  seen_is = more;
  arrived_is = later;
}

pub saw_all : (v w : View) (seen arrived : List Literal) (k : ℕ) (r : Option Literal) → r ≡ None → v.parts ≡ only v ∷ [] → seen ≡ (only v).core.seen → k ≡ length seen → (w ≡ after_count k v) × ((later : List Literal) × ((only v).core.seen ≡ v.opening.units ++ later))
    → MatchOption r (SawAll v w (length seen) seen seen arrived arrived) (SawOne v w seen seen arrived arrived)
saw_all v w seen arrived k r none one all e h = subst (λ (o : Option Literal). MatchOption o (SawAll v w (length seen) seen seen arrived arrived) (SawOne v w seen seen arrived arrived)) (sym none) (record {
  view = h.0 ∙ ap (λ (n : ℕ). after_count n v) e;
  caught_up = saw_level v w k one h.0 (e ∙ ap length all);
  opening = h.1;
  seen_is = refl;
  arrived_is = refl;
})

-- it was not seen before
pub saw_fresh : (v w : View) (x : Literal) (u n : ℕ) → v.parts ≡ only v ∷ [] → w ≡ after_sight x u n v → Seen w → has (only v).core.seen x ≡ false
saw_fresh v w x u n one is s =
    let parts = saw_parts v w x u n one is in
    last_else (only v).core.seen x [] (subst (λ (q : RingPart). distinct_lits q.core.seen ≡ true) (only_is w (saw_part x u n (only v)) parts) (seen_distinct w s (one_is w (saw_part x u n (only v)) parts)))

-- so there was a place for it
pub saw_place : (v w : View) (x : Literal) (u n : ℕ) → v.parts ≡ only v ∷ [] → w ≡ after_sight x u n v → Seen w → length (only v).core.seen < 2 * v.layout.vars
saw_place v w x u n one is s =
    let parts = saw_parts v w x u n one is in
    let few = subst (λ (q : RingPart). length q.core.seen ≤ 2 * w.layout.vars) (only_is w (saw_part x u n (only v)) parts) (few_seen w s (one_is w (saw_part x u n (only v)) parts)) in
    let vars = ap (λ (u : View). u.layout.vars) is in
    let long = length-append (only v).core.seen (x ∷ []) in
    omega arith

-- and for one more that arrives
pub arrived_told : (seen arrived : List Literal) (x : Literal) → All (λ l. has seen l ≡ true) arrived → All (λ l. has (seen ++ x ∷ []) l ≡ true) (arrived ++ x ∷ [])
arrived_told seen arrived x told = all_last (λ (l : Literal). has (seen ++ x ∷ []) l ≡ true) arrived x
    (all_map (λ (l : Literal). has seen l ≡ true) (λ (l : Literal). has (seen ++ x ∷ []) l ≡ true) arrived (λ l i e. In_has (seen ++ x ∷ []) l (In_append_left seen (x ∷ []) l (has_In seen l e))) told)
    (In_has (seen ++ x ∷ []) x (In_append_right seen (x ∷ []) x (inl refl)))

pub arrived_distinct : (seen arrived : List Literal) (x : Literal) → distinct_lits arrived ≡ true → All (λ l. has seen l ≡ true) arrived → has seen x ≡ false → distinct_lits (arrived ++ x ∷ []) ≡ true
arrived_distinct seen arrived x d told none = more_distinct arrived x d (is_false (has arrived x) (λ e. false≢true (sym none ∙ all_in (λ (l : Literal). has seen l ≡ true) arrived x (has_In arrived x e) told)))

pub arrived_place : (v w : View) (x : Literal) (u n : ℕ) (arrived : List Literal) → v.parts ≡ only v ∷ [] → w ≡ after_sight x u n v → Seen w → distinct_lits arrived ≡ true → All (λ l. has (only v).core.seen l ≡ true) arrived → length arrived < 2 * v.layout.vars
arrived_place v w x u n arrived one is s d told =
    let parts = saw_parts v w x u n one is in
    let few = few_arrived w s (one_is w (saw_part x u n (only v)) parts) (arrived ++ x ∷ []) (arrived_distinct (only v).core.seen arrived x d told (saw_fresh v w x u n one is s))
    (subst (λ (q : RingPart). All (λ l. has q.core.seen l ≡ true) (arrived ++ x ∷ [])) (sym (only_is w (saw_part x u n (only v)) parts)) (arrived_told (only v).core.seen arrived x told)) in
    let vars = ap (λ (u : View). u.layout.vars) is in
    let long = length-append arrived (x ∷ []) in
    omega arith

-- The port

-- a unit that was kept is given
pub gives_kept : (v : View) (s : Seen v) (o : Own) (x : Literal) → v.parts ≡ only v ∷ [] → IsOwn (only v) o → o.passed < length o.arrived → x ≡ get_or o.arrived o.passed x → TookUnit (port_of v o) (port_of v (record o { passed = o.passed + 1 })) x
gives_kept v s o x one own lt e =
    let seen : List Literal = (only v).core.seen in
    let ks : List Literal = drop (o.passed + 1) o.arrived in
    let next : kept o ≡ x ∷ ks = drop_next o.passed o.arrived x lt e in
    let there : In x seen = has_In seen x (all_in (λ (l : Literal). has seen l ≡ true) o.arrived x (next_In o.passed o.arrived x lt e) own.told) in
    let d : distinct_lits (x ∷ ks) ≡ true = subst (λ (ls : List Literal). distinct_lits ls ≡ true) next (rest_distinct o.passed o.arrived own.distinct) in
    let few = few_arrived v s one o.arrived own.distinct own.told in
    let one_less : length o.arrived - (o.passed + 1) ≡ length o.arrived - o.passed - 1 = omega arith in
    record {
      fresh = ap (λ (ls : List Literal). has (without_kept ls seen) x) next ∙ kept_fresh (x ∷ ks) seen x (inl refl);
      sees = subst (λ (ls : List Literal). Sees (without_kept ls seen) (without_kept ks seen) x) (sym next) (kept_given x ks seen (not_true (has ks x) (and_parts (not (has ks x)) (distinct_lits ks) d).0) there);
      fewer = omega arith;
      state = λ i. record (port_of v (record o { passed = o.passed + 1 })) { given = take_next o.passed o.arrived x lt e i; kept = one_less i };
    }

pub own_given : (p : RingPart) (o : Own) → o.passed < length o.arrived → IsOwn p o → IsOwn p (record o { passed = o.passed + 1 })
own_given p o lt own = record { passed = omega arith; distinct = own.distinct; told = own.told; taken = own.taken; ended_is = own.ended_is; refused_is = own.refused_is; faulty_is = own.faulty_is; making = own.making; listed = own.listed }

-- a unit that was just seen is given
pub gives_new : (v w : View) (s : Seen w) (o : Own) (x : Literal) (u n : ℕ) (home : List ℕ) → v.parts ≡ only v ∷ [] → w ≡ after_sight x u n v → IsOwn (only v) o → o.passed ≡ length o.arrived → home ≡ o.home → (only w).caught_up ≡ (only v).caught_up
    → TookUnit (port_of v o) (port_of w (record o { arrived = o.arrived ++ x ∷ []; passed = o.passed + 1; home = home })) x
gives_new v w s o x u n home one is own all hm caught =
    let p : RingPart = only v in
    let seen : List Literal = p.core.seen in
    let o' : Own = record o { arrived = o.arrived ++ x ∷ []; passed = o.passed + 1; home = home } in
    let q : port_of w o' ≡ port_with v (saw_part x u n p) o' = port_step v w (saw_part x u n p) o' (saw_parts v w x u n one is) (ap (λ (u : View). u.layout) is) (ap (λ (u : View). u.opening) is) (ap (λ (u : View). u.stop) is) (ap (λ (u : View). u.looks) is) in
    let long = length-append o.arrived (x ∷ []) in
    let end : o.passed + 1 ≡ length (o.arrived ++ x ∷ []) = omega arith in
    let before : without_kept (kept o) seen ≡ seen = without_none (kept o) seen (ap (drop o.passed) (sym (append-nil o.arrived)) ∙ drop_all o.arrived [] o.passed all) in
    let after : without_kept (kept o') (seen ++ x ∷ []) ≡ seen ++ x ∷ [] = without_none (kept o') (seen ++ x ∷ []) (ap (drop (o.passed + 1)) (sym (append-nil (o.arrived ++ x ∷ []))) ∙ drop_all (o.arrived ++ x ∷ []) [] (o.passed + 1) end) in
    let given : take (o.passed + 1) (o.arrived ++ x ∷ []) ≡ take o.passed o.arrived ++ x ∷ [] =
    ap (take (o.passed + 1)) (sym (append-nil (o.arrived ++ x ∷ []))) ∙ take_all (o.arrived ++ x ∷ []) [] (o.passed + 1) end
    ∙ (λ i. sym (ap (take o.passed) (sym (append-nil o.arrived)) ∙ take_all o.arrived [] o.passed all) i ++ x ∷ []) in
    let now : (port_of w o').seen ≡ seen ++ x ∷ [] = ap (λ (y : PortState). y.seen) q ∙ after in
    let place = arrived_place v w x u n o.arrived one is s own.distinct own.told in
    let coming = ap (λ (y : PortState). y.coming) q in
    let none : length (o.arrived ++ x ∷ []) - (o.passed + 1) ≡ length o.arrived - o.passed - 1 = omega arith in
    record {
      fresh = ap (λ (ls : List Literal). has ls x) before ∙ saw_fresh v w x u n one is s;
      sees = subst (λ (z : List Literal × List Literal). Sees z.0 z.1 x) (λ i. (sym before i, sym now i)) (new_sees seen x);
      fewer = omega arith;
      state = λ i. record (q i) { seen = (port_of w o').seen; told = (port_of w o').told; given = (ap (λ (y : PortState). y.given) q ∙ given) i; coming = (port_of w o').coming; kept = none i; caught_up = min (caught i) (2 ^ 64 - 1); home = (ap (λ (y : PortState). y.home) q ∙ hm) i };
    }

pub own_new : (v w : View) (s : Seen w) (o : Own) (x : Literal) (u n passed : ℕ) (table home : List ℕ) → v.parts ≡ only v ∷ [] → w ≡ after_sight x u n v → passed ≤ length o.arrived + 1 → IsOwn (only v) o → IsOwn (saw_part x u n (only v)) (record o { arrived = o.arrived ++ x ∷ []; passed = passed; numbers = table; home = home })
own_new v w s o x u n passed table home one is le own =
    let long = length-append o.arrived (x ∷ []) in
    record {
      passed = omega arith;
      distinct = arrived_distinct (only v).core.seen o.arrived x own.distinct own.told (saw_fresh v w x u n one is s);
      told = arrived_told (only v).core.seen o.arrived x own.told;
      taken = own.taken;
      ended_is = own.ended_is;
      refused_is = own.refused_is;
      faulty_is = own.faulty_is;
      making = own.making;
      listed = listed_sees (only v) (saw_part x u n (only v)) refl (λ l e. list_any-append (same l) (only v).core.seen (x ∷ []) ∙ or_left (has (only v).core.seen l) (has (x ∷ []) l) e) own.listed;
    }

-- none is left
pub gives_none : (v w : View) (o : Own) (n : ℕ) (home : List ℕ) → v.parts ≡ only v ∷ [] → w ≡ after_count n v → o.passed ≡ length o.arrived → home ≡ o.home → (later : List Literal) × ((only v).core.seen ≡ v.opening.units ++ later) → (only w).caught_up ≡ (only v).caught_up + 1
    → TookNone (port_of v o) (port_of w (record o { home = home }))
gives_none v w o n home one is all hm h caught =
    let before : without_kept (kept o) (only v).core.seen ≡ (only v).core.seen = without_none (kept o) (only v).core.seen (ap (drop o.passed) (sym (append-nil o.arrived)) ∙ drop_all o.arrived [] o.passed all) in
    let shown : port_of w (record o { home = home }) ≡ port_with v (count_part n (only v)) (record o { home = home }) = port_step v w (count_part n (only v)) (record o { home = home }) (one_changed (count_part n) v w one (ap (λ (u : View). u.parts) is)) (ap (λ (u : View). u.layout) is)
    (ap (λ (u : View). u.opening) is) (ap (λ (u : View). u.stop) is) (ap (λ (u : View). u.looks) is) in
    record {
      all = λ l e. ap (λ (ls : List Literal). has ls l) (before ∙ h.1) ∙ In_has (v.opening.units ++ h.0) l (In_append_left v.opening.units h.0 l (has_In v.opening.units l e));
      none_kept = omega arith;
      state = λ i. record (shown i) {
        caught_up = (ap (λ (k : ℕ). min k (2 ^ 64 - 1)) caught ∙ more_counted (2 ^ 64 - 1) (only v).caught_up) i;
        home = (ap (λ (y : PortState). y.home) shown ∙ hm) i;
      };
    }

-- For a ring with its pass

-- a kept unit is given
pub ring_given : {B : Type 0} {t : Shared B} {p : Seat (Option B) View} {n : ℕ} {st : List Cref} {o : Own} → IsRingPass t p n st o → o.passed < length o.arrived → IsRingPass t p n st (record o { passed = o.passed + 1 })
ring_given {B} {t} {p} {n} {st} {o} r lt = record { pass = r.pass; slots = r.slots; one = r.one; ring = r.ring; free = r.free; home = r.home; hinted = r.hinted; numbers = r.numbers; start = r.start; own = own_given (only p.me.0) o lt r.own; alone_is = r.alone_is }

pub port_given : {B : Type 0} {t : Shared B} {p : Seat (Option B) View} {n : ℕ} {st : List Cref} {o : Own} (s : PortState) (x : Literal) → IsRingPass t p n st o → port_of p.me.0 o ≡ s → o.passed < length o.arrived → x ≡ get_or o.arrived o.passed x → TookUnit s (port_of p.me.0 (record o { passed = o.passed + 1 })) x
port_given {B} {t} {p} {n} {st} {o} s x r view lt e = subst (λ (y : PortState). TookUnit y (port_of p.me.0 (record o { passed = o.passed + 1 })) x) view (gives_kept p.me.0 r.pass.3 o x r.one r.own lt e)

-- a new one is seen
pub ring_sees : {B : Type 0} {t : Shared B} {p : Seat (Option B) View} {n : ℕ} {st : List Cref} {o : Own} (q : Seat (Option B) View) (x : Literal) (seen seen' more : List Literal) (passed : ℕ) (table : List ℕ) → IsRingPass t p n st o → IsPassOf t q → IsSamePass p q → SawOne p.me.0 q.me.0 seen seen' o.arrived more x
    → passed ≤ length o.arrived + 1 → KeepsNumbers p.me.0 q.me.0 o.numbers table → IsRingPass t q n st (record o { arrived = more; passed = passed; numbers = table; home = home_of q })
ring_sees {B} {t} {p} {n} {st} {o} q x seen seen' more passed table r pass same saw le keeps =
    ring_changes q (saw_part x saw.number saw.listed (only p.me.0)) (record o { arrived = more; passed = passed; numbers = table; home = home_of q }) r pass same (ap (λ (u : View). u.opening) saw.view) (saw_parts p.me.0 q.me.0 x saw.number saw.listed r.one saw.view) refl refl refl
    (subst (λ (ls : List Literal). IsOwn (saw_part x saw.number saw.listed (only p.me.0)) (record o { arrived = ls; passed = passed; numbers = table; home = home_of q })) (sym saw.arrived_is) (own_new p.me.0 q.me.0 pass.3 o x saw.number saw.listed passed table (home_of q) r.one saw.view le r.own)) r.alone_is
    refl
    (numbers_then p.me.0 q.me.0 (saw_part x saw.number saw.listed (only p.me.0)) o.numbers table (saw_parts p.me.0 q.me.0 x saw.number saw.listed r.one saw.view) (pass.2 ∙ sym r.pass.2) keeps)

pub port_sees : {B : Type 0} {t : Shared B} {p : Seat (Option B) View} {n : ℕ} {st : List Cref} {o : Own} (q : Seat (Option B) View) (s : PortState) (x : Literal) (seen seen' more : List Literal) → IsRingPass t p n st o → IsPassOf t q → port_of p.me.0 o ≡ s → SawOne p.me.0 q.me.0 seen seen' o.arrived more x → o.passed ≡ length o.arrived
    → TookUnit s (port_of q.me.0 (record o { arrived = more; passed = o.passed + 1; home = home_of q })) x
port_sees {B} {t} {p} {n} {st} {o} q s x seen seen' more r pass view saw all =
    subst (λ (y : PortState × List Literal). TookUnit y.0 (port_of q.me.0 (record o { arrived = y.1; passed = o.passed + 1; home = home_of q })) x) (λ i. (view i, sym saw.arrived_is i))
    (gives_new p.me.0 q.me.0 pass.3 o x saw.number saw.listed (home_of q) r.one saw.view r.own all (name_stays q r pass) saw.caught_up)

pub room_sees : (v w : View) (x : Literal) (seen seen' arrived more : List Literal) (last : Option Cref) (ws : List Waiting) (room : ℕ) → v.parts ≡ only v ∷ [] → SawOne v w seen seen' arrived more x → HasRoom (only v) v.opening.rings last ws room → HasRoom (only w) w.opening.rings last ws room
room_sees v w x seen seen' arrived more last ws room one saw m = room_turns v w (saw_part x saw.number saw.listed (only v)) last ws room (ap (λ (u : View). u.opening) saw.view) (saw_parts v w x saw.number saw.listed one saw.view) refl refl (omega arith) m

pub units_sees : (v w : View) (x : Literal) (seen seen' arrived more : List Literal) (a b a' b' : ℕ) → v.parts ≡ only v ∷ [] → SawOne v w seen seen' arrived more x → a' ≡ a → b' ≡ b → HasUnits (only v) v.layout.vars seen a b → HasUnits (only w) w.layout.vars seen' a' b'
units_sees v w x seen seen' arrived more a b a' b' one saw ea eb m =
    let vars = ap (λ (u : View). u.layout.vars) saw.view in
    let r1 = m.seen_room_is in
    let r2 = m.arrived_room_is in
    record {
      all = saw.seen_is ∙ ap (λ (ls : List Literal). ls ++ x ∷ []) m.all ∙ sym (ap (λ (p : RingPart). p.core.seen) (only_is w (saw_part x saw.number saw.listed (only v)) (saw_parts v w x saw.number saw.listed one saw.view)));
      seen_room_is = omega arith;
      arrived_room_is = omega arith;
    }

-- none is left
pub all_parts : (v w : View) (n : ℕ) → v.parts ≡ only v ∷ [] → w ≡ after_count n v → w.parts ≡ count_part n (only v) ∷ []
all_parts v w n one is = one_changed (count_part n) v w one (ap (λ (u : View). u.parts) is)

pub ring_sees_all : {B : Type 0} {t : Shared B} {p : Seat (Option B) View} {n : ℕ} {st : List Cref} {o : Own} (q : Seat (Option B) View) (count : ℕ) (seen seen' more : List Literal) (table : List ℕ) → IsRingPass t p n st o → IsPassOf t q → IsSamePass p q → SawAll p.me.0 q.me.0 count seen seen' o.arrived more
    → KeepsNumbers p.me.0 q.me.0 o.numbers table → IsRingPass t q n st (record o { arrived = more; numbers = table; home = home_of q })
ring_sees_all {B} {t} {p} {n} {st} {o} q count seen seen' more table r pass same saw keeps =
    ring_changes q (count_part count (only p.me.0)) (record o { arrived = more; numbers = table; home = home_of q }) r pass same (ap (λ (u : View). u.opening) saw.view) (all_parts p.me.0 q.me.0 count r.one saw.view) refl refl refl
    (subst (λ (ls : List Literal). IsOwn (count_part count (only p.me.0)) (record o { arrived = ls; numbers = table; home = home_of q })) (sym saw.arrived_is) (record { passed = r.own.passed; distinct = r.own.distinct; told = r.own.told; taken = r.own.taken; ended_is = r.own.ended_is; refused_is = r.own.refused_is; faulty_is = r.own.faulty_is; making = r.own.making; listed = r.own.listed })) r.alone_is
    refl
    (numbers_then p.me.0 q.me.0 (count_part count (only p.me.0)) o.numbers table (all_parts p.me.0 q.me.0 count r.one saw.view) (pass.2 ∙ sym r.pass.2) keeps)

pub port_sees_all : {B : Type 0} {t : Shared B} {p : Seat (Option B) View} {n : ℕ} {st : List Cref} {o : Own} (q : Seat (Option B) View) (s : PortState) (count : ℕ) (seen seen' more : List Literal) → IsRingPass t p n st o → IsPassOf t q → port_of p.me.0 o ≡ s → SawAll p.me.0 q.me.0 count seen seen' o.arrived more → o.passed ≡ length o.arrived
    → TookNone s (port_of q.me.0 (record o { arrived = more; home = home_of q }))
port_sees_all {B} {t} {p} {n} {st} {o} q s count seen seen' more r pass view saw all =
    subst (λ (y : PortState × List Literal). TookNone y.0 (port_of q.me.0 (record o { arrived = y.1; home = home_of q }))) (λ i. (view i, sym saw.arrived_is i)) (gives_none p.me.0 q.me.0 o count (home_of q) r.one saw.view all (name_stays q r pass) saw.opening saw.caught_up)

pub room_sees_all : (v w : View) (count : ℕ) (seen seen' arrived more : List Literal) (last : Option Cref) (ws : List Waiting) (room : ℕ) → v.parts ≡ only v ∷ [] → SawAll v w count seen seen' arrived more → HasRoom (only v) v.opening.rings last ws room → HasRoom (only w) w.opening.rings last ws room
room_sees_all v w count seen seen' arrived more last ws room one saw m = room_turns v w (count_part count (only v)) last ws room (ap (λ (u : View). u.opening) saw.view) (all_parts v w count one saw.view) refl refl (omega arith) m

pub units_sees_all : (v w : View) (count : ℕ) (seen seen' arrived more : List Literal) (a b a' b' : ℕ) → v.parts ≡ only v ∷ [] → SawAll v w count seen seen' arrived more → a' ≡ a → b' ≡ b → HasUnits (only v) v.layout.vars seen a b → HasUnits (only w) w.layout.vars seen' a' b'
units_sees_all v w count seen seen' arrived more a b a' b' one saw ea eb m =
    let vars = ap (λ (u : View). u.layout.vars) saw.view in
    let r1 = m.seen_room_is in
    let r2 = m.arrived_room_is in
    record {
      all = saw.seen_is ∙ m.all ∙ sym (ap (λ (p : RingPart). p.core.seen) (only_is w (count_part count (only v)) (all_parts v w count one saw.view)));
      seen_room_is = omega arith;
      arrived_room_is = omega arith;
    }

pub told_none : {s t : PortState} (r : Option Literal) → r ≡ None → TookNone s t → Took s t r
told_none {s} {t} r e h = subst (Took s t) (sym e) h
