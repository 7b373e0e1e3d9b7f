-- Which unit of the opening is given next.
use Rattle.std.proofs.Common.{◌≡◌, ℕ, zero, suc, ◌+◌, ◌<◌, ◌≤◌, ◌||◌, cond, Bool, true, false, not, List, [], ◌∷◌, ◌++◌, length, take, drop, get_or, sym, refl, ap, subst, ◌∙◌, ⊎_elim, arith, Some, None}
use Rattle.std.specs.List.{position, prefix_len}
use Rattle.std.proofs.lemmas.Bool.{or_left, or_right, or_cases, not-false, not-true, and_parts, false≢true, true≢false, cases_lt, lt-ltb}
use Rattle.std.proofs.lemmas.List.{take-append-drop, get_or-take, get_or-drop, length-drop, length-take}
use Rattle.std.proofs.lemmas.List.Quantifiers.{position-Some}
use Rattle.std.specs.List.{All, Contains}
use Rattle.std.proofs.lemmas.List.Elements.{All-append}
use Rattle.ring_port.proofs.LogSteps.{one_All}
use Rattle.std.proofs.Math.Seq.{take-add}
use Rattle.sat_words.specs.Literal.{Literal, same}
use Rattle.sat_words.specs.Clause.{has, distinct_lits}
use Rattle.std.proofs.lemmas.List.Folds.{list_any-append}
use Rattle.sat_words.proofs.Members.{same-true, same-refl}
use Rattle.rup_model.proofs.Lists.{In, In_append, In_append_left, In_append_right, In_Contains, Contains_In, In_get_or, has_In, In_has}
use Rattle.rup_model.proofs.Covers.{both_true}
use Rattle.ring_port.specs.Port.{Sees, TookUnit, TookNone}
use Rattle.ring_port.specs.PortState.{one_more as one_more_count}
use Rattle.ring_port.specs.PlainPort.{PlainData, state_of, IsPlain}

-- an element that passes ends the front of those that do not
passes_ends : {X : Type 0} (p : X → Bool) (xs : List X) (x : X) → In x xs → p x ≡ true → prefix_len (λ y. not (p y)) xs < length xs
passes_ends p [] x i passes = absurd i
passes_ends {X} p (y ∷ ys) x i passes = at (p y) refl (passes_ends p ys x)
  where
    at : (b : Bool) → p y ≡ b → (In x ys → p x ≡ true → prefix_len (λ z. not (p z)) ys < length ys) → prefix_len (λ z. not (p z)) (y ∷ ys) < length (y ∷ ys)
    at true e rest = let n : prefix_len (λ z. not (p z)) (y ∷ ys) ≡ 0 = ap (λ b. cond (not b) (1 + prefix_len (λ z. not (p z)) ys) 0) e in omega arith
    at false e rest =
        let n : prefix_len (λ z. not (p z)) (y ∷ ys) ≡ 1 + prefix_len (λ z. not (p z)) ys = ap (λ b. cond (not b) (1 + prefix_len (λ z. not (p z)) ys) 0) e in
        let less : prefix_len (λ z. not (p z)) ys < length ys = ⊎_elim (λ (q : y ≡ x). absurd (false≢true (sym e ∙ ap p q ∙ passes))) (λ k. rest k passes) i in
        omega arith

pub position_none : {X : Type 0} (p : X → Bool) (xs : List X) (x : X) → position p xs ≡ None → In x xs → p x ≡ false
position_none {X} p xs x none i = at (p x) refl
  where
    at : (b : Bool) → p x ≡ b → p x ≡ false
    at false e = e
    at true e =
        let less = passes_ends p xs x i e in
        let some : position p xs ≡ Some (prefix_len (λ y. not (p y)) xs) = ap (λ b. cond b (Some (prefix_len (λ y. not (p y)) xs)) None) (lt-ltb (prefix_len (λ y. not (p y)) xs) (length xs) less) in
        absurd (cc (sym none ∙ some))

-- a unit at the place that was found has a number; if none was found it has none
pub number_there : (told : List (Literal × ℕ)) (l : Literal) (k : ℕ) (u : Literal × ℕ) → position (λ x. same x.0 l) told ≡ Some k → u ≡ get_or told k u → Contains told (l, u.1)
number_there told l k u some is =
    let t = position-Some (λ (x : Literal × ℕ). same x.0 l) told k u some in
    let here : u.0 ≡ l = ap (λ (x : Literal × ℕ). x.0) is ∙ same-true (get_or told k u).0 l t.1 in
    In_Contains told (l, u.1) (subst (λ (j : Literal). In (j, u.1) told) here (subst (λ (x : Literal × ℕ). In x told) (sym is) (In_get_or told k u t.0)))

pub number_nowhere : (told : List (Literal × ℕ)) (l : Literal) → position (λ x. same x.0 l) told ≡ None → (n : ℕ) → Contains told (l, n) → ⊥
number_nowhere told l none n there = false≢true (sym (position_none (λ (x : Literal × ℕ). same x.0 l) told (l, n) none (Contains_In told (l, n) there)) ∙ same-refl l)

-- if every unit left was written, all are seen
pub none_left : (n : ℕ) (opening written : List Literal) → position (λ l. not (has written l)) (drop n opening) ≡ None
    → (l : Literal) → has opening l ≡ true → has (take n opening ++ written) l ≡ true
none_left n opening written none l h =
    let i : In l (take n opening ++ drop n opening) = subst (In l) (sym (take-append-drop n opening)) (has_In opening l h) in
    In_has (take n opening ++ written) l
    (⊎_elim (λ k. In_append_left (take n opening) written l k)
    (λ k. In_append_right (take n opening) written l (has_In written l (not-false (has written l) (position_none (λ j. not (has written j)) (drop n opening) l none k))))
    (In_append (take n opening) (drop n opening) l i))

-- the element at a place, whatever stands for none
pub either : {X : Type 0} (xs : List X) (i : ℕ) (d e : X) → i < length xs → get_or xs i d ≡ get_or xs i e
either [] i d e lt = absurd (omega arith)
either (x ∷ xs) zero d e lt = refl
either (x ∷ xs) (suc i) d e lt = either xs i d e (omega arith)

-- the units up to the one that is given were written, or were given before
module _ (n k : ℕ) (opening written : List Literal) (l : Literal) (some : position (λ j. not (has written j)) (drop n opening) ≡ Some k) (is : l ≡ get_or opening (n + k) l) where
  abbrev rest : List Literal
  rest = drop n opening

  abbrev old : List Literal
  old = take n opening ++ written

  abbrev new : List Literal
  new = take (n + k + 1) opening ++ written

  cut : take (n + k + 1) opening ≡ take n opening ++ take (k + 1) rest
  cut = ap (λ m. take m opening) (omega arith) ∙ take-add n (k + 1) opening

  pub in_range : n + k < length opening
  in_range = let t = position-Some (λ j. not (has written j)) rest k l some in let lt = t.0 in let e = length-drop n opening in omega arith

  here : get_or rest k l ≡ l
  here = get_or-drop n opening k l ∙ sym is

  among : (j : Literal) → In j (take (k + 1) rest) → (has old j || same l j) ≡ true
  among j i =
      let t = In_Contains (take (k + 1) rest) j i in
      let few : t.0 < k + 1 = (let lt = t.1 in let e = length-take (k + 1) rest in omega arith) in
      let at : get_or rest t.0 j ≡ j = sym (get_or-take (k + 1) rest t.0 j few) ∙ t.2 in
      ⊎_elim
      (λ (less : t.0 < k).
      (let w : has written (get_or rest t.0 j) ≡ true = not-false _ ((position-Some (λ x. not (has written x)) rest k j some).2 t.0 less) in
      or_left _ _ (In_has old j (In_append_right (take n opening) written j (has_In written j (subst (λ x. has written x ≡ true) at w))))))
      (λ (more : k ≤ t.0).
      (let last : t.0 ≡ k = omega arith in
      let there : l ≡ j = sym here ∙ either rest k l j (position-Some (λ x. not (has written x)) rest k j some).0 ∙ ap (λ x. get_or rest x j) (sym last) ∙ at in
      or_right _ _ (subst (λ x. same l x ≡ true) there (same-refl l))))
      (cases_lt t.0 k)

  forth : (j : Literal) → has new j ≡ true → (has old j || same l j) ≡ true
  forth j h =
      ⊎_elim
      (λ (i : In j (take (n + k + 1) opening)).
      ⊎_elim
      (λ (x : In j (take n opening)). or_left _ _ (In_has old j (In_append_left (take n opening) written j x)))
      (λ (x : In j (take (k + 1) rest)). among j x)
      (In_append (take n opening) (take (k + 1) rest) j (subst (In j) cut i)))
      (λ (i : In j written). or_left _ _ (In_has old j (In_append_right (take n opening) written j i)))
      (In_append (take (n + k + 1) opening) written j (has_In new j h))

  pub given_in : In l (take (n + k + 1) opening)
  given_in =
      let lt = in_range in
      let less : n + k < n + k + 1 = omega arith in
      let few : n + k < length (take (n + k + 1) opening) = (let e = length-take (n + k + 1) opening in omega arith) in
      subst (λ x. In x (take (n + k + 1) opening)) (get_or-take (n + k + 1) opening (n + k) l less ∙ sym is) (In_get_or (take (n + k + 1) opening) (n + k) l few)

  back : (j : Literal) → (has old j || same l j) ≡ true → has new j ≡ true
  back j h =
      ⊎_elim
      (λ (x : has old j ≡ true).
      ⊎_elim
      (λ (i : In j (take n opening)). In_has new j (In_append_left (take (n + k + 1) opening) written j (subst (In j) (sym cut) (In_append_left (take n opening) (take (k + 1) rest) j i))))
      (λ (i : In j written). In_has new j (In_append_right (take (n + k + 1) opening) written j i))
      (In_append (take n opening) written j (has_In old j x)))
      (λ (x : same l j ≡ true). In_has new j (In_append_left (take (n + k + 1) opening) written j (subst (λ y. In y (take (n + k + 1) opening)) (same-true l j x) given_in)))
      (or_cases (has old j) (same l j) h)

  pub one_more : Sees old new l
  one_more j = both_true (has new j) (has old j || same l j) (forth j) (back j)

-- a literal of a list without repeats does not stand before its place
before_place : (c : List Literal) (n m : ℕ) (d : Literal) → distinct_lits c ≡ true → n ≤ m → m < length c → has (take n c) (get_or c m d) ≡ false
before_place [] n m d dist le lt = absurd (omega arith)
before_place (l ∷ c) zero m d dist le lt = refl
before_place (l ∷ c) (suc n) zero d dist le lt = absurd (omega arith)
before_place (l ∷ c) (suc n) (suc m) d dist le lt =
    let parts = and_parts (not (has c l)) (distinct_lits c) dist in
    let there : m < length c = omega arith in
    let rest : has (take n c) (get_or c m d) ≡ false = before_place c n m d parts.1 (omega arith) there in
    (λ i. apart (same (get_or c m d) l) refl parts.0 there i || rest i)
  where
    apart : (b : Bool) → same (get_or c m d) l ≡ b → not (has c l) ≡ true → m < length c → same (get_or c m d) l ≡ false
    apart false e none there = e
    apart true e none there =
        let it : get_or c m d ≡ l = same-true (get_or c m d) l e in
        absurd (true≢false (sym (In_has c l (subst (λ x. In x c) it (In_get_or c m d there))) ∙ not-true (has c l) none))

-- the unit that is given was not seen
pub given_fresh : (p : PlainData) → IsPlain p → (k : ℕ) (l : Literal) → position (λ j. not (has p.written j)) (drop p.passed p.opening) ≡ Some k → l ≡ get_or p.opening (p.passed + k) l
    → has (take p.passed p.opening ++ p.written) l ≡ false
given_fresh p h k l some is =
    let lt = in_range p.passed k p.opening p.written l some is in
    let t = position-Some (λ j. not (has p.written j)) (drop p.passed p.opening) k l some in
    let here : get_or (drop p.passed p.opening) k l ≡ l = get_or-drop p.passed p.opening k l ∙ sym is in
    let apart : has p.written l ≡ false = not-true (has p.written l) (subst (λ x. not (has p.written x) ≡ true) here t.1) in
    let before : has (take p.passed p.opening) l ≡ false = ap (has (take p.passed p.opening)) is ∙ before_place p.opening p.passed (p.passed + k) l h.distinct (omega arith) lt in
    list_any-append (same l) (take p.passed p.opening) p.written ∙ (λ i. before i || apart i)

-- the next unit is taken
pub took_unit : (p : PlainData) → IsPlain p → (k r : ℕ) (l : Literal) → position (λ j. not (has p.written j)) (drop p.passed p.opening) ≡ Some k → l ≡ get_or p.opening (p.passed + k) l
    → TookUnit (state_of p) (state_of (record p { passed = p.passed + k + 1; given = p.given ++ l ∷ []; given_room = r })) l
took_unit p h k r l some is = record {
  fresh = given_fresh p h k l some is;
  sees = one_more p.passed k p.opening p.written l some is;
  fewer = (let lt = in_range p.passed k p.opening p.written l some is in omega arith);
  state = refl;
}

-- those that were given are among the first of the opening
front_grows : (n m : ℕ) (opening : List Literal) (l : Literal) → has (take n opening) l ≡ true → has (take (n + m) opening) l ≡ true
front_grows n m opening l h =
    ap (λ ls. has ls l) (take-add n m opening) ∙ list_any-append (same l) (take n opening) (take m (drop n opening)) ∙ or_left _ _ h

pub took_front : (p : PlainData) → IsPlain p → (k : ℕ) (l : Literal) → position (λ j. not (has p.written j)) (drop p.passed p.opening) ≡ Some k → l ≡ get_or p.opening (p.passed + k) l
    → All (λ j. has (take (p.passed + k + 1) p.opening) j ≡ true) (p.given ++ l ∷ [])
took_front p h k l some is =
    All-append (λ j. has (take (p.passed + k + 1) p.opening) j ≡ true) p.given (l ∷ [])
    (λ i d lt. subst (λ n. has (take n p.opening) (get_or p.given i d) ≡ true) (omega arith) (front_grows p.passed (k + 1) p.opening (get_or p.given i d) (h.given i d lt)))
    (one_All (λ j. has (take (p.passed + k + 1) p.opening) j ≡ true) l (In_has (take (p.passed + k + 1) p.opening) l (given_in p.passed k p.opening p.written l some is)))

pub took_none : (p : PlainData) → position (λ j. not (has p.written j)) (drop p.passed p.opening) ≡ None → (k : ℕ) → k ≡ one_more_count p.caught_up → TookNone (state_of p) (state_of (record p { caught_up = k }))
took_none p none k more = record { all = none_left p.passed p.opening p.written none; none_kept = refl; state = λ i. record (state_of p) { caught_up = more i } }
