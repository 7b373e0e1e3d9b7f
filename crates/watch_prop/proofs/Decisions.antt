-- The decisions of a trail and its literals at level 0, and the trails that are derived from them.
use Rattle.std.proofs.Common.{◌≡◌, ◌∙◌, ℕ, ◌+◌, ◌-◌, ◌<◌, ◌≤◌, ◌&&◌, Bool, true, false, nat_lt, nat_le, is_none, List, [], ◌∷◌, ◌++◌, length, map, cond, Option, None, Some, IsSome, sym, refl, ap, subst, inl, inr, ◌⊎◌, arith, length-append, append-nil, Contains}
use Rattle.std.specs.List.{filter}
use Rattle.std.specs.Option.{option_map, option_map_or}
use Rattle.std.proofs.lemmas.Bool.{and_from, and_parts, lt-ltb, ltb-true, le-leb, leb-true, true≢false}
use Rattle.std.proofs.lemmas.List.{map-append, get_or_append_left, get_or-append-add}
use Rattle.std.proofs.lemmas.List.Elements.{filter-append}
use Rattle.sat_words.specs.Literal.{Literal}
use Rattle.sat_words.specs.Clause.{has}
use Rattle.sat_words.specs.declared.shared.Cref.{Cref}
use Rattle.rup_model.proofs.Lists.{In, has_In, In_has, In_map, map_In, In_get_or, In_append_left, In_append_right, In_Contains, Contains_In}
use Rattle.ring_port.specs.PortState.{Holding, PortState, held_at, clause_at, known}
use Rattle.ring_port.proofs.Holdings.{All_In, held_is_known, seen_is_known}
use Rattle.ring_trail.specs.declared.step.TrailStep.{TrailStep}
use Rattle.ring_trail.specs.TrailData.{TrailData, IsTrail, HasGrown, no_step, step_at, lit_at, level_at, decided, cut_back}
use Rattle.ring_trail.specs.Reasoned.{Held, IsForced, IsSeen, IsDecision, IsReasoned}
use Rattle.ring_trail.proofs.Levels.{up_to-all}
use Rattle.watch_prop.specs.Rounds.{decisions_of, fixed_of, with_units, AllTrueOn, HeldAmong, IsImplied, IsDerived}
use Rattle.watch_prop.proofs.TrailRounds.{place_of}

-- Filters

In_filter : {X : Type 0} (test : X → Bool) (xs : List X) (x : X) → In x xs → test x ≡ true → In x (filter test xs)
In_filter test [] x h e = absurd h
In_filter test (y ∷ ys) x h e = by (test y) refl h (In_filter test ys x)
  where
    by : (b : Bool) → test y ≡ b → In x (y ∷ ys) → (In x ys → test x ≡ true → In x (filter test ys)) → In x (cond b (y ∷ filter test ys) (filter test ys))
    by true is (inl q) rest = inl q
    by true is (inr k) rest = inr (rest k e)
    by false is (inl q) rest = absurd (true≢false (sym e ∙ ap test (sym q) ∙ is))
    by false is (inr k) rest = rest k e

filter_In : {X : Type 0} (test : X → Bool) (xs : List X) (x : X) → In x (filter test xs) → In x xs
filter_In test [] x h = absurd h
filter_In test (y ∷ ys) x h = by (test y) h (filter_In test ys x)
  where
    by : (b : Bool) → In x (cond b (y ∷ filter test ys) (filter test ys)) → (In x (filter test ys) → In x ys) → In x (y ∷ ys)
    by true (inl q) rest = inl q
    by true (inr k) rest = inr (rest k)
    by false k rest = inr (rest k)

filter_none : {X : Type 0} (test : X → Bool) (xs : List X) → ((x : X) → In x xs → test x ≡ false) → filter test xs ≡ []
filter_none test [] f = refl
filter_none test (y ∷ ys) f =
    ap (λ (b : Bool). cond b (y ∷ filter test ys) (filter test ys)) (f y (inl refl)) ∙ filter_none test ys (λ x h. f x (inr h))

-- not true is false
is_false : (b : Bool) → (b ≡ true → ⊥) → b ≡ false
is_false true f = absurd (f refl)
is_false false f = refl

-- What stands in the two lists

among_true : (steps : List TrailStep) (test : TrailStep → Bool) → AllTrueOn steps (map (λ (s : TrailStep). s.lit) (filter test steps))
among_true steps test l h =
    let m = map_In (λ (s : TrailStep). s.lit) (filter test steps) l (has_In (map (λ (s : TrailStep). s.lit) (filter test steps)) l h) in
    let p = place_of steps m.0 (filter_In test steps m.0 m.1) in
    record { place = p.0; before = p.1; true_there = ap (λ (s : TrailStep). s.lit) p.2 ∙ m.2 }

pub decisions_true : (steps : List TrailStep) → AllTrueOn steps (decisions_of steps)
decisions_true steps = among_true steps (λ s. is_none s.reason && nat_lt 0 s.level)

pub fixed_true : (steps : List TrailStep) → AllTrueOn steps (fixed_of steps)
fixed_true steps = among_true steps (λ s. nat_le s.level 0)

among_has : (steps : List TrailStep) (test : TrailStep → Bool) (p : ℕ) → p < length steps → test (step_at steps p) ≡ true → has (map (λ (s : TrailStep). s.lit) (filter test steps)) (lit_at steps p) ≡ true
among_has steps test p lt e =
    In_has (map (λ (s : TrailStep). s.lit) (filter test steps)) (lit_at steps p)
    (In_map (λ (s : TrailStep). s.lit) (filter test steps) (step_at steps p) (In_filter test steps (step_at steps p) (In_get_or steps p no_step lt) e))

pub decision_has : (steps : List TrailStep) (p : ℕ) → p < length steps → IsDecision steps p → has (decisions_of steps) (lit_at steps p) ≡ true
decision_has steps p lt d =
    among_has steps (λ s. is_none s.reason && nat_lt 0 s.level) p lt
    (and_from _ _ (ap (λ (o : Option Cref). is_none o) d.none) (lt-ltb _ _ d.above))

fixed_has : (steps : List TrailStep) (p : ℕ) → p < length steps → level_at steps p ≡ 0 → has (fixed_of steps) (lit_at steps p) ≡ true
fixed_has steps p lt z = among_has steps (λ s. nat_le s.level 0) p lt (le-leb _ _ (omega arith))

-- Trails that are derived

pub reasoned_derived : (held : Held) (seen : List Literal) (G : List (List Literal)) (A : List Literal) (steps : List TrailStep) → IsReasoned held seen steps
    → HeldAmong held G
    → ((p : ℕ) → p < length steps → IsSeen seen steps p → (has A (lit_at steps p) ≡ true) ⊎ Contains G (lit_at steps p ∷ []))
    → ((l : Literal) → has (decisions_of steps) l ≡ true → has A l ≡ true) → IsDerived G A steps
reasoned_derived held seen G A steps r of_held of_seen of_decisions p lt = by (r.caused p lt)
  where
    one : (k l : Literal) → has (l ∷ []) k ≡ true → k ≡ l
    one k l h = elim (has_In (l ∷ []) k h) as (λ _. k ≡ l) [ inl e ↦ sym e | inr none ↦ absurd none ]

    by : IsForced held steps p ⊎ (IsSeen seen steps p ⊎ IsDecision steps p) → (has A (lit_at steps p) ≡ true) ⊎ IsImplied G steps p
    by (inl f) = inr (record { clause = f.lits; member = of_held f.reason.address f.lits f.held_is; unit = f.unit })
    by (inr (inl z)) =
        elim (of_seen p lt z) as (λ _. (has A (lit_at steps p) ≡ true) ⊎ IsImplied G steps p) [
          | inl given ↦ inl given
          | inr there ↦ inr (record {
            clause = lit_at steps p ∷ [];
            member = there;
            unit = record { has_lit = In_has (lit_at steps p ∷ []) (lit_at steps p) (inl refl); others = λ k h. inl (one k (lit_at steps p) h) };
          })
        ]
    by (inr (inr d)) = inl (of_decisions (lit_at steps p) (decision_has steps p lt d))

pub clause_with : (cs : List (List Literal)) (units : List Literal) (c : List Literal) → Contains cs c → Contains (with_units cs units) c
clause_with cs units c h = In_Contains (with_units cs units) c (In_append_left cs (map (λ l. l ∷ []) units) c (Contains_In cs c h))

unit_with : (cs : List (List Literal)) (units : List Literal) (l : Literal) → has units l ≡ true → Contains (with_units cs units) (l ∷ [])
unit_with cs units l h = In_Contains (with_units cs units) (l ∷ []) (In_append_right cs (map (λ l. l ∷ []) units) (l ∷ []) (In_map (λ l. l ∷ []) units l (has_In units l h)))

pub derived_seen : (held : Held) (seen : List Literal) (cs : List (List Literal)) (steps : List TrailStep) → IsReasoned held seen steps
    → HeldAmong held cs → IsDerived (with_units cs seen) (decisions_of steps) steps
derived_seen held seen cs steps r of_held =
    reasoned_derived held seen (with_units cs seen) (decisions_of steps) steps r
    (λ a c e. clause_with cs seen c (of_held a c e))
    (λ p lt z. inr (unit_with cs seen (lit_at steps p) z.seen_is))
    (λ l h. h)

pub derived_fixed : (held : Held) (seen : List Literal) (cs : List (List Literal)) (steps : List TrailStep) → IsReasoned held seen steps
    → HeldAmong held cs → IsDerived (with_units cs (fixed_of steps)) (decisions_of steps) steps
derived_fixed held seen cs steps r of_held =
    reasoned_derived held seen (with_units cs (fixed_of steps)) (decisions_of steps) steps r
    (λ a c e. clause_with cs (fixed_of steps) c (of_held a c e))
    (λ p lt z. inr (unit_with cs (fixed_of steps) (lit_at steps p) (fixed_has steps p lt z.level)))
    (λ l h. h)

-- a clause that is looked up is known
clause_known : (s : PortState) (a : ℕ) (c : List Literal) → clause_at s a ≡ Some c → Contains (known s) c
clause_known s a c e = by (held_at s a) refl e
  where
    by : (o : Option Holding) → held_at s a ≡ o → option_map (λ (h : Holding). h.lits) o ≡ Some c → Contains (known s) c
    by (Some k) is f =
        let lits : k.lits ≡ c = cc in
        subst (λ (d : List Literal). Contains (known s) d) (ap (λ (o : Option Holding). option_map_or (λ (x : Holding). x.lits) o []) is ∙ lits)
        (held_is_known s a (subst (λ (o : Option Holding). IsSome o) (sym is) refl))
    by None is f = absurd (cc)

pub derived_known : (s : PortState) (steps : List TrailStep) → IsReasoned (clause_at s) s.seen steps → IsDerived (known s) (decisions_of steps) steps
derived_known s steps r =
    reasoned_derived (clause_at s) s.seen (known s) (decisions_of steps) steps r
    (clause_known s)
    (λ p lt z. inr (seen_is_known s (lit_at steps p) z.seen_is))
    (λ l h. h)

-- How the two lists change

pub decisions_none : (t : TrailData) → IsTrail t → t.level ≡ 0 → decisions_of t.steps ≡ []
decisions_none t shape z =
    ap (map (λ (s : TrailStep). s.lit))
    (filter_none (λ s. is_none s.reason && nat_lt 0 s.level) t.steps (λ s h. is_false _ (λ e.
    let p = place_of t.steps s h in
    let low : level_at t.steps p.0 ≤ t.level = shape.within p.0 p.1 in
    let same : level_at t.steps p.0 ≡ s.level = ap (λ (x : TrailStep). x.level) p.2 in
    let high = ltb-true _ _ (and_parts (is_none s.reason) (nat_lt 0 s.level) e).1 in
    omega arith)))

among_append : (test : TrailStep → Bool) (steps more : List TrailStep) → map (λ (s : TrailStep). s.lit) (filter test (steps ++ more)) ≡ map (λ (s : TrailStep). s.lit) (filter test steps) ++ map (λ (s : TrailStep). s.lit) (filter test more)
among_append test steps more =
    ap (map (λ (s : TrailStep). s.lit)) (filter-append test steps more) ∙ map-append (λ (s : TrailStep). s.lit) (filter test steps) (filter test more)

-- steps that fail the test add nothing
among_same : (test : TrailStep → Bool) (steps more : List TrailStep) → ((s : TrailStep) → In s more → test s ≡ false) → map (λ (s : TrailStep). s.lit) (filter test (steps ++ more)) ≡ map (λ (s : TrailStep). s.lit) (filter test steps)
among_same test steps more f =
    among_append test steps more
    ∙ ap (λ (xs : List TrailStep). map (λ (s : TrailStep). s.lit) (filter test steps) ++ map (λ (s : TrailStep). s.lit) xs) (filter_none test more f)
    ∙ append-nil (map (λ (s : TrailStep). s.lit) (filter test steps))

pub decisions_decided : (t : TrailData) (l : Literal) → decisions_of (decided t l).steps ≡ decisions_of t.steps ++ l ∷ []
decisions_decided t l =
    let x : TrailStep = record { lit = l; level = t.level + 1; reason = None } in
    let test : TrailStep → Bool = λ s. is_none s.reason && nat_lt 0 s.level in
    let yes' : test x ≡ true = lt-ltb 0 (t.level + 1) (omega arith) in
    among_append test t.steps (x ∷ [])
    ∙ ap (λ (b : Bool). decisions_of t.steps ++ map (λ (s : TrailStep). s.lit) (cond b (x ∷ []) [])) yes'

pub fixed_decided : (t : TrailData) (l : Literal) → fixed_of (decided t l).steps ≡ fixed_of t.steps
fixed_decided t l =
    among_same (λ s. nat_le s.level 0) t.steps (record { lit = l; level = t.level + 1; reason = None } ∷ [])
    (λ s h. is_false _ (λ e.
    let low = leb-true _ _ e in
    elim h as (λ _. ⊥) [
      | inl q ↦ (let same : t.level + 1 ≡ s.level = ap (λ (x : TrailStep). x.level) q in omega arith)
      | inr none ↦ none
    ]))

pub fixed_grown : (t u : TrailData) → 0 < t.level → HasGrown t u → fixed_of u.steps ≡ fixed_of t.steps
fixed_grown t u pos g =
    ap fixed_of g.steps
    ∙ among_same (λ s. nat_le s.level 0) t.steps g.more (λ s h. is_false _ (λ e.
    let low = leb-true _ _ e in
    let here : s.level ≡ t.level = All_In (λ (x : TrailStep). x.level ≡ t.level) g.more s g.at_level h in
    omega arith))

pub decisions_grown : (held : Held) (seen : List Literal) (t u : TrailData) → IsTrail t → HasGrown t u → IsReasoned held seen u.steps → decisions_of u.steps ≡ decisions_of t.steps
decisions_grown held seen t u shape g r =
    ap decisions_of g.steps
    ∙ among_same (λ s. is_none s.reason && nat_lt 0 s.level) t.steps g.more (λ s h. is_false _ (λ e. none s h e))
  where
    none : (s : TrailStep) → In s g.more → (is_none s.reason && nat_lt 0 s.level) ≡ true → ⊥
    none s h e = by (r.caused p lt)
      where
        parts : (is_none s.reason ≡ true) × (nat_lt 0 s.level ≡ true)
        parts = and_parts (is_none s.reason) (nat_lt 0 s.level) e

        j : (n : ℕ) × (n < length g.more) × (step_at g.more n ≡ s)
        j = place_of g.more s h

        p : ℕ
        p = length t.steps + j.0

        lt : p < length u.steps
        lt = let n : length u.steps ≡ length (t.steps ++ g.more) = ap length g.steps in let b = j.1 in omega (arith, n, b, length-append t.steps g.more)

        there : step_at u.steps p ≡ s
        there = ap (λ (xs : List TrailStep). step_at xs p) g.steps ∙ get_or-append-add t.steps g.more j.0 no_step ∙ j.2

        level_is : level_at u.steps p ≡ t.level
        level_is = ap (λ (x : TrailStep). x.level) there ∙ All_In (λ (x : TrailStep). x.level ≡ t.level) g.more s g.at_level h

        above : 0 < level_at u.steps p
        above = subst (λ (n : ℕ). 0 < n) (sym (ap (λ (x : TrailStep). x.level) there)) (ltb-true _ _ parts.1)

        by : IsForced held u.steps p ⊎ (IsSeen seen u.steps p ⊎ IsDecision u.steps p) → ⊥
        by (inl f) =
            let e : is_none s.reason ≡ false = ap (λ (x : TrailStep). is_none x.reason) (sym there) ∙ ap (λ (o : Option Cref). is_none o) f.reason_is in
            true≢false (sym parts.0 ∙ e)
        by (inr (inl z)) = let a = z.level in let b = above in omega arith
        by (inr (inr d)) =
            let pos = above in
            let here = level_is in
            let q = shape.opened (t.level - 1) (omega arith) in
            let b = q.1 in
            let old : level_at u.steps q.0 ≡ level_at t.steps q.0 = ap (λ (xs : List TrailStep). level_at xs q.0) g.steps ∙ ap (λ (x : TrailStep). x.level) (get_or_append_left t.steps g.more no_step q.0 q.1) in
            let is = q.2 in
            let less = d.first q.0 (omega arith) in
            omega arith

-- a second filter that passes more changes nothing
filter_twice : {X : Type 0} (p q : X → Bool) (xs : List X) → ((x : X) → p x ≡ true → q x ≡ true) → filter p (filter q xs) ≡ filter p xs
filter_twice p q [] f = refl
filter_twice {X} p q (x ∷ xs) f = by (q x) (p x) refl refl (filter_twice p q xs f)
  where
    by : (b d : Bool) → q x ≡ b → p x ≡ d → filter p (filter q xs) ≡ filter p xs → filter p (cond b (x ∷ filter q xs) (filter q xs)) ≡ cond d (x ∷ filter p xs) (filter p xs)
    by true d is e rest = ap (λ (c : Bool). cond c (x ∷ filter p (filter q xs)) (filter p (filter q xs))) e ∙ ap (λ (ys : List X). cond d (x ∷ ys) ys) rest
    by false true is e rest = absurd (true≢false (sym (f x e) ∙ is))
    by false false is e rest = rest

pub fixed_back : (t : TrailData) (k : ℕ) → fixed_of (cut_back t k).steps ≡ fixed_of t.steps
fixed_back t k = ap (map (λ (s : TrailStep). s.lit)) (filter_twice (λ s. nat_le s.level 0) (λ s. nat_le s.level k) t.steps (λ s e. (let low = leb-true _ _ e in le-leb _ _ (omega arith))))

pub fixed_all : (t : TrailData) → IsTrail t → t.level ≡ 0 → fixed_of t.steps ≡ map (λ (s : TrailStep). s.lit) t.steps
fixed_all t shape z = ap (map (λ (s : TrailStep). s.lit)) (up_to-all 0 t.steps (λ p lt. (let low = shape.within p lt in omega arith)))
