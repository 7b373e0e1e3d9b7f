-- What is left is a part of the clause, in its order.
use Rattle.std.proofs.Common.{◌≡◌, ◌∙◌, ◌⊎◌, ◌||◌, ◌&&◌, suc, ◌≤◌, Bool, true, false, not, cond, List, [], ◌∷◌, ◌++◌, length, map, sym, refl, ap, subst, inl, inr, arith, append-nil, append_assoc}
use Rattle.std.proofs.lemmas.Bool.{cases_Bool, true≢false, false≢true}
use Rattle.std.proofs.lemmas.List.{length-append}
use Rattle.sat_words.specs.Literal.{Literal, opposite}
use Rattle.sat_words.specs.Clause.{has, includes, distinct_lits}
use Rattle.rup_model.specs.Rounds.{Rounds}
use Rattle.rup_model.specs.Rup.{conflicts}
use Rattle.rup_model.proofs.Lists.{In, In_has, has_In, In_all, In_append_left}
use Rattle.ring_port.specs.PortState.{PortState, lits_at}
use Rattle.ring_trail.specs.TrailData.{TrailData, IsTrail}
use Rattle.ring_trail.specs.Closed.{IsClosedClause, TrueWithin}
use Rattle.watch_prop.specs.WatchData.{WatchData, attached}
use Rattle.watch_prop.specs.Propagation.{HasReasons, IsQuiet}
use Rattle.watch_prop.proofs.Agreeing.{fixed_same}
use Rattle.watch_prop.proofs.Decisions.{decisions_none}
use Rattle.vivify.specs.Walk.{walk_from, left_of}
use Rattle.vivify.proofs.Walks.{apart}
use Rattle.vivify.specs.Walking.{ground}

-- the first is the second without some of its literals
Sub : List Literal → List Literal → Type 0
Sub xs [] = xs ≡ []
Sub xs (y ∷ ys) = Sub xs ys ⊎ ((zs : List Literal) × (xs ≡ y ∷ zs) × Sub zs ys)

Sub-none : (ys : List Literal) → Sub [] ys
unfolding Sub
Sub-none [] = refl
Sub-none (y ∷ ys) = inl (Sub-none ys)

-- what the walk adds to what is kept
record Adds (G : List (List Literal)) (kept rest : List Literal) : Type 0 where
  more : List Literal
  is : walk_from G kept rest ≡ kept ++ more
  sub : Sub more rest

walk_parts : (G : List (List Literal)) (kept rest : List Literal) → Adds G kept rest
unfolding walk_from Sub
walk_parts G kept [] = record { more = []; is = sym (append-nil kept); sub = refl }
walk_parts G kept (l ∷ rest) =
    by (Rounds G (map opposite kept) (opposite l)) (Rounds G (map opposite kept) l || conflicts G (map opposite (kept ++ l ∷ []))) refl refl (walk_parts G kept rest) (walk_parts G (kept ++ l ∷ []) rest)
  where
    by : (b d : Bool) → Rounds G (map opposite kept) (opposite l) ≡ b → (Rounds G (map opposite kept) l || conflicts G (map opposite (kept ++ l ∷ []))) ≡ d → Adds G kept rest → Adds G (kept ++ l ∷ []) rest → Adds G kept (l ∷ rest)
    by true d e f r q = record { more = r.more; is = rw e r.is; sub = inl r.sub }
    by false true e f r q = record { more = l ∷ []; is = rw (e, f) refl; sub = inr ([], refl, Sub-none rest) }
    by false false e f r q = record { more = l ∷ q.more; is = rw (e, f) (q.is ∙ append_assoc kept (l ∷ []) q.more); sub = inr (q.more, refl, q.sub) }

Sub-in : (xs ys : List Literal) (x : Literal) → Sub xs ys → In x xs → In x ys
unfolding Sub
Sub-in xs [] x e h = subst (λ (zs : List Literal). In x zs) e h
Sub-in xs (y ∷ ys) x (inl s) h = inr (Sub-in xs ys x s h)
Sub-in xs (y ∷ ys) x (inr s) h = by (subst (λ (zs : List Literal). In x zs) s.1 h) (λ m. Sub-in s.0 ys x s.2 m)
  where
    by : In x (y ∷ s.0) → (In x s.0 → In x ys) → In x (y ∷ ys)
    by (inl q) f = inl q
    by (inr m) f = inr (f m)

Sub-short : (xs ys : List Literal) → Sub xs ys → length xs ≤ length ys
unfolding Sub
Sub-short xs [] e = let n : length xs ≡ 0 = ap (λ (zs : List Literal). length zs) e in omega arith
Sub-short xs (y ∷ ys) (inl s) = let r = Sub-short xs ys s in omega arith
Sub-short xs (y ∷ ys) (inr s) = let r = Sub-short s.0 ys s.2 in let n : length xs ≡ suc (length s.0) = ap (λ (zs : List Literal). length zs) s.1 in omega arith

Sub-whole : (xs ys : List Literal) → Sub xs ys → length xs ≡ length ys → xs ≡ ys
unfolding Sub
Sub-whole xs [] e n = e
Sub-whole xs (y ∷ ys) (inl s) n = absurd (let r = Sub-short xs ys s in omega arith)
Sub-whole xs (y ∷ ys) (inr s) n =
    let m : length xs ≡ suc (length s.0) = ap (λ (zs : List Literal). length zs) s.1 in
    s.1 ∙ ap (λ (zs : List Literal). y ∷ zs) (Sub-whole s.0 ys s.2 (omega arith))

Sub-distinct : (xs ys : List Literal) → Sub xs ys → distinct_lits ys ≡ true → distinct_lits xs ≡ true
unfolding Sub
Sub-distinct xs [] e d = subst (λ (zs : List Literal). distinct_lits zs ≡ true) (sym e) refl
Sub-distinct xs (y ∷ ys) s d = by s (has ys y) (distinct_lits ys) refl refl d (λ zs q k. Sub-distinct zs ys q k)
  where
    distinct : (zs : List Literal) → Sub zs ys → has ys y ≡ false → has zs y ≡ false
    distinct zs q e = elim (cases_Bool (has zs y)) as (λ _. has zs y ≡ false) [
      | inl h ↦ absurd (true≢false (sym (In_has ys y (Sub-in zs ys y q (has_In zs y h))) ∙ e))
      | inr h ↦ h
    ]

    by : Sub xs ys ⊎ ((zs : List Literal) × (xs ≡ y ∷ zs) × Sub zs ys) → (b e : Bool) → has ys y ≡ b → distinct_lits ys ≡ e → not b && e ≡ true
        → ((zs : List Literal) → Sub zs ys → distinct_lits ys ≡ true → distinct_lits zs ≡ true) → distinct_lits xs ≡ true
    by q true e h k f again = absurd (false≢true f)
    by q false false h k f again = absurd (false≢true f)
    by (inl q) false true h k f again = again xs q k
    by (inr q) false true h k f again =
        let r = again q.0 q.2 k in
        let a = distinct q.0 q.2 h in
        subst (λ (zs : List Literal). distinct_lits zs ≡ true) (sym q.1) (rw (a, r) refl)

-- what is kept is left
pub kept_in : (G : List (List Literal)) (kept rest : List Literal) (x : Literal) → In x kept → In x (walk_from G kept rest)
kept_in G kept rest x h = let w = walk_parts G kept rest in subst (λ (zs : List Literal). In x zs) (sym w.is) (In_append_left kept w.more x h)

pub left_part : (G : List (List Literal)) (c : List Literal) → includes c (left_of G c) ≡ true
left_part G c =
    let w = walk_parts G [] c in
    In_all (has c) (left_of G c) (λ x h. In_has c x (Sub-in w.more c x w.sub (subst (λ (zs : List Literal). In x zs) w.is h)))

pub left_distinct : (G : List (List Literal)) (c : List Literal) → distinct_lits c ≡ true → distinct_lits (left_of G c) ≡ true
left_distinct G c d = let w = walk_parts G [] c in subst (λ (zs : List Literal). distinct_lits zs ≡ true) (sym w.is) (Sub-distinct w.more c w.sub d)

pub left_short : (G : List (List Literal)) (c : List Literal) → length (left_of G c) ≤ length c
left_short G c = let w = walk_parts G [] c in subst (λ (zs : List Literal). length zs ≤ length c) (sym w.is) (Sub-short w.more c w.sub)

pub left_whole : (G : List (List Literal)) (c : List Literal) → length (left_of G c) ≡ length c → left_of G c ≡ c
left_whole G c n = let w = walk_parts G [] c in w.is ∙ Sub-whole w.more c w.sub (ap (λ (zs : List Literal). length zs) (sym w.is) ∙ n)

-- Nothing is left only of a false clause

not_none : (kept : List Literal) (l : Literal) (more : List Literal) → (kept ++ l ∷ []) ++ more ≡ [] → ⊥
not_none kept l more e =
    let n : length ((kept ++ l ∷ []) ++ more) ≡ 0 = ap (λ (zs : List Literal). length zs) e in
    let a = length-append (kept ++ l ∷ []) more in
    let b = length-append kept (l ∷ []) in omega arith

none_left : (G : List (List Literal)) (c : List Literal) → walk_from G [] c ≡ [] → (l : Literal) → In l c → Rounds G [] (opposite l) ≡ true
unfolding walk_from
none_left G [] e l h = absurd h
none_left G (k ∷ c) e l h = by (Rounds G [] (opposite k)) (Rounds G [] k || conflicts G (map opposite (k ∷ []))) refl refl (λ q m. none_left G c q l m)
  where
    by : (b d : Bool) → Rounds G [] (opposite k) ≡ b → (Rounds G [] k || conflicts G (map opposite (k ∷ []))) ≡ d → (walk_from G [] c ≡ [] → In l c → Rounds G [] (opposite l) ≡ true) → Rounds G [] (opposite l) ≡ true
    by true d p q f = here h
      where
        rest : walk_from G [] c ≡ []
        rest = sym (ap (λ (b : Bool). cond b (walk_from G [] c) (cond (Rounds G [] k || conflicts G (map opposite (k ∷ []))) (k ∷ []) (walk_from G (k ∷ []) c))) p) ∙ e

        here : In l (k ∷ c) → Rounds G [] (opposite l) ≡ true
        here (inl z) = subst (λ (x : Literal). Rounds G [] (opposite x) ≡ true) z p
        here (inr m) = f rest m
    by false true p q f = absurd (let z : k ∷ [] ≡ [] = sym (ap (λ (b : Bool). cond b (walk_from G [] c) (cond (Rounds G [] k || conflicts G (map opposite (k ∷ []))) (k ∷ []) (walk_from G (k ∷ []) c))) p ∙ ap (λ (d : Bool). cond d (k ∷ []) (walk_from G (k ∷ []) c)) q) ∙ e in cc)
    by false false p q f = absurd (
        let w = walk_parts G (k ∷ []) c in
        let z : (k ∷ []) ++ w.more ≡ [] = sym w.is ∙ sym (ap (λ (b : Bool). cond b (walk_from G [] c) (cond (Rounds G [] k || conflicts G (map opposite (k ∷ []))) (k ∷ []) (walk_from G (k ∷ []) c))) p ∙ ap (λ (d : Bool). cond d (k ∷ []) (walk_from G (k ∷ []) c)) q) ∙ e in
        not_none [] k w.more z)

false_there : (s : PortState) (w : WatchData) (t : TrailData) (c : List Literal) → IsTrail t → t.level ≡ 0 → HasReasons (attached w) s t.steps → IsQuiet w (lits_at s) t → left_of (ground s w t) c ≡ []
    → (l : Literal) → has c l ≡ true → TrueWithin t.steps 0 (opposite l)
false_there s w t c shape zero' reasons quiet e l h =
    let r = none_left (ground s w t) c e l (has_In c l h) in
    let z = (fixed_same w s t (opposite l) shape reasons quiet).0 (subst (λ (A : List Literal). Rounds (ground s w t) A (opposite l) ≡ true) (sym (decisions_none t shape zero')) r) in
    record { place = z.place; in_range = z.before; true_there = z.true_there; level = (let q = shape.within z.place z.before in omega arith) }

pub never_none : (s : PortState) (w : WatchData) (t : TrailData) (c : List Literal) → IsTrail t → t.level ≡ 0 → HasReasons (attached w) s t.steps → IsQuiet w (lits_at s) t
    → IsClosedClause c t.steps 0 → left_of (ground s w t) c ≡ [] → ⊥
never_none s w t c shape zero' reasons quiet (inr two) e = two.one_open (false_there s w t c shape zero' reasons quiet e two.one two.has_one)
never_none s w t c shape zero' reasons quiet (inl one) e =
    let f = false_there s w t c shape zero' reasons quiet e one.lit one.has_lit in
    apart t one.lit shape record { place = one.within.place; before = one.within.in_range; true_there = one.within.true_there } record { place = f.place; before = f.in_range; true_there = f.true_there }
