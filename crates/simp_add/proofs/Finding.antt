-- Clauses found by number, and the common sets that count at a number.
use Rattle.std.proofs.Common.{◌≡◌, ◌∙◌, ℕ, ◌<◌, Bool, true, false, not, ◌||◌, ◌&&◌, cond, List, [], ◌∷◌, Option, Some, None, sym, refl, ap, subst, inl, inr, ⊎_elim, ne_eqb, Contains}
use Rattle.std.specs.Prelude.{nat_lt}
use Rattle.std.specs.List.{list_any}
use Rattle.std.proofs.lemmas.Bool.{or_left, or_right, or_cases, or_parts, and_parts, and_from, cases_Bool, cases_eq, eq-eqb, true≢false, not-true, lt-ltb}
use Rattle.sat_words.specs.Literal.{Literal, opposite, same, code_of}
use Rattle.sat_words.specs.Clause.{has, same_set, is_empty, InOrder}
use Rattle.sat_words.proofs.Members.{same-true, same-refl}
use Rattle.rup_model.proofs.Covers.{both_true, same_back, same_chain}
use Rattle.rup_model.proofs.Lists.{In, any_In, In_any, In_map, map_In, has_In, In_has, Contains_In, In_Contains}
use Rattle.sat_words.proofs.Insertion.{same_set_from}
use Rattle.simp_base.specs.WorkState.{WorkState, IsWork, HaveOwnNumbers, lists}
use Rattle.simp_base.proofs.Filters.{In_filter, filter_In}
use Rattle.simp_base.proofs.Removal.{same_number}
use Rattle.simp_add.specs.declared.alike.Alike.{Alike}
use Rattle.simp_add.specs.Common.{clause_at, others, mentions, is_alive, is_common, is_first, is_counted, common_in, common_at}
use Rattle.simp_add.specs.Alike.{AreAlike, IsLoaded, is_later}
use Rattle.simp_add.specs.Counted.{may_pair, is_paired}

abbrev pub Cell : Type 0
Cell = ℕ × List Literal

-- By number

some_In : (cs : List Cell) (n : ℕ) (c : List Literal) → clause_at cs n ≡ Some c → In {X = Cell} (n, c) cs
some_In [] n c h = absurd (let no : ⊥ = cc in no)
some_In (x ∷ cs) n c h = elim (cases_eq x.0 n) as (λ _. In {X = Cell} (n, c) (x ∷ cs)) [
  | inl e ↦ (let one : Some x.1 ≡ Some c = sym (ap (λ (b : Bool). cond b (Some x.1) (clause_at cs n)) (eq-eqb x.0 n e)) ∙ h in let is : x.1 ≡ c = cc in inl (λ i. (e i, is i)))
  | inr ne ↦ inr (some_In cs n c (sym (ap (λ (b : Bool). cond b (Some x.1) (clause_at cs n)) (ne_eqb x.0 n ne)) ∙ h))
]

none_In_at : (cs : List Cell) (n : ℕ) (c : List Literal) → clause_at cs n ≡ None → In {X = Cell} (n, c) cs → ⊥
none_In_at [] n c h i = i
none_In_at (x ∷ cs) n c h i = elim (cases_eq x.0 n) as (λ _. ⊥) [
  | inl e ↦ (let one : Some x.1 ≡ None = sym (ap (λ (b : Bool). cond b (Some x.1) (clause_at cs n)) (eq-eqb x.0 n e)) ∙ h in let no : ⊥ = cc in no)
  | inr ne ↦ ⊎_elim
      (λ (q : x ≡ (n, c)). ne (ap (λ (y : Cell). y.0) q))
      (λ (k : In {X = Cell} (n, c) cs). none_In_at cs n c (sym (ap (λ (b : Bool). cond b (Some x.1) (clause_at cs n)) (ne_eqb x.0 n ne)) ∙ h) k)
      i
]

pub at_there : (cs : List Cell) (n : ℕ) (c : List Literal) → clause_at cs n ≡ Some c → Contains cs (n, c)
at_there cs n c h = In_Contains cs (n, c) (some_In cs n c h)

pub there_at : (cs : List Cell) → HaveOwnNumbers cs → (n : ℕ) (c : List Literal) → Contains cs (n, c) → clause_at cs n ≡ Some c
there_at cs own n c h = by (clause_at cs n) refl
  where
    by : (o : Option (List Literal)) → clause_at cs n ≡ o → o ≡ Some c
    by None e = absurd (none_In_at cs n c e (Contains_In cs (n, c) h))
    by (Some d) e = ap (λ (x : List Literal). Some x) (same_number cs own n d c (at_there cs n d e) h)

pub none_at : (cs : List Cell) (n : ℕ) → ((c : List Literal) → Contains cs (n, c) → ⊥) → clause_at cs n ≡ None
none_at cs n none = by (clause_at cs n) refl
  where
    by : (o : Option (List Literal)) → clause_at cs n ≡ o → o ≡ None
    by None e = refl
    by (Some d) e = absurd (none d (at_there cs n d e))

-- The others of a clause

pub refuted : (b : Bool) → (b ≡ true → ⊥) → b ≡ false
refuted true f = absurd (f refl)
refuted false f = refl

pub others_in : (l k : Literal) (c : List Literal) → has (others l c) k ≡ true → (has c k ≡ true) × (same l k ≡ false)
others_in l k c h = let t = filter_In (λ j. not (same l j)) c k (has_In (others l c) k h) in (In_has c k t.0, not-true (same l k) t.1)

pub in_others : (l k : Literal) (c : List Literal) → has c k ≡ true → same l k ≡ false → has (others l c) k ≡ true
in_others l k c h ne = In_has (others l c) k (In_filter (λ j. not (same l j)) c k (has_In c k h) (ap not ne))

-- a clause is the literal with its others
pub whole_has : (l : Literal) (c : List Literal) → has c l ≡ true → (k : Literal) → has (l ∷ others l c) k ≡ has c k
whole_has l c h k = both_true _ _
    (λ t. elim (or_cases (same k l) (has (others l c) k) t) as (λ _. has c k ≡ true) [
      | inl e ↦ ap (has c) (same-true k l e) ∙ h
      | inr i ↦ (others_in l k c i).0
    ])
    (λ t. elim (cases_Bool (same l k)) as (λ _. has (l ∷ others l c) k ≡ true) [
      | inl e ↦ or_left _ _ (ap (same k) (same-true l k e) ∙ same-refl k)
      | inr ne ↦ or_right _ _ (in_others l k c t ne)
    ])

pub whole_set : (l : Literal) (c : List Literal) → has c l ≡ true → same_set (l ∷ others l c) c ≡ true
whole_set l c h = same_set_from (l ∷ others l c) c (whole_has l c h)

-- two clauses with the same literals have the same others
pub others_alike : (l : Literal) (c d : List Literal) → ((k : Literal) → has c k ≡ has d k) → (k : Literal) → has (others l c) k ≡ has (others l d) k
others_alike l c d alike k = both_true _ _
    (λ t. (let p = others_in l k c t in in_others l k d (sym (alike k) ∙ p.0) p.1))
    (λ t. (let p = others_in l k d t in in_others l k c (alike k ∙ p.0) p.1))

-- Alive

pub alive_there : (cs : List Cell) (c : List Literal) (n : ℕ) (d : List Literal) → Contains cs (n, d) → same_set c d ≡ true → is_alive (lists cs) c ≡ true
alive_there cs c n d h s = any_In (same_set c) (lists cs) d (In_map (λ (x : Cell). x.1) cs (n, d) (Contains_In cs (n, d) h)) s

pub there_alive : (cs : List Cell) (c : List Literal) → is_alive (lists cs) c ≡ true → (n : ℕ) × (d : List Literal) × Contains cs (n, d) × (same_set c d ≡ true)
there_alive cs c h =
    let t = In_any (same_set c) (lists cs) h in
    let m = map_In (λ (x : Cell). x.1) cs t.0 t.1 in
    (m.0.0, t.0, subst (λ (y : List Literal). Contains cs (m.0.0, y)) m.2 (In_Contains cs m.0 m.1), t.2)

-- What counts at a number

-- nothing, if no clause with the literal has the number, or its others are no common set
pub nothing_at : (w : WorkState) (l k : Literal) (n : ℕ) → ((c : List Literal) → Contains w.clauses (n, c) → is_counted w.clauses l k n c ≡ false) → common_at w.clauses l k n ≡ None
nothing_at w l k n none = by (clause_at w.clauses n) refl
  where
    by : (o : Option (List Literal)) → clause_at w.clauses n ≡ o → common_in w.clauses l k n o ≡ None
    by None e = refl
    by (Some c) e = ap (λ (b : Bool). cond b (Some (others l c)) None) (none c (at_there w.clauses n c e))

-- the others of the clause, if they count
pub counts_at : (w : WorkState) → IsWork w → (l k : Literal) (n : ℕ) (c : List Literal) → Contains w.clauses (n, c) → is_counted w.clauses l k n c ≡ true → common_at w.clauses l k n ≡ Some (others l c)
counts_at w kept l k n c h e = ap (common_in w.clauses l k n) (there_at w.clauses kept.numbers n c h) ∙ ap (λ (b : Bool). cond b (Some (others l c)) None) e

-- and the other way round
pub counted_at : (w : WorkState) (l k : Literal) (n : ℕ) (C : List Literal) → common_at w.clauses l k n ≡ Some C → (c : List Literal) × Contains w.clauses (n, c) × (is_counted w.clauses l k n c ≡ true) × (C ≡ others l c)
counted_at w l k n C = by (clause_at w.clauses n) refl
  where
    in_case : (c : List Literal) → clause_at w.clauses n ≡ Some c → (b : Bool) → is_counted w.clauses l k n c ≡ b → cond b (Some (others l c)) None ≡ Some C
        → (d : List Literal) × Contains w.clauses (n, d) × (is_counted w.clauses l k n d ≡ true) × (C ≡ others l d)
    in_case c e true q h = let is : others l c ≡ C = cc in (c, at_there w.clauses n c e, q, sym is)
    in_case c e false q h = absurd (let no : ⊥ = cc in no)

    by : (o : Option (List Literal)) → clause_at w.clauses n ≡ o → common_in w.clauses l k n o ≡ Some C → (c : List Literal) × Contains w.clauses (n, c) × (is_counted w.clauses l k n c ≡ true) × (C ≡ others l c)
    by None e h = absurd (let no : ⊥ = cc in no)
    by (Some c) e h = in_case c e (is_counted w.clauses l k n c) refl h

-- The parts of what counts

pub record Counts (cs : List Cell) (l k : Literal) (n : ℕ) (c : List Literal) : Type 0 where
  pub holds : has c l ≡ true
  pub first : is_first cs n c ≡ true
  pub some : is_empty (others l c) ≡ false
  pub not_first : mentions l (others l c) ≡ false
  pub not_second : mentions k (others l c) ≡ false
  pub one : is_alive (lists cs) (l ∷ others l c) ≡ true
  pub other : is_alive (lists cs) (k ∷ others l c) ≡ true

pub parts : (cs : List Cell) (l k : Literal) (n : ℕ) (c : List Literal) → is_counted cs l k n c ≡ true → Counts cs l k n c
parts cs l k n c h =
    let C = others l c in
    let a = and_parts (has c l && is_first cs n c) (is_common (lists cs) l k C) h in
    let b = and_parts (has c l) (is_first cs n c) a.0 in
    let d = and_parts (not (is_empty C) && not (mentions l C) && not (mentions k C) && is_alive (lists cs) (l ∷ C)) (is_alive (lists cs) (k ∷ C)) a.1 in
    let e = and_parts (not (is_empty C) && not (mentions l C) && not (mentions k C)) (is_alive (lists cs) (l ∷ C)) d.0 in
    let f = and_parts (not (is_empty C) && not (mentions l C)) (not (mentions k C)) e.0 in
    let g = and_parts (not (is_empty C)) (not (mentions l C)) f.0 in
    record { holds = b.0; first = b.1; some = not-true _ g.0; not_first = not-true _ g.1; not_second = not-true _ f.1; one = e.1; other = d.1 }

pub whole : (cs : List Cell) (l k : Literal) (n : ℕ) (c : List Literal) → Counts cs l k n c → is_counted cs l k n c ≡ true
whole cs l k n c t = and_from _ _ (and_from _ _ t.holds t.first) (and_from _ _ (and_from _ _ (and_from _ _ (and_from _ _ (ap not t.some) (ap not t.not_first)) (ap not t.not_second)) t.one) t.other)

-- Loaded

-- what was not loaded does not count
pub not_loaded : (w : WorkState) (l k : Literal) (n : ℕ) (rest : List Literal) → IsLoaded w l n rest false → common_at w.clauses l k n ≡ None
not_loaded w l k n rest h = nothing_at w l k n (λ c i. refuted _ (λ t.
    let p = parts w.clauses l k n c t in
    true≢false (sym (h c i p.holds) ∙ (λ j. p.some j || p.not_first j))))

-- the literals that have the set beside them, by what was found
module _ (w : WorkState) (kept : IsWork w) (l k : Literal) (n : ℕ) (c : List Literal) (i : Contains w.clauses (n, c)) (h : has c l ≡ true)
    (some : is_empty (others l c) ≡ false) (apart : mentions l (others l c) ≡ false) (found : List Alike) (a : AreAlike w (others l c) found) where
  abbrev C : List Literal
  C = others l c

  free : has C l ≡ false
  free = (or_parts (has C l) (has C (opposite l)) apart).0

  -- a smaller number has the same literals
  pub later_first : is_later found l n ≡ not (is_first w.clauses n c)
  later_first = both_true _ _ forth back ∙ twice (list_any (λ (d : Cell). nat_lt d.0 n && same_set c d.1) w.clauses)
    where
      twice : (b : Bool) → b ≡ not (not b)
      twice true = refl
      twice false = refl

      forth : is_later found l n ≡ true → list_any (λ (d : Cell). nat_lt d.0 n && same_set c d.1) w.clauses ≡ true
      forth t =
          let x = In_any (λ (y : Alike). same y.lit l && nat_lt y.number n) found t in
          let p = and_parts (same x.0.lit l) (nat_lt x.0.number n) x.2 in
          let s = a.sound x.0 (In_Contains found x.0 x.1) in
          let is : x.0.lit ≡ l = same-true x.0.lit l p.0 in
          any_In (λ (d : Cell). nat_lt d.0 n && same_set c d.1) w.clauses (x.0.number, s.0) (Contains_In w.clauses (x.0.number, s.0) s.1)
          (and_from _ _ p.1 (same_chain c (l ∷ C) s.0 (same_back (l ∷ C) c (whole_set l c h)) (subst (λ (y : Literal). same_set (y ∷ C) s.0 ≡ true) is s.3)))

      back : list_any (λ (d : Cell). nat_lt d.0 n && same_set c d.1) w.clauses ≡ true → is_later found l n ≡ true
      back t =
          let x = In_any (λ (d : Cell). nat_lt d.0 n && same_set c d.1) w.clauses t in
          let p = and_parts (nat_lt x.0.0 n) (same_set c x.0.1) x.2 in
          let y = a.every x.0.0 x.0.1 l (In_Contains w.clauses x.0 x.1) free (same_chain (l ∷ C) c x.0.1 (whole_set l c h) p.1) in
          any_In (λ (z : Alike). same z.lit l && nat_lt z.number n) found (record { lit = l; number = x.0.0 }) (Contains_In found (record { lit = l; number = x.0.0 }) y)
          (and_from _ _ (same-refl l) p.0)

  -- the other literal with the set is alive
  pub other_found : has C k ≡ false → list_any (λ (x : Alike). same x.lit k) found ≡ is_alive (lists w.clauses) (k ∷ C)
  other_found none = both_true _ _
      (λ t.
      let x = In_any (λ (y : Alike). same y.lit k) found t in
      let s = a.sound x.0 (In_Contains found x.0 x.1) in
      alive_there w.clauses (k ∷ C) x.0.number s.0 s.1 (subst (λ (y : Literal). same_set (y ∷ C) s.0 ≡ true) (same-true x.0.lit k x.2) s.3))
      (λ t.
      let x = there_alive w.clauses (k ∷ C) t in
      let y = a.every x.0 x.1 k x.2 none x.3 in
      any_In (λ (z : Alike). same z.lit k) found (record { lit = k; number = x.0 }) (Contains_In found (record { lit = k; number = x.0 }) y) (same-refl k))

  pub found_free : list_any (λ (x : Alike). same x.lit k) found ≡ true → has C k ≡ false
  found_free t =
      let x = In_any (λ (y : Alike). same y.lit k) found t in
      let s = a.sound x.0 (In_Contains found x.0 x.1) in
      subst (λ (y : Literal). has C y ≡ false) (same-true x.0.lit k x.2) s.2

  -- so what counts is told by what was found
  pub counts_by_found : code_of l < code_of k → is_first w.clauses n c ≡ true → is_counted w.clauses l k n c ≡ is_paired l C found k
  counts_by_found lt first = both_true _ _ forth back
    where
      is_lt : (a b : ℕ) → a < b → nat_lt a b ≡ true
      is_lt a b h = lt-ltb a b h

      forth : is_counted w.clauses l k n c ≡ true → is_paired l C found k ≡ true
      forth t =
          let p = parts w.clauses l k n c t in
          let q = or_parts (has C k) (has C (opposite k)) p.not_second in
          and_from _ _ (and_from _ _ (is_lt (code_of l) (code_of k) lt) (ap not q.1)) (other_found q.0 ∙ p.other)

      back : is_paired l C found k ≡ true → is_counted w.clauses l k n c ≡ true
      back t =
          let p = and_parts (may_pair l C k) (list_any (λ (x : Alike). same x.lit k) found) t in
          let q = and_parts (nat_lt (code_of l) (code_of k)) (not (has C (opposite k))) p.0 in
          let none = found_free p.1 in
          whole w.clauses l k n c (record {
            holds = h;
            first = first;
            some = some;
            not_first = apart;
            not_second = (let z = not-true _ q.1 in λ j. none j || z j);
            one = alive_there w.clauses (l ∷ C) n c i (whole_set l c h);
            other = sym (other_found none) ∙ p.1;
          })

  pub later_counts_not : is_later found l n ≡ true → is_counted w.clauses l k n c ≡ false
  later_counts_not t = refuted _ (λ u. true≢false (sym t ∙ later_first ∙ ap not (parts w.clauses l k n c u).first))

-- What is loaded

pub loaded_none : (w : WorkState) (l : Literal) (n : ℕ) (rest : List Literal) → ((c : List Literal) → Contains w.clauses (n, c) → ⊥) → IsLoaded w l n rest false
loaded_none w l n rest none = λ c i h. absurd (none c i)

pub loaded_not : (w : WorkState) → IsWork w → (l : Literal) (n : ℕ) (c : List Literal) (rest : List Literal) → Contains w.clauses (n, c) → has c l ≡ false → IsLoaded w l n rest false
loaded_not w kept l n c rest i away = λ d j h. absurd (true≢false (sym h ∙ ap (λ (x : List Literal). has x l) (same_number w.clauses kept.numbers n d c j i) ∙ away))

pub loaded_by : (w : WorkState) → IsWork w → (l : Literal) (n : ℕ) (c rest : List Literal) → Contains w.clauses (n, c) → has c l ≡ true → InOrder c → rest ≡ others l c → (b : Bool) → b ≡ (not (is_empty rest) && not (mentions l rest)) → IsLoaded w l n rest b
loaded_by w kept l n c rest i h o e true q = let p = and_parts (not (is_empty rest)) (not (mentions l rest)) (sym q) in (c, i, h, e, not-true _ p.0, not-true _ p.1, o)
loaded_by w kept l n c rest i h o e false q = λ d j g. ap (λ (x : List Literal). is_empty (others l x) || mentions l (others l x)) (same_number w.clauses kept.numbers n d c j i) ∙ ap (λ (x : List Literal). is_empty x || mentions l x) (sym e) ∙ either (is_empty rest) (mentions l rest) (sym q)
  where
    either : (a b : Bool) → (not a && not b) ≡ false → (a || b) ≡ true
    either true b z = refl
    either false true z = refl
    either false false z = absurd (true≢false z)
