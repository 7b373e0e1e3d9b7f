-- The common sets and the clauses with them, number by number.
use Rattle.std.proofs.Common.{◌≡◌, ◌∙◌, ℕ, zero, suc, ◌<◌, Bool, true, false, not, ◌||◌, ◌&&◌, List, [], ◌∷◌, ◌++◌, Option, Some, None, sym, refl, ap, subst, arith, inl, inr, ◌⊎◌, ⊎_elim, Contains, append-nil}
use Rattle.std.specs.Prelude.{nat_lt}
use Rattle.std.specs.List.{list_any, filter, filter_map, cons_option}
use Rattle.std.proofs.lemmas.Bool.{or_left, or_right, or_cases, or_parts, and_parts, and_from, cases_Bool, true≢false, false≢true, not-true}
use Rattle.std.proofs.lemmas.Bool.Decides.{nat_tests}
use Rattle.std.proofs.lemmas.List.Elements.{filter_map-append, Contains-append_left, Contains-append_right, Contains-append_cases, Contains-push_cases}
use Rattle.sat_words.specs.Literal.{Literal, opposite, same}
use Rattle.sat_words.specs.Clause.{has, same_set, is_empty}
use Rattle.sat_words.proofs.Members.{same-true, same-refl}
use Rattle.sat_words.proofs.Insertion.{same_set_from}
use Rattle.rup_model.proofs.Covers.{both_true, same_has, same_self, same_chain}
use Rattle.rup_model.proofs.Lists.{In, any_In, In_any, In_map, map_In, Contains_In, In_Contains}
use Rattle.simp_base.specs.WorkState.{WorkState, IsWork, lists}
use Rattle.simp_base.proofs.Filters.{In_filter, filter_In}
use Rattle.simp_add.specs.declared.alike.Alike.{Alike}
use Rattle.simp_add.specs.Common.{others, mentions, is_alive, is_common, is_first, is_counted, common_at, commons}
use Rattle.simp_add.specs.Alike.{AreAlike, numbers_with}
use Rattle.simp_add.specs.Rule.{is_replaced}
use Rattle.simp_add.specs.Shared.{Sharing, SharesOne, AreShared}
use Rattle.simp_add.proofs.Finding.{Cell, others_in, in_others, whole_has, there_alive, counts_at, counted_at, parts}

-- Sets with the same literals

same_empty : (C D : List Literal) → ((j : Literal) → has C j ≡ has D j) → is_empty C ≡ is_empty D
same_empty [] [] s = refl
same_empty [] (k ∷ D) s = absurd (false≢true (s k ∙ or_left _ _ (same-refl k)))
same_empty (k ∷ C) [] s = absurd (false≢true (sym (s k) ∙ or_left _ _ (same-refl k)))
same_empty (k ∷ C) (j ∷ D) s = refl

with_lit : (l : Literal) (C D : List Literal) → ((j : Literal) → has C j ≡ has D j) → (j : Literal) → has (l ∷ C) j ≡ has (l ∷ D) j
with_lit l C D s j = ap (λ (b : Bool). same j l || b) (s j)

pub same_alive : (G : List (List Literal)) (c d : List Literal) → ((j : Literal) → has c j ≡ has d j) → is_alive G c ≡ is_alive G d
same_alive G c d s = both_true _ _ (forth c d s) (forth d c (λ j. sym (s j)))
  where
    forth : (x y : List Literal) → ((j : Literal) → has x j ≡ has y j) → is_alive G x ≡ true → is_alive G y ≡ true
    forth x y t h = let e = In_any (same_set x) G h in any_In (same_set y) G e.0 e.1 (same_chain y x e.0 (same_set_from y x (λ j. sym (t j))) e.2)

pub same_common : (G : List (List Literal)) (l k : Literal) (C D : List Literal) → ((j : Literal) → has C j ≡ has D j) → is_common G l k C ≡ is_common G l k D
same_common G l k C D s =
    let a = same_empty C D s in
    let b = s l in let c = s (opposite l) in let d = s k in let e = s (opposite k) in
    let f = same_alive G (l ∷ C) (l ∷ D) (with_lit l C D s) in
    let g = same_alive G (k ∷ C) (k ∷ D) (with_lit k C D s) in
    λ i. not (a i) && not (b i || c i) && not (d i || e i) && f i && g i

-- the others of a clause that is a literal with a set
pub others_are : (l : Literal) (C d : List Literal) → has C l ≡ false → same_set (l ∷ C) d ≡ true → (j : Literal) → has (others l d) j ≡ has C j
others_are l C d free s j = both_true _ _
    (λ t. (let p = others_in l j d t in
    elim (or_cases (same j l) (has C j) (same_has (l ∷ C) d s j ∙ p.0)) as (λ _. has C j ≡ true) [
      | inl e ↦ absurd (true≢false (sym (ap (same l) (same-true j l e) ∙ same-refl l) ∙ p.1))
      | inr i ↦ i
    ]))
    (λ t. in_others l j d (sym (same_has (l ∷ C) d s j) ∙ or_right _ _ t) (elim (cases_Bool (same l j)) as (λ _. same l j ≡ false) [
      | inl e ↦ absurd (true≢false (sym t ∙ ap (has C) (sym (same-true l j e)) ∙ free))
      | inr ne ↦ ne
    ]))

record CommonParts (G : List (List Literal)) (l k : Literal) (C : List Literal) : Type 0 where
  not_first : mentions l C ≡ false
  not_second : mentions k C ≡ false
  one : is_alive G (l ∷ C) ≡ true
  other : is_alive G (k ∷ C) ≡ true

common_parts : (G : List (List Literal)) (l k : Literal) (C : List Literal) → is_common G l k C ≡ true → CommonParts G l k C
common_parts G l k C h =
    let d = and_parts (not (is_empty C) && not (mentions l C) && not (mentions k C) && is_alive G (l ∷ C)) (is_alive G (k ∷ C)) h in
    let e = and_parts (not (is_empty C) && not (mentions l C) && not (mentions k C)) (is_alive G (l ∷ C)) d.0 in
    let f = and_parts (not (is_empty C) && not (mentions l C)) (not (mentions k C)) e.0 in
    let g = and_parts (not (is_empty C)) (not (mentions l C)) f.0 in
    record { not_first = not-true _ g.1; not_second = not-true _ f.1; one = e.1; other = d.1 }

pub free_of : (l : Literal) (C : List Literal) → mentions l C ≡ false → has C l ≡ false
free_of l C h = (or_parts (has C l) (has C (opposite l)) h).0

-- The first of the copies of a clause

pub first_copy : (cs : List Cell) (bound n : ℕ) (c : List Literal) → n < bound → Contains cs (n, c) → (m : ℕ) × (d : List Literal) × Contains cs (m, d) × (same_set c d ≡ true) × (is_first cs m d ≡ true)
first_copy cs zero n c lt h = absurd (omega arith)
first_copy cs (suc bound) n c lt h = elim (cases_Bool (list_any (λ (d : Cell). nat_lt d.0 n && same_set c d.1) cs)) as (λ _. (m : ℕ) × (d : List Literal) × Contains cs (m, d) × (same_set c d ≡ true) × (is_first cs m d ≡ true)) [
  | inr none ↦ (n, c, h, same_self c, ap not none)
  | inl some ↦ (
      let t = In_any (λ (d : Cell). nat_lt d.0 n && same_set c d.1) cs some in
      let p = and_parts (nat_lt t.0.0 n) (same_set c t.0.1) t.2 in
      let less : t.0.0 < n = lt_of t.0.0 n p.0 in
      let r = first_copy cs bound t.0.0 t.0.1 (omega arith) (In_Contains cs t.0 t.1) in
      (r.0, r.1, r.2, same_chain c t.0.1 r.1 p.1 r.3, r.4))
]
  where
    lt_of : (a b : ℕ) → nat_lt a b ≡ true → a < b
    lt_of a b e = grind (arith, nat_tests)

-- a common set counts at some number
pub counted_somewhere : (w : WorkState) → IsWork w → (l k : Literal) (C : List Literal) → is_common (lists w.clauses) l k C ≡ true
    → (m : ℕ) × (D : List Literal) × (common_at w.clauses l k m ≡ Some D) × ((j : Literal) → has D j ≡ has C j)
counted_somewhere w kept l k C h =
    let p = common_parts (lists w.clauses) l k C h in
    let a = there_alive w.clauses (l ∷ C) p.one in
    let f = first_copy w.clauses (suc a.0) a.0 a.1 (omega arith) a.2 in
    let s : same_set (l ∷ C) f.1 ≡ true = same_chain (l ∷ C) a.1 f.1 a.3 f.3 in
    let alike = others_are l C f.1 (free_of l C p.not_first) s in
    let holds : has f.1 l ≡ true = sym (same_has (l ∷ C) f.1 s l) ∙ or_left _ _ (same-refl l) in
    let counts : is_counted w.clauses l k f.0 f.1 ≡ true = and_from _ _ (and_from _ _ holds f.4) (same_common (lists w.clauses) l k (others l f.1) C alike ∙ h) in
    (f.0, others l f.1, counts_at w kept l k f.0 f.1 f.2 counts, alike)

-- what counts is common
pub common_counted : (w : WorkState) (l k : Literal) (m : ℕ) (C : List Literal) → common_at w.clauses l k m ≡ Some C → is_common (lists w.clauses) l k C ≡ true
common_counted w l k m C e =
    let t = counted_at w l k m C e in
    ap (is_common (lists w.clauses) l k) t.3 ∙ (and_parts (has t.0 l && is_first w.clauses m t.0) (is_common (lists w.clauses) l k (others l t.0)) t.2).1

-- a clause that is one of the literals with a common set is replaced
pub replaced_first : (w : WorkState) (l k : Literal) (C d : List Literal) → is_common (lists w.clauses) l k C ≡ true → same_set (l ∷ C) d ≡ true → is_replaced (lists w.clauses) l k d ≡ true
replaced_first w l k C d h s =
    let p = common_parts (lists w.clauses) l k C h in
    or_left _ _ (and_from _ _ (sym (same_has (l ∷ C) d s l) ∙ or_left _ _ (same-refl l)) (same_common (lists w.clauses) l k (others l d) C (others_are l C d (free_of l C p.not_first) s) ∙ h))

pub replaced_second : (w : WorkState) (l k : Literal) (C d : List Literal) → is_common (lists w.clauses) l k C ≡ true → same_set (k ∷ C) d ≡ true → is_replaced (lists w.clauses) l k d ≡ true
replaced_second w l k C d h s =
    let p = common_parts (lists w.clauses) l k C h in
    or_right _ _ (and_from _ _ (sym (same_has (k ∷ C) d s k) ∙ or_left _ _ (same-refl k)) (same_common (lists w.clauses) l k (others k d) C (others_are k C d (free_of k C p.not_second) s) ∙ h))

-- and the other way round: it is so with a set that counts
pub replaced_by : (w : WorkState) → IsWork w → (l k : Literal) (c : List Literal) → is_replaced (lists w.clauses) l k c ≡ true
    → (m : ℕ) × (D : List Literal) × (common_at w.clauses l k m ≡ Some D) × ((same_set (l ∷ D) c ≡ true) ⊎ (same_set (k ∷ D) c ≡ true))
replaced_by w kept l k c h = elim (or_cases (has c l && is_common (lists w.clauses) l k (others l c)) (has c k && is_common (lists w.clauses) l k (others k c)) h)
    as (λ _. (m : ℕ) × (D : List Literal) × (common_at w.clauses l k m ≡ Some D) × ((same_set (l ∷ D) c ≡ true) ⊎ (same_set (k ∷ D) c ≡ true))) [
      | inl a ↦ (
          let p = and_parts (has c l) (is_common (lists w.clauses) l k (others l c)) a in
          let t = counted_somewhere w kept l k (others l c) p.1 in
          (t.0, t.1, t.2, inl (same_set_from (l ∷ t.1) c (λ j. with_lit l t.1 (others l c) t.3 j ∙ whole_has l c p.0 j))))
      | inr b ↦ (
          let p = and_parts (has c k) (is_common (lists w.clauses) l k (others k c)) b in
          let t = counted_somewhere w kept l k (others k c) p.1 in
          (t.0, t.1, t.2, inr (same_set_from (k ∷ t.1) c (λ j. with_lit k t.1 (others k c) t.3 j ∙ whole_has k c p.0 j))))
    ]

-- Number by number

module _ (w : WorkState) (l k : Literal) where
  abbrev f : ℕ → Option (List Literal)
  f = common_at w.clauses l k

  pub sharing_none : Sharing w l k [] [] []
  sharing_none = record {
    sets = refl;
    counts = λ n h. absurd (Contains_In [] n h);
    sound = λ n h. absurd (Contains_In [] n h);
    every = λ m C h. absurd (Contains_In [] m h);
  }

  pub shares_nothing : (n : ℕ) (firsts gone : List ℕ) → f n ≡ None → SharesOne w l k n firsts gone firsts gone
  shares_nothing n firsts gone none numbers t = record {
    sets = t.sets ∙ sym (filter_map-append f numbers (n ∷ []) ∙ ap (λ (o : Option (List Literal)). filter_map f numbers ++ cons_option o []) none ∙ append-nil (filter_map f numbers));
    counts = t.counts;
    sound = t.sound;
    every = λ m C h e. ⊎_elim (λ (i : Contains numbers m). t.every m C i e) (λ (q : n ≡ m). absurd (let wrong : None ≡ Some C = sym none ∙ ap f q ∙ e in let z : ⊥ = cc in z)) (Contains-push_cases numbers n m h);
  }

  -- the numbers of the clauses found with one of the literals
  with_In : (found : List Alike) (n : ℕ) → In n (numbers_with l k found) → (a : Alike) × In a found × (a.number ≡ n) × ((a.lit ≡ l) ⊎ (a.lit ≡ k))
  with_In found n h =
      let p = λ (a : Alike). same a.lit l || same a.lit k in
      let t = map_In (λ (a : Alike). a.number) (filter p found) n h in
      let u = filter_In p found t.0 t.1 in
      (t.0, u.0, t.2, elim (or_cases (same t.0.lit l) (same t.0.lit k) u.1) as (λ _. (t.0.lit ≡ l) ⊎ (t.0.lit ≡ k)) [ inl e ↦ inl (same-true t.0.lit l e) | inr e ↦ inr (same-true t.0.lit k e) ])

  In_with : (found : List Alike) (a : Alike) → In a found → (same a.lit l || same a.lit k) ≡ true → In a.number (numbers_with l k found)
  In_with found a i h = In_map (λ (b : Alike). b.number) (filter (λ (b : Alike). same b.lit l || same b.lit k) found) a (In_filter (λ (b : Alike). same b.lit l || same b.lit k) found a i h)

  pub shares_one : (n : ℕ) (C : List Literal) (found : List Alike) (firsts gone : List ℕ) → f n ≡ Some C → AreAlike w C found → SharesOne w l k n firsts gone (firsts ++ n ∷ []) (gone ++ numbers_with l k found)
  shares_one n C found firsts gone e a numbers t = record {
    sets = filter_map-append f firsts (n ∷ []) ∙ ap (λ (xs : List (List Literal)). xs ++ cons_option (f n) []) t.sets ∙ sym (filter_map-append f numbers (n ∷ []));
    counts = λ m h. ⊎_elim (λ (i : Contains firsts m). t.counts m i) (λ (q : n ≡ m). (C, ap f (sym q) ∙ e)) (Contains-push_cases firsts n m h);
    sound = λ m h. ⊎_elim (λ (i : Contains gone m). t.sound m i) (λ (i : Contains (numbers_with l k found) m). one m i) (Contains-append_cases gone (numbers_with l k found) m h);
    every = λ m D h q x c i s. ⊎_elim
        (λ (j : Contains numbers m). Contains-append_left gone (numbers_with l k found) x (t.every m D j q x c i s))
        (λ (z : n ≡ m). Contains-append_right gone (numbers_with l k found) x (all D (let both : Some C ≡ Some D = sym e ∙ ap f z ∙ q in let is : C ≡ D = cc in sym is) x c i s))
        (Contains-push_cases numbers n m h);
  }
    where
      common : is_common (lists w.clauses) l k C ≡ true
      common = common_counted w l k n C e

      one : (m : ℕ) → Contains (numbers_with l k found) m → (c : List Literal) × Contains w.clauses (m, c) × (is_replaced (lists w.clauses) l k c ≡ true)
      one m i =
          let u = with_In found m (Contains_In (numbers_with l k found) m i) in
          let s = a.sound u.0 (In_Contains found u.0 u.1) in (
            s.0,
            subst (λ (x : ℕ). Contains w.clauses (x, s.0)) u.2 s.1,
            ⊎_elim
                (λ (q : u.0.lit ≡ l). replaced_first w l k C s.0 common (subst (λ (x : Literal). same_set (x ∷ C) s.0 ≡ true) q s.3))
                (λ (q : u.0.lit ≡ k). replaced_second w l k C s.0 common (subst (λ (x : Literal). same_set (x ∷ C) s.0 ≡ true) q s.3))
                u.3,
          )

      all : (D : List Literal) → D ≡ C → (x : ℕ) (c : List Literal) → Contains w.clauses (x, c) → (same_set (l ∷ D) c ≡ true) ⊎ (same_set (k ∷ D) c ≡ true) → Contains (numbers_with l k found) x
      all D is x c i s =
          let p = common_parts (lists w.clauses) l k C common in
          ⊎_elim
          (λ (q : same_set (l ∷ D) c ≡ true). (
          let y = a.every x c l i (free_of l C p.not_first) (subst (λ (E : List Literal). same_set (l ∷ E) c ≡ true) is q) in
          In_Contains (numbers_with l k found) x (In_with found (record { lit = l; number = x }) (Contains_In found (record { lit = l; number = x }) y) (or_left _ _ (same-refl l)))))
          (λ (q : same_set (k ∷ D) c ≡ true). (
          let y = a.every x c k i (free_of k C p.not_second) (subst (λ (E : List Literal). same_set (k ∷ E) c ≡ true) is q) in
          In_Contains (numbers_with l k found) x (In_with found (record { lit = k; number = x }) (Contains_In found (record { lit = k; number = x }) y) (or_right _ _ (same-refl k)))))
          s

  pub shared_all : IsWork w → (numbers firsts gone : List ℕ) → commons w l k ≡ filter_map f numbers → ((n : ℕ) (c : List Literal) → Contains w.clauses (n, c) → has c l ≡ true → Contains numbers n) → Sharing w l k numbers firsts gone → AreShared w l k firsts gone
  shared_all kept numbers firsts gone are every t = record {
    sets = t.sets ∙ sym are;
    counts = t.counts;
    every = λ n. (
      t.sound n,
      λ h. (
          let r = replaced_by w kept l k h.0 h.2 in
          let u = counted_at w l k r.0 r.1 r.2 in
          t.every r.0 r.1 (every r.0 u.0 u.1 (parts w.clauses l k r.0 u.0 u.2).holds) r.2 n h.0 h.1 r.3),
    );
  }
