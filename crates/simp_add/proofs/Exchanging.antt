-- The clauses of two literals are exchanged for those of a new one.
use Rattle.std.proofs.Common.{◌≡◌, ◌≢◌, ◌∙◌, ℕ, zero, suc, ◌+◌, ◌<◌, ◌≤◌, Bool, true, false, not, ◌||◌, List, [], ◌∷◌, ◌++◌, map, length, Option, Some, None, sym, refl, ap, subst, arith, inl, inr, ◌⊎◌, ⊎_elim, Contains, append-nil, length-append}
use Rattle.std.specs.Prelude.{Result, Ok, Err}
use Rattle.drat_text.specs.declared.stop.LineStop.{LineStop}
use Rattle.std.specs.List.{filter_map, cons_option, range_with_len, All, list_all}
use Rattle.std.proofs.lemmas.Bool.{or_left, or_right, or_parts, cases_Bool, true≢false, false≢true}
use Rattle.sat_words.specs.Literal.{Literal, opposite, same, IsOn, code_of}
use Rattle.sat_words.specs.Clause.{has, same_set, clause_of, two_or_more, is_empty}
use Rattle.sat_words.specs.Truth.{lit_true, clause_true, formula_true}
use Rattle.sat_words.proofs.Members.{same-true, same-refl, clause_true_alike}
use Rattle.sat_words.proofs.Insertion.{has-clause_of}
use Rattle.rup_model.specs.Rup.{rat}
use Rattle.rup_model.proofs.Covers.{same_has}
use Rattle.rup_model.proofs.Lists.{In, any_In, In_any, all_In, In_all, In_has, has_In, In_map, map_In, In_append, In_append_right, Contains_In, In_Contains}
use Rattle.simp_base.specs.WorkState.{WorkState, lists, known, unit_clauses, numbered}
use mathlib.Core.Logic.{dite}
use native.Mathlib.Decide.{ℕ_discrete}
use Rattle.simp_base.specs.Calls.{ruler_deletes}
use Rattle.simp_base.specs.Lifted.{Lifted}
use Rattle.simp_base.proofs.Lists.{In_All, All_In}
use Rattle.simp_base.proofs.Known.{known_alive, on_alive}
use Rattle.simp_base.proofs.Removal.{same_number}
use Rattle.simp_base.proofs.Truths.{lit_true-opposite}
use Rattle.simp_add.specs.Common.{others, is_alive, common_at, commons}
use Rattle.simp_add.specs.Rule.{additions, adds, is_replaced, Exchanged}
use Rattle.simp_add.specs.Stages.{IsReplaceable, Grown, Removed, CanCome, set_at, AreLong, Done, WasRemoved, WasExchanged}
use Rattle.simp_add.proofs.Finding.{Cell, parts, counted_at, there_alive, others_in, refuted}
use Rattle.simp_add.proofs.Sharing.{common_counted, free_of, replaced_by, replaced_first, replaced_second}
use Rattle.simp_add.proofs.Fewer.{twice_as_many}
use Rattle.simp_add.proofs.Growing.{goes_along, continues_along, grown_along, grown_log, stopped_after, rat_new, set_is, grown_stay, grown_parts, numbered_In, In_numbered, alive_more}

module _ (w : WorkState) (x l k : Literal) (firsts gone : List ℕ) (r : IsReplaceable w x l k firsts gone) where
  abbrev Cs : List (List Literal)
  Cs = commons w l k

  -- there is a common set
  some_set : (C : List Literal) × (m : ℕ) × (common_at w.clauses l k m ≡ Some C)
  some_set = first firsts (λ n h. r.shared.counts n h) (let e = ap (λ (xs : List (List Literal)). length xs) r.shared.sets in let t = r.partner.enough in omega arith)
    where
      first : (ns : List ℕ) → ((n : ℕ) → Contains ns n → (C : List Literal) × (common_at w.clauses l k n ≡ Some C)) → 1 ≤ length (filter_map (common_at w.clauses l k) ns) → (C : List Literal) × (m : ℕ) × (common_at w.clauses l k m ≡ Some C)
      first [] f le = absurd (omega arith)
      first (n ∷ ns) f le = let t = f n (In_Contains (n ∷ ns) n (inl refl)) in (t.0, n, t.1)

  -- the two literals are in clauses, so that neither is of the new variable
  has_first : (n : ℕ) × (c : List Literal) × Contains w.clauses (n, c) × (has c l ≡ true)
  has_first =
      let t = counted_at w l k some_set.1 some_set.0 some_set.2 in
      (some_set.1, t.0, t.1, (parts w.clauses l k some_set.1 t.0 t.2).holds)

  has_second : (n : ℕ) × (c : List Literal) × Contains w.clauses (n, c) × (has c k ≡ true)
  has_second =
      let t = counted_at w l k some_set.1 some_set.0 some_set.2 in
      let a = there_alive w.clauses (k ∷ others l t.0) (parts w.clauses l k some_set.1 t.0 t.2).other in
      (a.0, a.1, a.2, sym (same_has (k ∷ others l t.0) a.1 a.3 k) ∙ or_left _ _ (same-refl k))

  not_in : (j : Literal) → ((n : ℕ) × (c : List Literal) × Contains w.clauses (n, c) × (has c j ≡ true)) → (same x j ≡ false) × (same (opposite x) j ≡ false)
  not_in j t =
      let f = or_parts (has t.1 x) (has t.1 (opposite x)) (r.free t.0 t.1 t.2) in
      (refuted _ (λ e. true≢false (sym t.3 ∙ ap (has t.1) (sym (same-true x j e)) ∙ f.0)), refuted _ (λ e. true≢false (sym t.3 ∙ ap (has t.1) (sym (same-true (opposite x) j e)) ∙ f.1)))

  pub second_on : IsOn w.vars k
  second_on = let t = has_second in on_alive w r.work t.0 t.1 t.2 k (has_In t.1 k t.3)

  abbrev pair : Literal → List Literal
  pair j = x ∷ j ∷ []

  pub pair_on : (j : Literal) → IsOn w.vars j → All (IsOn w.vars) (pair j)
  pair_on j on = In_All (IsOn w.vars) (pair j) (λ y i. by y i)
    where
      by : (y : Literal) → In y (pair j) → IsOn w.vars y
      by y (inl e) = subst (IsOn w.vars) e r.new
      by y (inr (inl e)) = subst (IsOn w.vars) e on
      by y (inr (inr z)) = absurd z

  old_free : (d : List Literal) → In d (lists w.clauses) → has d (opposite x) ≡ false
  old_free d i =
      let t = map_In (λ (y : Cell). y.1) w.clauses d i in
      (or_parts (has d x) (has d (opposite x)) (r.free t.0.0 d (subst (λ (c : List Literal). Contains w.clauses (t.0.0, c)) t.2 (In_Contains w.clauses t.0 t.1)))).1

  pub first_rat : rat (lists w.clauses) (pair l) ≡ true
  first_rat = rat_new (lists w.clauses) x (l ∷ []) old_free

  pair_free : (j : Literal) → same (opposite x) j ≡ false → has (pair j) (opposite x) ≡ false
  pair_free j h = λ i. differs i || (h i || false)
    where
      differs : same (opposite x) x ≡ false
      differs = refuted _ (λ e. not_opposite (λ i. (same-true (opposite x) x e i).neg))
        where
          not_opposite : not x.neg ≡ x.neg → ⊥
          not_opposite e = by x.neg e
            where
              by : (b : Bool) → not b ≡ b → ⊥
              by true q = true≢false (sym q)
              by false q = true≢false q

  module _ (a : WorkState) (one : Grown w a (pair l ∷ [])) where
    pub second_rat : rat (lists a.clauses) (pair k) ≡ true
    second_rat = rat_new (lists a.clauses) x (k ∷ []) (λ d i. (
        let t = map_In (λ (y : Cell). y.1) a.clauses d i in
        elim (grown_parts w a (pair l ∷ []) one t.0.0 d (subst (λ (c : List Literal). Contains a.clauses (t.0.0, c)) t.2 (In_Contains a.clauses t.0 t.1))) as (λ _. has d (opposite x) ≡ false) [
          | inl old ↦ old_free d (In_map (λ (y : Cell). y.1) w.clauses (t.0.0, d) (Contains_In w.clauses (t.0.0, d) old))
          | inr new ↦ (let u = numbered_In (w.output.last + 1) (pair l ∷ []) t.0.0 d new in ap (λ (c : List Literal). has c (opposite x)) u.1.2 ∙ has-clause_of u.1.0 (opposite x) ∙ only_pair l u.1.0 u.1.1 (pair_free l (not_in l has_first).1))
        ]))
      where
        only_pair : (j : Literal) (d : List Literal) → In d (pair j ∷ []) → has (pair j) (opposite x) ≡ false → has d (opposite x) ≡ false
        only_pair j d (inl e) h = ap (λ (c : List Literal). has c (opposite x)) (sym e) ∙ h
        only_pair j d (inr z) h = absurd z

  module _ (b : WorkState) (both : Grown w b (pair l ∷ pair k ∷ [])) where
    pub sets_come : (n : ℕ) → Contains firsts n → CanCome b x l n
    sets_come n h =
        let t = r.shared.counts n h in
        let u = counted_at w l k n t.0 t.1 in
        let p = parts w.clauses l k n u.0 u.2 in
        let there = grown_stay w b (pair l ∷ pair k ∷ []) both n u.0 u.1 in
        let is : set_at b.clauses l n ≡ others l u.0 = set_is b both.on.work l n u.0 there in
        record {
          new = subst (λ (v : ℕ). IsOn v x) (sym both.vars) r.new;
          above = (let same = both.unheld in let lt = r.above in omega arith);
          clause = u.0;
          alive = there;
          free = ap (λ (C : List Literal). has C x) is ∙ refuted _ (λ e. true≢false (sym (others_in l x u.0 e).0 ∙ (or_parts (has u.0 x) (has u.0 (opposite x)) (r.free n u.0 u.1)).0));
          defined = λ m d i j. elim (grown_parts w b (pair l ∷ pair k ∷ []) both m d i) as (λ _. (q : Literal) × (has d q ≡ true) × (same x q ≡ false) × (is_alive (lists b.clauses) (q ∷ set_at b.clauses l n) ≡ true)) [
            | inl old ↦ absurd (true≢false (sym j ∙ (or_parts (has d x) (has d (opposite x)) (r.free m d old)).0))
            | inr new ↦ (
                let v = numbered_In (w.output.last + 1) (pair l ∷ pair k ∷ []) m d new in
                let has_of : (q : Literal) → has (pair q) q ≡ true = λ q. or_right _ _ (or_left _ _ (same-refl q)) in
                let alive : (q : Literal) → is_alive (lists w.clauses) (q ∷ others l u.0) ≡ true → is_alive (lists b.clauses) (q ∷ set_at b.clauses l n) ≡ true =
                λ q e. ap (λ (C : List Literal). is_alive (lists b.clauses) (q ∷ C)) is ∙ alive_more w b (pair l ∷ pair k ∷ []) both (q ∷ others l u.0) e in
                ⊎_elim
                (λ (e : pair l ≡ v.1.0). (l, ap (λ (c : List Literal). has c l) v.1.2 ∙ has-clause_of v.1.0 l ∙ ap (λ (c : List Literal). has c l) (sym e) ∙ has_of l, (not_in l has_first).0, alive l p.one))
                (λ (z : (pair k ≡ v.1.0) ⊎ ⊥). ⊎_elim
                (λ (e : pair k ≡ v.1.0). (k, ap (λ (c : List Literal). has c k) v.1.2 ∙ has-clause_of v.1.0 k ∙ ap (λ (c : List Literal). has c k) (sym e) ∙ has_of k, (not_in k has_second).0, alive k p.other))
                (λ (no : ⊥). absurd no)
                z)
                v.1.1)
          ];
        }

    sets_in : (ns : List ℕ) → ((n : ℕ) → Contains ns n → Contains firsts n) → map (λ n. opposite x ∷ set_at b.clauses l n) ns ≡ map (λ (C : List Literal). opposite x ∷ C) (filter_map (common_at w.clauses l k) ns)
    sets_in [] f = refl
    sets_in (n ∷ ns) f =
        let t = r.shared.counts n (f n (In_Contains (n ∷ ns) n (inl refl))) in
        let u = counted_at w l k n t.0 t.1 in
        let is : set_at b.clauses l n ≡ t.0 = set_is b both.on.work l n u.0 (grown_stay w b (pair l ∷ pair k ∷ []) both n u.0 u.1) ∙ sym u.3 in
        let rest = sets_in ns (λ m h. f m (In_Contains (n ∷ ns) m (inr (Contains_In ns m h)))) in
        (λ i. (opposite x ∷ is i) ∷ rest i) ∙ ap (λ (o : Option (List Literal)). map (λ (C : List Literal). opposite x ∷ C) (cons_option o (filter_map (common_at w.clauses l k) ns))) (sym t.1)

    pub sets_are : map (λ n. opposite x ∷ set_at b.clauses l n) firsts ≡ map (λ (C : List Literal). opposite x ∷ C) Cs
    sets_are = sets_in firsts (λ n h. h) ∙ ap (map (λ (C : List Literal). opposite x ∷ C)) r.shared.sets

    pub all_grown : (d : WorkState) → Grown b d (map (λ n. opposite x ∷ set_at b.clauses l n) firsts) → Grown w d (additions x l k Cs)
    all_grown d g = grown_along w b d (pair l ∷ pair k ∷ []) (map (λ (C : List Literal). opposite x ∷ C) Cs) both (subst (λ (ms : List (List Literal)). Grown b d ms) sets_are g)

  -- The clauses that go have two literals or more

  two_from : (c : List Literal) (i j : Literal) → has c i ≡ true → has c j ≡ true → same i j ≡ false → two_or_more c ≡ true
  two_from [] i j hi hj ne = absurd (false≢true hi)
  two_from (y ∷ c) i j hi hj ne = elim (cases_Bool (list_all (same y) c)) as (λ _. two_or_more (y ∷ c) ≡ true) [
    | inr f ↦ ap not f
    | inl t ↦ absurd (true≢false (sym (same-refl i) ∙ ap (same i) (one i hi t ∙ sym (one j hj t)) ∙ ne))
  ]
    where
      one : (q : Literal) → has (y ∷ c) q ≡ true → list_all (same y) c ≡ true → q ≡ y
      one q h t = ⊎_elim (λ (e : y ≡ q). sym e) (λ (m : In q c). sym (same-true y q (all_In (same y) c q t m))) (has_In (y ∷ c) q h)

  some_in : (C : List Literal) → is_empty C ≡ false → (j : Literal) × (has C j ≡ true)
  some_in [] h = absurd (true≢false h)
  some_in (j ∷ C) h = (j, or_left _ _ (same-refl j))

  long_with : (i : Literal) (D c : List Literal) → is_empty D ≡ false → has D i ≡ false → same_set (i ∷ D) c ≡ true → two_or_more c ≡ true
  long_with i D c some free s =
      let j = some_in D some in
      two_from c i j.0 (sym (same_has (i ∷ D) c s i) ∙ or_left _ _ (same-refl i)) (sym (same_has (i ∷ D) c s j.0) ∙ or_right _ _ j.1)
      (refuted _ (λ e. true≢false (sym j.1 ∙ ap (has D) (sym (same-true i j.0 e)) ∙ free)))

  replaced_long : (c : List Literal) → is_replaced (lists w.clauses) l k c ≡ true → two_or_more c ≡ true
  replaced_long c h =
      let t = replaced_by w r.work l k c h in
      let u = counted_at w l k t.0 t.1 t.2 in
      let p = parts w.clauses l k t.0 u.0 u.2 in
      let some : is_empty t.1 ≡ false = ap is_empty u.3 ∙ p.some in
      ⊎_elim
      (λ (s : same_set (l ∷ t.1) c ≡ true). long_with l t.1 c some (ap (λ (D : List Literal). has D l) u.3 ∙ free_of l (others l u.0) p.not_first) s)
      (λ (s : same_set (k ∷ t.1) c ≡ true). long_with k t.1 c some (ap (λ (D : List Literal). has D k) u.3 ∙ free_of k (others l u.0) p.not_second) s)
      t.3

  abbrev made : List (List Literal)
  made = additions x l k Cs

  module _ (d : WorkState) (grown : Grown w d made) where
    pub gone_long : AreLong d gone
    gone_long n c h i =
        let t = (r.shared.every n).0 h in
        let is : t.0 ≡ c = same_number d.clauses grown.on.work.numbers n t.0 c (grown_stay w d made grown n t.0 t.1) i in
        subst (λ (y : List Literal). two_or_more y ≡ true) is (replaced_long t.0 t.2)

    old_number : (n : ℕ) (c : List Literal) → Contains w.clauses (n, c) → n ≤ w.output.last
    old_number n c h = All_In (λ (y : Cell). y.0 ≤ w.output.last) w.clauses (n, c) r.work.given (Contains_In w.clauses (n, c) h)

    module _ (z : WorkState) (rem : Removed d z gone) where
      goes : (n : ℕ) (c : List Literal) → Contains w.clauses (n, c) → is_replaced (lists w.clauses) l k c ≡ false → Contains gone n → ⊥
      goes n c i away h =
          let t = (r.shared.every n).0 h in
          true≢false (sym t.2 ∙ ap (is_replaced (lists w.clauses) l k) (same_number w.clauses r.work.numbers n t.0 c t.1 i) ∙ away)

      new_stays : (n : ℕ) (c : List Literal) → In {X = Cell} (n, c) (numbered (w.output.last + 1) made) → Contains z.clauses (n, c)
      new_stays n c i = (rem.clauses n c).1 (
        subst (λ (cs : List Cell). Contains cs (n, c)) (sym grown.clauses) (In_Contains (w.clauses ++ numbered (w.output.last + 1) made) (n, c) (In_append_right w.clauses (numbered (w.output.last + 1) made) (n, c) i)),
        λ h. (let t = (r.shared.every n).0 h in let le = old_number n t.0 t.1 in let ge = (numbered_In (w.output.last + 1) made n c i).0 in omega arith),
      )

      pub exchanged : Exchanged w z x l k (adds (w.output.last + 1) made ++ map ruler_deletes rem.gone)
      exchanged = record {
        gone = rem.gone;
        are = refl;
        once = rem.once;
        every = λ n. (
          λ h. (r.shared.every n).0 ((rem.named n).0 h).0,
          λ h. (rem.named n).1 ((r.shared.every n).1 h, (h.0, grown_stay w d made grown n h.0 h.1)),
        );
        clauses = λ n c. (
          λ h. (
              let p = (rem.clauses n c).0 h in
              elim (grown_parts w d made grown n c p.0) as (λ _. (Contains w.clauses (n, c) × (is_replaced (lists w.clauses) l k c ≡ false)) ⊎ Contains (numbered (w.output.last + 1) made) (n, c)) [
                | inl old ↦ inl (old, refuted _ (λ e. p.1 ((r.shared.every n).1 (c, old, e))))
                | inr new ↦ inr (In_Contains (numbered (w.output.last + 1) made) (n, c) new)
              ]),
          λ h. ⊎_elim
              (λ (old : Contains w.clauses (n, c) × (is_replaced (lists w.clauses) l k c ≡ false)). (rem.clauses n c).1 (grown_stay w d made grown n c old.0, goes n c old.0 old.1))
              (λ (new : Contains (numbered (w.output.last + 1) made) (n, c)). new_stays n c (Contains_In (numbered (w.output.last + 1) made) (n, c) new))
              h,
        );
        fewer = (
            let twice = twice_as_many w r.work l k differ rem.gone (λ m C e n c i s. (rem.named n).1 (in_gone m C e n c i s, (c, grown_stay w d made grown n c i))) in
            let count = rem.count in
            let came = ap (λ (cs : List Cell). length cs) grown.clauses in
            let a = length-append w.clauses (numbered (w.output.last + 1) made) in
            let b = numbered_long (w.output.last + 1) made in
            let e = map_long Cs in
            let three = r.partner.enough in
            omega arith);
      }
        where
          differ : same l k ≡ false
          differ = refuted _ (λ e. let lt = r.partner.after in let q = ap code_of (same-true l k e) in omega arith)

          in_gone : (m : ℕ) (C : List Literal) → common_at w.clauses l k m ≡ Some C → (n : ℕ) (c : List Literal) → Contains w.clauses (n, c) → (same_set (l ∷ C) c ≡ true) ⊎ (same_set (k ∷ C) c ≡ true) → Contains gone n
          in_gone m C e n c i s = (r.shared.every n).1 (
            c,
            i,
            ⊎_elim
                (λ (q : same_set (l ∷ C) c ≡ true). replaced_first w l k C c (common_counted w l k m C e) q)
                (λ (q : same_set (k ∷ C) c ≡ true). replaced_second w l k C c (common_counted w l k m C e) q)
                s,
          )

          numbered_long : (n : ℕ) (cs : List (List Literal)) → length (numbered n cs) ≡ length cs
          numbered_long n [] = refl
          numbered_long n (c ∷ cs) = ap suc (numbered_long (suc n) cs)

          map_long : (Ds : List (List Literal)) → length (map (λ (C : List Literal). opposite x ∷ C) Ds) ≡ length Ds
          map_long [] = refl
          map_long (D ∷ Ds) = ap suc (map_long Ds)

      -- Models

      set_among : (m : ℕ) (D : List Literal) → common_at w.clauses l k m ≡ Some D → In D Cs
      set_among m D e =
          let t = counted_at w l k m D e in
          In_filter_map (common_at w.clauses l k) (range_with_len 0 (w.output.last + 1)) m D (In_range 0 (w.output.last + 1) m (omega arith) (let le = old_number m t.0 t.1 in omega arith)) e
        where
          In_filter_map : (f : ℕ → Option (List Literal)) (ns : List ℕ) (n : ℕ) (C : List Literal) → In n ns → f n ≡ Some C → In C (filter_map f ns)
          In_filter_map f [] n C i q = absurd i
          In_filter_map f (y ∷ ns) n C (inl is) q = subst (λ (o : Option (List Literal)). In C (cons_option o (filter_map f ns))) (sym (ap f is ∙ q)) (inl refl)
          In_filter_map f (y ∷ ns) n C (inr i) q = by (f y) (In_filter_map f ns n C i q)
            where
              by : (o : Option (List Literal)) → In C (filter_map f ns) → In C (cons_option o (filter_map f ns))
              by None h = h
              by (Some v) h = inr h

          In_range : (a b n : ℕ) → a ≤ n → n < a + b → In n (range_with_len a b)
          In_range a zero n lo hi = absurd (omega arith)
          In_range a (suc b) n lo hi = dite (ℕ_discrete a n) (λ (is : a ≡ n). inl is) (λ (ne : a ≢ n). inr (In_range (a + 1) b n (omega arith) (omega arith)))

      module _ (A : List Bool) (all : formula_true A (known z) ≡ true) where
        true_new : (c : List Literal) → In c made → clause_true A c ≡ true
        true_new c i =
            let t = In_numbered (w.output.last + 1) made c i in
            clause_true_alike A c (clause_of c) (λ q. sym (has-clause_of c q))
            ∙ all_In (clause_true A) (known z) (clause_of c) all (known_alive z t.0 (clause_of c) (new_stays t.0 (clause_of c) t.1))

        true_pair : (j : Literal) → clause_true A (pair j) ≡ true → lit_true A x ≡ false → lit_true A j ≡ true
        true_pair j h f =
            let t = In_any (lit_true A) (pair j) h in
            by t.0 t.1 t.2
          where
            by : (y : Literal) → In y (pair j) → lit_true A y ≡ true → lit_true A j ≡ true
            by y (inl e) q = absurd (true≢false (sym (ap (lit_true A) e ∙ q) ∙ f))
            by y (inr (inl e)) q = ap (lit_true A) e ∙ q
            by y (inr (inr n)) q = absurd n

        true_set : (D c : List Literal) → clause_true A (opposite x ∷ D) ≡ true → lit_true A x ≡ true → ((q : Literal) → has D q ≡ true → has c q ≡ true) → clause_true A c ≡ true
        true_set D c h t more =
            let u = In_any (lit_true A) (opposite x ∷ D) h in
            by u.0 u.1 u.2
          where
            by : (y : Literal) → In y (opposite x ∷ D) → lit_true A y ≡ true → clause_true A c ≡ true
            by y (inl e) q = absurd (true≢false (sym (ap (lit_true A) e ∙ q) ∙ lit_true-opposite A x ∙ ap not t))
            by y (inr i) q = any_In (lit_true A) c y (has_In c y (more y (In_has D y i))) q

        true_replaced : (c : List Literal) → is_replaced (lists w.clauses) l k c ≡ true → clause_true A c ≡ true
        true_replaced c h =
            let t = replaced_by w r.work l k c h in
            let set : clause_true A (opposite x ∷ t.1) ≡ true = true_new (opposite x ∷ t.1) (inr (inr (In_map (λ (C : List Literal). opposite x ∷ C) Cs t.1 (set_among t.0 t.1 t.2)))) in
            let first : clause_true A (pair l) ≡ true = true_new (pair l) (inl refl) in
            let second : clause_true A (pair k) ≡ true = true_new (pair k) (inr (inl refl)) in
            ⊎_elim
            (λ (s : same_set (l ∷ t.1) c ≡ true). by l t.1 s first set)
            (λ (s : same_set (k ∷ t.1) c ≡ true). by k t.1 s second set)
            t.3
          where
            by : (j : Literal) (D : List Literal) → same_set (j ∷ D) c ≡ true → clause_true A (pair j) ≡ true → clause_true A (opposite x ∷ D) ≡ true → clause_true A c ≡ true
            by j D s p q = elim (cases_Bool (lit_true A x)) as (λ _. clause_true A c ≡ true) [
              | inl t ↦ true_set D c q t (λ m i. sym (same_has (j ∷ D) c s m) ∙ or_right _ _ i)
              | inr f ↦ any_In (lit_true A) c j (has_In c j (sym (same_has (j ∷ D) c s j) ∙ or_left _ _ (same-refl j))) (true_pair j p f)
            ]

        each : (c : List Literal) → In c (known w) → clause_true A c ≡ true
        each c i = ⊎_elim
            (λ (h : In c (lists w.clauses)). (
            let t = map_In (λ (y : Cell). y.1) w.clauses c h in
            let there : Contains w.clauses (t.0.0, c) = subst (λ (y : List Literal). Contains w.clauses (t.0.0, y)) t.2 (In_Contains w.clauses t.0 t.1) in
            elim (cases_Bool (is_replaced (lists w.clauses) l k c)) as (λ _. clause_true A c ≡ true) [
              | inl e ↦ true_replaced c e
              | inr f ↦ all_In (clause_true A) (known z) c all (known_alive z t.0.0 c ((exchanged.clauses t.0.0 c).1 (inl (there, f))))
            ]))
            (λ (h : In c (unit_clauses w.units)). all_In (clause_true A) (known z) c all (In_append_right (lists z.clauses) (unit_clauses z.units) c (subst (λ us. In c (unit_clauses us)) (sym (rem.on.units ∙ grown.on.units)) h)))
            (In_append (lists w.clauses) (unit_clauses w.units) c i)

      pub lifted : Lifted w z
      lifted = record {
        fixes = [];
        stack = rem.on.stack ∙ grown.on.stack ∙ sym (append-nil w.stack);
        lifts = λ A all. In_all (clause_true A) (known w) (each A all);
      }

      pub done : Done w z x l k
      unfolding lifted
      done = record {
        on = goes_along w d z grown.on rem.on;
        vars = rem.vars ∙ grown.vars;
        entries = adds (w.output.last + 1) made ++ map ruler_deletes rem.gone;
        log = continues_along (adds (w.output.last + 1) made) (map ruler_deletes rem.gone) w d z grown.log rem.log;
        exchanged = exchanged;
        lifted = lifted;
        unmended = refl;
      }

    pub exchanged_after : (z : WorkState) (result : Result (Unit {0}) LineStop) → WasRemoved d z gone result → WasExchanged w z x l k result
    exchanged_after z (Ok d_one) h = done z h
    exchanged_after z (Err stop) h = stopped_after w d z stop grown.on.quiet (grown_log w d made grown) h
