-- The clauses with a variable are replaced by their resolvents.
use Rattle.std.proofs.Common.{◌≡◌, ℕ, Bool, true, false, not, List, [], ◌∷◌, ◌++◌, map, cond, refl, sym, ap, subst, ◌∙◌, inl, inr, ◌⊎◌, ⊎_elim, append-nil, arith}
use Rattle.std.specs.List.{Contains, filter, sum_by}
use Rattle.std.specs.Prelude.{Result, Ok, Err}
use Rattle.std.proofs.lemmas.Bool.{cases_Bool, true≢false, not-true, or_left, or_right, or_cases}
use Rattle.sat_words.specs.Literal.{Literal, IsOn, opposite}
use Rattle.sat_words.specs.Clause.{has, has_opposites, two_or_more, InOrder}
use Rattle.sat_words.proofs.Members.{same-refl}
use Rattle.sat_words.proofs.Insertion.{InOrder-clause_of}
use Rattle.model_stack.specs.declared.stack.Fix.{Fix}
use Rattle.drat_text.specs.declared.stop.LineStop.{LineStop}
use Rattle.rup_model.proofs.Lists.{In, any_In, In_any, all_In, In_map, map_In, In_has, has_In, In_append, In_append_left, In_append_right, Contains_In, In_Contains}
use Rattle.simp_base.specs.Multisets.{SameMultiset}
use Rattle.simp_base.specs.Lifted.{Lifted}
use Rattle.simp_base.specs.WorkState.{WorkState, IsWork, lists, known, is_only, is_unit, is_alive_unit}
use Rattle.simp_base.proofs.Filters.{In_filter, filter_In}
use Rattle.simp_base.proofs.Keeping.{only_told}
use Rattle.simp_base.proofs.Known.{known_alive, on_alive}
use Rattle.simp_base.proofs.Lists.{In_All, Contains_left}
use Rattle.simp_base.proofs.Long.{two_if_long}
use Rattle.simp_base.proofs.Removal.{same_number}
use Rattle.simp_elim.specs.Resolution.{occurs, mentions, unmentioned, without, resolved, is_proper, resolved_with, fixes_of}
use Rattle.simp_elim.specs.Occurring.{clause_at, OccursIn, AreOccurrences}
use Rattle.simp_elim.specs.Ends.{ListsUnits}
use Rattle.simp_base.specs.Stacked.{Stacked}
use Rattle.simp_elim.specs.Stages.{GoesOn, CanCome, Grown, AreLong, Removing, Removed, WasRemoved, IsReplaceable, Replaced, WasReplaced}
use Rattle.simp_elim.proofs.Truths.{flat_In, In_flat}
use Rattle.simp_elim.proofs.Elimination.{occurs_parts, resolved_apart, Resolves, lifts_elimination}
use Rattle.simp_elim.proofs.Multisets.{same_filter}
use Rattle.simp_elim.proofs.Resolving.{resolvent_follows, resolved_some}
use Rattle.simp_elim.proofs.Counting.{at_is}
use Rattle.simp_elim.proofs.Growing.{goes_along, stopped_after, known_by, unit_known, unit_alive, alive_unit, map_append, grown_stay}

-- Filters

filter_append : {X : Type 0} (p : X → Bool) (xs ys : List X) → filter p (xs ++ ys) ≡ filter p xs ++ filter p ys
filter_append p [] ys = refl
filter_append {X} p (x ∷ xs) ys = by (p x) (filter_append p xs ys)
  where
    by : (b : Bool) → filter p (xs ++ ys) ≡ filter p xs ++ filter p ys → cond b (x ∷ filter p (xs ++ ys)) (filter p (xs ++ ys)) ≡ cond b (x ∷ filter p xs) (filter p xs) ++ filter p ys
    by true e = ap (λ (r : List X). x ∷ r) e
    by false e = e

filter_all : {X : Type 0} (p : X → Bool) (xs : List X) → ((x : X) → In x xs → p x ≡ true) → filter p xs ≡ xs
filter_all p [] f = refl
filter_all {X} p (x ∷ xs) f = ap (λ (b : Bool). cond b (x ∷ filter p xs) (filter p xs)) (f x (inl refl)) ∙ ap (λ (r : List X). x ∷ r) (filter_all p xs (λ y i. f y (inr i)))

filter_none : {X : Type 0} (p : X → Bool) (xs : List X) → ((x : X) → In x xs → p x ≡ false) → filter p xs ≡ []
filter_none p [] f = refl
filter_none {X} p (x ∷ xs) f = ap (λ (b : Bool). cond b (x ∷ filter p xs) (filter p xs)) (f x (inl refl)) ∙ filter_none p xs (λ y i. f y (inr i))

pub refuted : (b : Bool) → (b ≡ true → ⊥) → b ≡ false
refuted true f = absurd (f refl)
refuted false f = refl

-- a clause with a variable that has no unit has two literals or more
pub long_without_unit : (w : WorkState) (l : Literal) → is_unit w l ≡ false → (n : ℕ) (c : List Literal) → Contains w.clauses (n, c) → has c l ≡ true → InOrder c → two_or_more c ≡ true
long_without_unit w l free n [] i h o = absurd (true≢false (sym h))
long_without_unit w l free n (k ∷ []) i h o =
    let e : k ≡ l = one (has_In (k ∷ []) l h) in
    absurd (true≢false (sym (or_right (has w.units l) _ (alive_unit w l n (subst (λ (x : Literal). Contains w.clauses (n, x ∷ [])) e i))) ∙ free))
  where
    one : In l (k ∷ []) → k ≡ l
    one (inl e) = e
    one (inr z) = absurd z
long_without_unit w l free n (k ∷ j ∷ c) i h o = two_if_long (k ∷ j ∷ c) o (omega arith)

-- Resolvents of what is found

module _ (w : WorkState) (l : Literal) (firsts seconds : List ℕ) (made : List (List Literal)) (r : IsReplaceable w l firsts seconds made) where
  abbrev P : List (List Literal)
  P = map (clause_at w.clauses) firsts

  abbrev N : List (List Literal)
  N = map (clause_at w.clauses) seconds

  -- a clause found by number
  found : (k : Literal) (numbers : List ℕ) → OccursIn w k numbers → (c : List Literal) → In c (map (clause_at w.clauses) numbers) → (n : ℕ) × Contains w.clauses (n, c) × (occurs k c ≡ true) × InOrder c × Contains numbers n
  found k numbers sound c i =
      let t = map_In (clause_at w.clauses) numbers c i in
      let here = In_Contains numbers t.0 t.1 in
      let s = sound t.0 here in
      let is : s.0 ≡ c = sym (at_is w.clauses r.work.numbers t.0 s.0 s.1) ∙ t.2 in
      (t.0, subst (λ (d : List Literal). Contains w.clauses (t.0, d)) is s.1, subst (λ (d : List Literal). occurs k d ≡ true) is s.2, subst InOrder is s.3, here)

  -- and the other way round
  listed_at : (k : Literal) (numbers : List ℕ) → AreOccurrences w k numbers → (n : ℕ) (c : List Literal) → Contains w.clauses (n, c) → occurs k c ≡ true → In c (map (clause_at w.clauses) numbers)
  listed_at k numbers h n c i o =
      subst (λ (d : List Literal). In d (map (clause_at w.clauses) numbers)) (at_is w.clauses r.work.numbers n c i) (In_map (clause_at w.clauses) numbers n (Contains_In numbers n (h.every n c i o)))

  -- each resolvent has its two clauses
  of_two : (e : List Literal) → In e made → (c : List Literal) × (d : List Literal) × In c P × In d N × (e ≡ resolved l c d) × (is_proper e ≡ true)
  of_two e i =
      let t = flat_In (resolved_with l N) P e (subst (λ (xs : List (List Literal)). In e xs) r.are i) in
      let f = filter_In is_proper (map (resolved l t.0) N) e t.2 in
      let m = map_In (resolved l t.0) N e f.0 in
      (t.0, m.0, t.1, m.1, sym m.2, f.1)

  not_mentioned : (c d : List Literal) → occurs l c ≡ true → occurs (opposite l) d ≡ true → mentions l (resolved l c d) ≡ false
  not_mentioned c d oc od = refuted (mentions l (resolved l c d)) (λ h.
      elim (or_cases (occurs l (resolved l c d)) (occurs (opposite l) (resolved l c d)) h) as (λ _. ⊥) [
        | inl o ↦ (resolved_apart l c d oc od l (occurs_parts l (resolved l c d) o).0).1 refl
        | inr o ↦ (resolved_apart l c d oc od (opposite l) (occurs_parts (opposite l) (resolved l c d) o).0).1 refl
      ])

  made_unmentioned : (e : List Literal) → In e made → mentions l e ≡ false
  made_unmentioned e i =
      let t = of_two e i in
      ap (mentions l) t.4 ∙ not_mentioned t.0 t.1 (found l firsts r.first.sound t.0 t.2).2 (found (opposite l) seconds r.second.sound t.1 t.3).2

  pub made_comes : (e : List Literal) → Contains made e → CanCome w e
  made_comes e h =
      let t = of_two e (Contains_In made e h) in
      let c = found l firsts r.first.sound t.0 t.2 in
      let d = found (opposite l) seconds r.second.sound t.1 t.3 in
      subst (CanCome w) (sym t.4) (record {
        follows = resolvent_follows l (known w) t.0 t.1 (known_alive w c.0 t.0 c.1) (known_alive w d.0 t.1 d.1) (occurs_parts l t.0 c.2).0;
        no_opposites = ap has_opposites (sym t.4) ∙ not-true (has_opposites e) t.5;
        some = resolved_some l t.0 t.1 (long_without_unit w l r.free c.0 t.0 c.1 (occurs_parts l t.0 c.2).0 c.3);
        on = In_All (IsOn w.vars) (resolved l t.0 t.1) (λ k i. ⊎_elim
            (λ (j : In k t.0). on_alive w r.work c.0 t.0 c.1 k j)
            (λ (j : In k t.1). on_alive w r.work d.0 t.1 d.1 k j)
            (resolved_apart l t.0 t.1 c.2 d.2 k (In_has (resolved l t.0 t.1) k i)).0);
        ordered = InOrder-clause_of (without l t.0 ++ without (opposite l) t.1);
      })

  pub first_in : (a : WorkState) → Grown w a made → OccursIn a l firsts
  first_in a grown n h = let s = r.first.sound n h in (s.0, grown_stay w a made grown n s.0 s.1, s.2, s.3)

  -- The stages, one after another

  module _ (a b : WorkState) (grown : Grown w a made) (stacked : Stacked a b (fixes_of l (map (clause_at a.clauses) firsts))) where
    b_clauses : b.clauses ≡ w.clauses ++ grown.more
    b_clauses = ap (λ (s : WorkState). s.clauses) stacked.state ∙ grown.clauses

    b_units : b.units ≡ a.units
    b_units = ap (λ (s : WorkState). s.units) stacked.state

    old_in_b : (n : ℕ) (c : List Literal) → Contains w.clauses (n, c) → Contains b.clauses (n, c)
    old_in_b n c h = subst (λ (cs : List (ℕ × List Literal)). Contains cs (n, c)) (sym b_clauses) (Contains_left w.clauses grown.more (n, c) h)

    -- what is in b was there, or is a resolvent
    b_parts : (n : ℕ) (c : List Literal) → Contains b.clauses (n, c) → Contains w.clauses (n, c) ⊎ In c made
    b_parts n c h =
        elim (In_append w.clauses grown.more (n, c) (subst (λ (cs : List (ℕ × List Literal)). In {X = ℕ × List Literal} (n, c) cs) b_clauses (Contains_In b.clauses (n, c) h))) as (λ _. Contains w.clauses (n, c) ⊎ In c made) [
          | inl i ↦ inl (In_Contains w.clauses (n, c) i)
          | inr i ↦ inr (subst (λ (cs : List (List Literal)). In c cs) grown.are (In_map (λ (x : ℕ × List Literal). x.1) grown.more (n, c) i))
        ]

    made_in_b : (c : List Literal) → In c made → (n : ℕ) × Contains b.clauses (n, c)
    made_in_b c i =
        let t = map_In (λ (x : ℕ × List Literal). x.1) grown.more c (subst (λ (cs : List (List Literal)). In c cs) (sym grown.are) i) in
        (t.0.0, subst (λ (x : List Literal). Contains b.clauses (t.0.0, x)) t.2 (In_Contains b.clauses t.0 (subst (λ (cs : List (ℕ × List Literal)). In t.0 cs) (sym b_clauses) (In_append_right w.clauses grown.more t.0 t.1))))

    b_work : IsWork b
    b_work = stacked.work

    has_named : (k : Literal) (numbers : List ℕ) → OccursIn w k numbers → (n : ℕ) (c : List Literal) → Contains numbers n → Contains b.clauses (n, c) → occurs k c ≡ true
    has_named k numbers sound n c h i =
        let s = sound n h in
        ap (occurs k) (same_number b.clauses b_work.numbers n c s.0 i (old_in_b n s.0 s.1)) ∙ s.2

    begun : Removing b b l (firsts ++ (seconds ++ []))
    begun = record {
      gone = [];
      each = record { weighs = λ g. refl };
      mentioned = refl;
      stay = λ n c i q. i;
      left = λ n c i q. elim (b_parts n c i) as (λ _. Contains (firsts ++ (seconds ++ [])) n) [
        | inr m ↦ absurd (true≢false (sym q ∙ made_unmentioned c m))
        | inl j ↦ elim (or_cases (occurs l c) (occurs (opposite l) c) q) as (λ _. Contains (firsts ++ (seconds ++ [])) n) [
          | inl o ↦ In_Contains _ n (In_append_left firsts (seconds ++ []) n (Contains_In firsts n (r.first.every n c j o)))
          | inr o ↦ In_Contains _ n (In_append_right firsts (seconds ++ []) n (In_append_left seconds [] n (Contains_In seconds n (r.second.every n c j o))))
        ]
      ];
      named = λ n c i j. elim (In_append firsts (seconds ++ []) n (Contains_In (firsts ++ (seconds ++ [])) n i)) as (λ _. mentions l c ≡ true) [
        | inl k ↦ or_left _ (occurs (opposite l) c) (has_named l firsts r.first.sound n c (In_Contains firsts n k) j)
        | inr k ↦ or_right (occurs l c) _ (has_named (opposite l) seconds r.second.sound n c (In_Contains seconds n (subst (λ (ns : List ℕ). In n ns) (append-nil seconds) k)) j)
      ];
    }

    pub first_long : AreLong b firsts
    first_long n c h i =
        let s = r.first.sound n h in
        let is : s.0 ≡ c = same_number b.clauses b_work.numbers n s.0 c (old_in_b n s.0 s.1) i in
        subst (λ (x : List Literal). two_or_more x ≡ true) is (long_without_unit w l r.free n s.0 s.1 (occurs_parts l s.0 s.2).0 s.3)

    pub second_long : (d : WorkState) → Removed b d firsts → AreLong d seconds
    second_long d first n c h i =
        let s = r.second.sound n h in
        let is : s.0 ≡ c = same_number b.clauses b_work.numbers n s.0 c (old_in_b n s.0 s.1) (first.fewer n c i) in
        subst (λ (x : List Literal). two_or_more x ≡ true) is (long_without_unit w (opposite l) r.free_too n s.0 s.1 (occurs_parts (opposite l) s.0 s.2).0 s.3)

    stacked_on : GoesOn a b
    stacked_on = record {
      going = ap (λ (s : WorkState). s.ended) stacked.state ∙ grown.on.going;
      unspent = ap (λ (s : WorkState). s.output.spent) stacked.state ∙ grown.on.unspent;
      work = stacked.work;
      quiet = ap (λ (s : WorkState). s.output.faults) stacked.state;
      vars = ap (λ (s : WorkState). s.vars) stacked.state;
      log = stacked.log;
    }

    pub goes_b : GoesOn w b
    goes_b = goes_along w a b grown.on stacked_on

    module _ (d z : WorkState) (first : Removed b d firsts) (second : Removed d z seconds) where
      z_units : z.units ≡ a.units
      z_units = second.units ∙ first.units ∙ b_units

      ended : Removing b z l []
      ended = second.kept b l [] (first.kept b l (seconds ++ []) begun)

      none_left : (c : List Literal) → In c (lists z.clauses) → mentions l c ≡ false
      none_left c i =
          let t = map_In (λ (x : ℕ × List Literal). x.1) z.clauses c i in
          refuted (mentions l c) (λ q. Contains_In [] t.0.0 (ended.left t.0.0 c (subst (λ (x : List Literal). Contains z.clauses (t.0.0, x)) t.2 (In_Contains z.clauses t.0 t.1)) q))

      replaced_clauses : SameMultiset (lists z.clauses) (unmentioned l (lists w.clauses) ++ made)
      replaced_clauses =
          let p = λ (c : List Literal). not (mentions l c) in
          let before : lists b.clauses ≡ lists w.clauses ++ made = ap lists b_clauses ∙ map_append (λ (x : ℕ × List Literal). x.1) w.clauses grown.more ∙ ap (λ (cs : List (List Literal)). lists w.clauses ++ cs) grown.are in
          let there : filter p (lists b.clauses) ≡ unmentioned l (lists w.clauses) ++ made =
          ap (filter p) before ∙ filter_append p (lists w.clauses) made ∙ ap (λ (cs : List (List Literal)). unmentioned l (lists w.clauses) ++ cs) (filter_all p made (λ c i. ap not (made_unmentioned c i))) in
          let here : filter p (ended.gone ++ lists z.clauses) ≡ lists z.clauses =
          filter_append p ended.gone (lists z.clauses)
          ∙ ap (λ (cs : List (List Literal)). cs ++ filter p (lists z.clauses)) (filter_none p ended.gone (λ c i. ap not (all_In (mentions l) ended.gone c ended.mentioned i)))
          ∙ filter_all p (lists z.clauses) (λ c i. ap not (none_left c i)) in
          let s = same_filter p (lists b.clauses) (ended.gone ++ lists z.clauses) ended.each in
          record { weighs = λ g. sym (ap (sum_by g) here) ∙ sym (s.weighs g) ∙ ap (sum_by g) there }

      -- a clause without the variable stays
      stays : (n : ℕ) (c : List Literal) → Contains w.clauses (n, c) → mentions l c ≡ false → Contains z.clauses (n, c)
      stays n c h q = ended.stay n c (old_in_b n c h) q

      units_stay : (k : Literal) → has w.units k ≡ true → has z.units k ≡ true
      units_stay k h = ap (λ us. has us k) z_units ∙ grown.kept k h

      no_unit : (k : Literal) (m : Literal) → is_unit w m ≡ false → is_unit w k ≡ true → occurs m (k ∷ []) ≡ true → ⊥
      no_unit k m free u o =
          let h = (occurs_parts m (k ∷ []) o).0 in
          true≢false (sym u ∙ ap (is_unit w) (one (has_In (k ∷ []) m h)) ∙ free)
        where
          one : In m (k ∷ []) → k ≡ m
          one (inl e) = e
          one (inr i) = absurd i

      unit_unmentioned : (k : Literal) → is_unit w k ≡ true → mentions l (k ∷ []) ≡ false
      unit_unmentioned k u = refuted (mentions l (k ∷ [])) (λ h. elim (or_cases (occurs l (k ∷ [])) (occurs (opposite l) (k ∷ [])) h) as (λ _. ⊥) [
        | inl o ↦ no_unit k l r.free u o
        | inr o ↦ no_unit k (opposite l) r.free_too u o
      ])

      whole : (k : Literal) (numbers : List ℕ) → is_unit w k ≡ false → AreOccurrences w k numbers → (c : List Literal) → In c (known w) → occurs k c ≡ true → In c (map (clause_at w.clauses) numbers)
      whole k numbers free h c i o = known_by (λ x. occurs k x ≡ true → In x (map (clause_at w.clauses) numbers)) w
          (λ n x j q. listed_at k numbers h n x j q)
          (λ m j q. absurd (no_unit m k free (or_left _ (is_alive_unit w m) j) q))
          c i o

      resolves : Resolves l (known w) (known z)
      resolves = record {
        left = λ c i q. inr (known_by (λ x. mentions l x ≡ false → In x (known z)) w
            (λ n x j m. known_alive z n x (stays n x j m))
            (λ k j m. unit_known z k (units_stay k j))
            c i q);
        paired = λ c e i j oc oe.
            elim (cases_Bool (has_opposites (resolved l c e))) as (λ _. (has_opposites (resolved l c e) ≡ true) ⊎ In (resolved l c e) (known z)) [
              | inl t ↦ inl t
              | inr p ↦ inr (
                  let inP = whole l firsts r.free r.first c i oc in
                  let inN = whole (opposite l) seconds r.free_too r.second e j oe in
                  let m : In (resolved l c e) made = subst (λ (xs : List (List Literal)). In (resolved l c e) xs) (sym r.are)
                  (In_flat (resolved_with l N) P c (resolved l c e) inP (In_filter is_proper (map (resolved l c) N) (resolved l c e) (In_map (resolved l c) N e inN) (ap not p))) in
                  let t = made_in_b (resolved l c e) m in
                  known_alive z t.0 (resolved l c e) (ended.stay t.0 (resolved l c e) t.1 (not_mentioned c e oc oe)))
            ];
      }

      -- the entries are those of the clauses at the beginning
      alike : (numbers : List ℕ) → ((n : ℕ) → Contains numbers n → clause_at a.clauses n ≡ clause_at w.clauses n) → map (clause_at a.clauses) numbers ≡ map (clause_at w.clauses) numbers
      alike [] f = refl
      alike (n ∷ numbers) f = λ i. f n (In_Contains (n ∷ numbers) n (inl refl)) i ∷ alike numbers (λ m h. f m (In_Contains (n ∷ numbers) m (inr (Contains_In numbers m h)))) i

      same_entries : map (clause_at a.clauses) firsts ≡ P
      same_entries = alike firsts (λ n h.
          let s = r.first.sound n h in
          at_is a.clauses grown.on.work.numbers n s.0 (grown_stay w a made grown n s.0 s.1) ∙ sym (at_is w.clauses r.work.numbers n s.0 s.1))

      lifted : Lifted w z
      lifted = record {
        fixes = fixes_of l P;
        stack = second.stack ∙ first.stack ∙ ap (λ (s : WorkState). s.stack) stacked.state ∙ ap (λ (cs : List (List Literal)). a.stack ++ fixes_of l cs) same_entries ∙ ap (λ (s : List Fix). s ++ fixes_of l P) grown.stack;
        lifts = lifts_elimination l (known w) (known z) P r.on.low
            (λ c i. let t = found l firsts r.first.sound c i in (known_alive w t.0 c t.1, t.2))
            (λ c i o. whole l firsts r.free r.first c i o)
            resolves;
      }

      units : ListsUnits w z
      units = record {
        kept = units_stay;
        came = λ k h. elim (grown.came k (ap (λ us. has us k) (sym z_units) ∙ h)) as (λ _. (has w.units k ≡ true) ⊎ (is_alive_unit z k ≡ true)) [
          | inl i ↦ inl i
          | inr i ↦ inr (let t = In_any (is_only k) made i in
              let is : t.0 ≡ k ∷ [] = only_told k t.0 t.2 in
              let m = made_in_b t.0 t.1 in
              alive_unit z k m.0 (subst (λ (x : List Literal). Contains z.clauses (m.0, x)) is (ended.stay m.0 t.0 m.1 (made_unmentioned t.0 t.1))))
        ];
        listed = λ k h. let t = unit_alive z k h in
            elim (b_parts t.0 (k ∷ []) (first.fewer t.0 (k ∷ []) (second.fewer t.0 (k ∷ []) t.1))) as (λ _. (is_alive_unit w k ≡ true) ⊎ (has z.units k ≡ true)) [
              | inl i ↦ inl (alive_unit w k t.0 i)
              | inr i ↦ inr (ap (λ us. has us k) z_units ∙ grown.listed k (any_In (is_only k) made (k ∷ []) i (same-refl k)))
            ];
        alive = λ k h. let t = unit_alive w k h in alive_unit z k t.0 (stays t.0 (k ∷ []) t.1 (unit_unmentioned k (or_right (has w.units k) _ h)));
      }

      pub replaced : Replaced w z l firsts made
      unfolding lifted
      replaced = record {
        on = goes_along w b z goes_b (goes_along b d z first.on second.on);
        clauses = replaced_clauses;
        lifted = lifted;
        fixes = refl;
        units = units;
      }

    pub was_replaced : (d z : WorkState) → Removed b d firsts → (result : Result (Unit {0}) LineStop) → WasRemoved d z seconds result → WasReplaced w z l firsts made result
    was_replaced d z first (Ok done) h = replaced d z first h
    was_replaced d z first (Err stop) h = stopped_after w d z stop (goes_along w b d goes_b first.on) h
