-- One variable, and one after another.
use Rattle.std.proofs.Common.{◌≡◌, ℕ, zero, suc, ◌+◌, ◌<◌, ◌≤◌, Bool, true, false, not, ◌||◌, ◌&&◌, List, [], ◌∷◌, ◌++◌, ◌-◌, map, length, cond, refl, sym, ap, subst, ◌∙◌, inl, inr, ◌⊎◌, ⊎_elim, append-nil, append_assoc, arith}
use Rattle.std.specs.List.{Contains, list_any, list_all, All}
use Rattle.std.specs.Prelude.{Result, Ok, Err}
use Rattle.std.proofs.lemmas.Bool.{true≢false, and_from, and_parts, or_left, or_right, or_cases, cases_lt}
use Rattle.sat_words.specs.Literal.{Literal, IsOn, opposite}
use Rattle.sat_words.specs.Clause.{has}
use Rattle.model_stack.specs.declared.stack.Fix.{Fix}
use Rattle.rup_model.proofs.Lists.{In, any_In, In_any, In_map, map_In, has_In, In_append, Contains_In, In_Contains}
use Rattle.drat_text.specs.declared.stop.LineStop.{LineStop}
use Rattle.simp_base.specs.Multisets.{SameMultiset}
use Rattle.simp_base.specs.Lifted.{Lifted}
use Rattle.simp_base.specs.WorkState.{WorkState, IsWork, lists, known, is_alive_unit}
use Rattle.simp_base.proofs.Filters.{filter_In}
use Rattle.model_stack.proofs.Walk.{lifts_along}
use Rattle.simp_base.proofs.Lists.{All_In}
use Rattle.simp_elim.specs.Resolution.{positive, negative, occurs, occurrences, mentions, unmentioned, resolved, is_proper, resolved_with, resolvents, resolvents_on, eliminated}
use Rattle.simp_elim.specs.Rule.{at_most, is_unit_among, has_unit_among, is_bounded, is_passed, goes, eliminate_one, eliminate, IsTaken}
use Rattle.simp_elim.specs.Bounds.{within}
use Rattle.simp_elim.specs.Occurring.{clause_at, AreOccurrences}
use Rattle.simp_elim.specs.Ends.{ListsUnits, Eliminated}
use Rattle.simp_elim.specs.Stages.{Stops, Replaced, WasReplaced, Stepped, WasStepped, Passed, IsHighest}
use Rattle.simp_elim.proofs.Truths.{flat_In}
use Rattle.simp_elim.proofs.Elimination.{occurs_parts, resolved_parts}
use Rattle.simp_elim.proofs.Multisets.{same_refl, same_trans, same_append, same_filter, same_length, same_all, same_resolvents, same_goes, same_eliminate_one}
use Rattle.simp_elim.proofs.Counting.{occurrences_found}
use Rattle.simp_elim.proofs.Growing.{goes_self, goes_along, stopped_after}

same_bool : (a b : Bool) → (a ≡ true → b ≡ true) → (b ≡ true → a ≡ true) → a ≡ b
same_bool true b f g = sym (f refl)
same_bool false true f g = g refl
same_bool false false f g = refl

-- Lifting

abbrev lifted_self : (w : WorkState) → Lifted w w
lifted_self w = record { fixes = []; stack = sym (append-nil w.stack); lifts = λ m h. h }

abbrev lifted_along : (a b c : WorkState) → Lifted a b → Lifted b c → Lifted a c
lifted_along a b c f g = record {
  fixes = f.fixes ++ g.fixes;
  stack = g.stack ∙ ap (λ (s : List Fix). s ++ g.fixes) f.stack ∙ append_assoc a.stack f.fixes g.fixes;
  lifts = lifts_along (known a) (known b) (known c) f.fixes g.fixes f.lifts g.lifts;
}

-- Units

units_self : (w : WorkState) → ListsUnits w w
units_self w = record { kept = λ l h. h; came = λ l h. inl h; listed = λ l h. inl h; alive = λ l h. h }

units_along : (a b c : WorkState) → ListsUnits a b → ListsUnits b c → ListsUnits a c
units_along a b c f g = record {
  kept = λ l h. g.kept l (f.kept l h);
  came = λ l h. elim (g.came l h) as (λ _. (has a.units l ≡ true) ⊎ (is_alive_unit c l ≡ true)) [
    | inr i ↦ inr i
    | inl i ↦ elim (f.came l i) as (λ _. (has a.units l ≡ true) ⊎ (is_alive_unit c l ≡ true)) [
      | inl j ↦ inl j
      | inr j ↦ inr (g.alive l j)
    ]
  ];
  listed = λ l h. elim (g.listed l h) as (λ _. (is_alive_unit a l ≡ true) ⊎ (has c.units l ≡ true)) [
    | inr i ↦ inr i
    | inl i ↦ elim (f.listed l i) as (λ _. (is_alive_unit a l ≡ true) ⊎ (has c.units l ≡ true)) [
      | inl j ↦ inl j
      | inr j ↦ inr (g.kept l j)
    ]
  ];
  alive = λ l h. g.alive l (f.alive l h);
}

-- a variable has a unit by the units listed at the start if it has one by those listed now
unit_alike : (start now : WorkState) → ListsUnits start now → (l : Literal) → is_unit_among now.units (lists now.clauses) l ≡ is_unit_among start.units (lists now.clauses) l
unit_alike start now u l = same_bool _ _
    (λ h. elim (or_cases (has now.units l) (is_alive_unit now l) h) as (λ _. is_unit_among start.units (lists now.clauses) l ≡ true) [
      | inr i ↦ or_right (has start.units l) _ i
      | inl i ↦ elim (u.came l i) as (λ _. is_unit_among start.units (lists now.clauses) l ≡ true) [
        | inl j ↦ or_left _ (is_alive_unit now l) j
        | inr j ↦ or_right (has start.units l) _ j
      ]
    ])
    (λ h. elim (or_cases (has start.units l) (is_alive_unit now l) h) as (λ _. is_unit_among now.units (lists now.clauses) l ≡ true) [
      | inl i ↦ or_left _ (is_alive_unit now l) (u.kept l i)
      | inr i ↦ or_right (has now.units l) _ i
    ])

goes_alike : (start now : WorkState) → ListsUnits start now → (v : ℕ) → goes now.units (lists now.clauses) v ≡ goes start.units (lists now.clauses) v
goes_alike start now u v =
    let p = unit_alike start now u (positive v) in
    let n = unit_alike start now u (negative v) in
    λ i. not ((p i || n i) || not (list_any (mentions (positive v)) (lists now.clauses))) && is_bounded (positive v) (lists now.clauses)

-- Nothing is done

one_if_not : (U : List Literal) (G : List (List Literal)) (v : ℕ) → goes U G v ≡ false → eliminate_one U G v ≡ G
one_if_not U G v e = ap (λ (b : Bool). cond b (eliminated (positive v) G) G) e

pub stepped_self : (w : WorkState) (v : ℕ) → w.ended ≡ false → w.output.spent ≡ false → IsWork w → goes w.units (lists w.clauses) v ≡ false → Stepped w w v
stepped_self w v going unspent kept e = record {
  on = goes_self w going unspent kept;
  clauses = subst (λ (G : List (List Literal)). SameMultiset (lists w.clauses) G) (sym (one_if_not w.units (lists w.clauses) v e)) (same_refl (lists w.clauses));
  lifted = lifted_self w;
  taken = subst (λ (b : Bool). IsTaken b v (lists w.clauses) []) (sym e) refl;
  units = units_self w;
}

-- since it has a unit, has too many occurrences, or none
pub not_with_unit : (U : List Literal) (G : List (List Literal)) (v : ℕ) → has_unit_among U G v ≡ true → goes U G v ≡ false
not_with_unit U G v h = ap (λ (b : Bool). not (b || not (list_any (mentions (positive v)) G)) && is_bounded (positive v) G) h

not_unbounded : (U : List Literal) (G : List (List Literal)) (v : ℕ) → is_bounded (positive v) G ≡ false → goes U G v ≡ false
not_unbounded U G v h = ap (λ (b : Bool). not (is_passed U G v) && b) h ∙ and_false (not (is_passed U G v))
  where
    and_false : (b : Bool) → (b && false) ≡ false
    and_false true = refl
    and_false false = refl

refuted : (b : Bool) → (b ≡ true → ⊥) → b ≡ false
refuted true f = absurd (f refl)
refuted false f = refl

-- the parts of the bounds
record IsBounded (l : Literal) (G : List (List Literal)) : Type 0 where
  first : at_most (length (occurrences l G)) 16 ≡ true
  second : at_most (length (occurrences (opposite l) G)) 16 ≡ true
  most : at_most (length (resolvents_on l G)) (length (occurrences l G) + length (occurrences (opposite l) G)) ≡ true
  short : list_all (λ c. at_most (length c) 100) (resolvents_on l G) ≡ true

bounded_parts : (l : Literal) (G : List (List Literal)) → is_bounded l G ≡ true → IsBounded l G
bounded_parts l G h =
    let a = at_most (length (occurrences l G)) 16 in
    let b = at_most (length (occurrences (opposite l) G)) 16 in
    let c = at_most (length (resolvents_on l G)) (length (occurrences l G) + length (occurrences (opposite l) G)) in
    let d = list_all (λ x. at_most (length x) 100) (resolvents_on l G) in
    by a b c d h refl refl refl refl
  where
    by : (a b c d : Bool) → (a && b && c && d) ≡ true → a ≡ at_most (length (occurrences l G)) 16 → b ≡ at_most (length (occurrences (opposite l) G)) 16
        → c ≡ at_most (length (resolvents_on l G)) (length (occurrences l G) + length (occurrences (opposite l) G)) → d ≡ list_all (λ x. at_most (length x) 100) (resolvents_on l G) → IsBounded l G
    by true true true true h p q r s = record { first = sym p; second = sym q; most = sym r; short = sym s }
    by true true true false h p q r s = absurd (true≢false (sym h))
    by true true false d h p q r s = absurd (true≢false (sym h))
    by true false c d h p q r s = absurd (true≢false (sym h))
    by false b c d h p q r s = absurd (true≢false (sym h))

parts_bounded : (l : Literal) (G : List (List Literal)) → IsBounded l G → is_bounded l G ≡ true
parts_bounded l G h = λ i. h.first i && h.second i && h.most i && h.short i

pub not_with_many : (U : List Literal) (G : List (List Literal)) (v : ℕ) → at_most (length (occurrences (positive v) G)) 16 ≡ false → goes U G v ≡ false
not_with_many U G v h = not_unbounded U G v (refuted _ (λ b. true≢false (sym (bounded_parts (positive v) G b).first ∙ h)))

pub not_with_many_negated : (U : List Literal) (G : List (List Literal)) (v : ℕ) → at_most (length (occurrences (negative v) G)) 16 ≡ false → goes U G v ≡ false
not_with_many_negated U G v h = not_unbounded U G v (refuted _ (λ b. true≢false (sym (bounded_parts (positive v) G b).second ∙ h)))

-- What is found of the variable

module _ (w : WorkState) (v : ℕ) (kept : IsWork w) (firsts seconds : List ℕ) (first : AreOccurrences w (positive v) firsts) (second : AreOccurrences w (negative v) seconds) where
  abbrev G : List (List Literal)
  G = lists w.clauses

  abbrev made : List (List Literal)
  made = resolvents (positive v) (map (clause_at w.clauses) firsts) (map (clause_at w.clauses) seconds)

  same_first : SameMultiset (map (clause_at w.clauses) firsts) (occurrences (positive v) G)
  same_first = occurrences_found w (positive v) kept firsts first

  same_second : SameMultiset (map (clause_at w.clauses) seconds) (occurrences (negative v) G)
  same_second = occurrences_found w (negative v) kept seconds second

  same_made : SameMultiset made (resolvents_on (positive v) G)
  same_made = same_resolvents (positive v) _ _ _ _ same_first same_second

  length_map : {X Y : Type 0} (f : X → Y) (xs : List X) → length (map f xs) ≡ length xs
  length_map f [] = refl
  length_map f (x ∷ xs) = ap suc (length_map f xs)

  length_first : length firsts ≡ length (occurrences (positive v) G)
  length_first = sym (length_map (clause_at w.clauses) firsts) ∙ same_length _ _ same_first

  length_second : length seconds ≡ length (occurrences (negative v) G)
  length_second = sym (length_map (clause_at w.clauses) seconds) ∙ same_length _ _ same_second

  -- nothing
  pub not_without : (U : List Literal) → length firsts + length seconds ≡ 0 → goes U G v ≡ false
  not_without U e = ap (λ (b : Bool). not (has_unit_among U G v || not b) && is_bounded (positive v) G) none ∙ passed (has_unit_among U G v)
    where
      none : list_any (mentions (positive v)) G ≡ false
      none = refuted _ (λ h.
          let t = In_any (mentions (positive v)) G h in
          let m = map_In (λ (x : ℕ × List Literal). x.1) w.clauses t.0 t.1 in
          let i : Contains w.clauses (m.0.0, t.0) = subst (λ (c : List Literal). Contains w.clauses (m.0.0, c)) m.2 (In_Contains w.clauses m.0 m.1) in
          elim (or_cases (occurs (positive v) t.0) (occurs (negative v) t.0) t.2) as (λ _. ⊥) [
            | inl o ↦ (let k = first.every m.0.0 t.0 i o in let lt = k.1 in omega arith)
            | inr o ↦ (let k = second.every m.0.0 t.0 i o in let lt = k.1 in omega arith)
          ])

      passed : (b : Bool) → (not (b || true) && is_bounded (positive v) G) ≡ false
      passed true = refl
      passed false = refl

  within_told : (most : ℕ) → most ≡ length firsts + length seconds → within most made ≡ (at_most (length (resolvents_on (positive v) G)) (length (occurrences (positive v) G) + length (occurrences (negative v) G)) && list_all (λ c. at_most (length c) 100) (resolvents_on (positive v) G))
  within_told most e =
      let n : length made ≡ length (resolvents_on (positive v) G) = same_length _ _ same_made in
      let m : most ≡ length (occurrences (positive v) G) + length (occurrences (negative v) G) = e ∙ (λ i. length_first i + length_second i) in
      let s = same_all (λ c. at_most (length c) 100) made (resolvents_on (positive v) G) same_made in
      λ i. at_most (n i) (m i) && s i

  -- too many or too long resolvents
  pub not_beyond : (U : List Literal) (most : ℕ) → most ≡ length firsts + length seconds → within most made ≡ false → goes U G v ≡ false
  not_beyond U most e out = not_unbounded U G v (refuted _ (λ b.
      let p = bounded_parts (positive v) G b in
      true≢false (sym (and_from _ _ p.most p.short) ∙ sym (within_told most e) ∙ out)))

  -- it is to be eliminated
  goes_then : (U : List Literal) (most : ℕ) → most ≡ length firsts + length seconds → within most made ≡ true → has_unit_among U G v ≡ false → 0 < most → goes U G v ≡ true
  goes_then U most e fits free some =
      let p = and_parts (at_most (length (resolvents_on (positive v) G)) (length (occurrences (positive v) G) + length (occurrences (negative v) G))) (list_all (λ c. at_most (length c) 100) (resolvents_on (positive v) G)) (sym (within_told most e) ∙ fits) in
      let bounded = parts_bounded (positive v) G (record {
        first = ap (λ n. at_most n 16) (sym length_first) ∙ first.few;
        second = ap (λ n. at_most n 16) (sym length_second) ∙ second.few;
        most = p.0;
        short = p.1;
      }) in
      λ i. not (free i || not (there i)) && bounded i
    where
      at_first : (l : Literal) (numbers : List ℕ) → AreOccurrences w l numbers → 0 < length numbers → ((c : List Literal) → occurs l c ≡ true → mentions (positive v) c ≡ true) → list_any (mentions (positive v)) G ≡ true
      at_first l [] h lt f = absurd (omega arith)
      at_first l (n ∷ numbers) h lt f =
          let s = h.sound n (In_Contains (n ∷ numbers) n (inl refl)) in
          any_In (mentions (positive v)) G s.0 (In_map (λ (x : ℕ × List Literal). x.1) w.clauses (n, s.0) (Contains_In w.clauses (n, s.0) s.1)) (f s.0 s.2)

      there : list_any (mentions (positive v)) G ≡ true
      there = elim (cases_lt 0 (length firsts)) as (λ _. list_any (mentions (positive v)) G ≡ true) [
        | inl lt ↦ at_first (positive v) firsts first lt (λ c o. or_left _ (occurs (negative v) c) o)
        | inr le ↦ at_first (negative v) seconds second (omega arith) (λ c o. or_right (occurs (positive v) c) _ o)
      ]

  pub stepped_then : (new : WorkState) (most : ℕ) → most ≡ length firsts + length seconds → within most made ≡ true → has_unit_among w.units G v ≡ false → 0 < most → Replaced w new (positive v) firsts made → Stepped w new v
  stepped_then new most e fits free some r =
      let go = goes_then w.units most e fits free some in
      record {
        on = r.on;
        clauses = subst (λ (b : Bool). SameMultiset (lists new.clauses) (cond b (eliminated (positive v) G) G)) (sym go)
            (same_trans _ _ _ r.clauses (same_append (unmentioned (positive v) G) (unmentioned (positive v) G) made (resolvents_on (positive v) G) (same_refl (unmentioned (positive v) G)) same_made));
        lifted = r.lifted;
        taken = subst (λ (b : Bool). IsTaken b v G r.lifted.fixes) (sym go) (record { clauses = map (clause_at w.clauses) firsts; each = same_first; are = r.fixes });
        units = r.units;
      }

  pub was_stepped : (new : WorkState) (most : ℕ) → most ≡ length firsts + length seconds → within most made ≡ true → has_unit_among w.units G v ≡ false → 0 < most
      → (result : Result (Unit {0}) LineStop) → WasReplaced w new (positive v) firsts made result → WasStepped w new v result
  was_stepped new most e fits free some (Ok done) r = stepped_then new most e fits free some r
  was_stepped new most e fits free some (Err stop) r = r

-- One variable after another

taken_alike : (b c : Bool) (v : ℕ) (G H : List (List Literal)) (fixes : List Fix) → b ≡ c → SameMultiset G H → IsTaken b v G fixes → IsTaken c v H fixes
taken_alike true true v G H fixes e s t = record { clauses = t.clauses; each = same_trans _ _ _ t.each (same_filter (occurs (positive v)) G H s); are = t.are }
taken_alike true false v G H fixes e s t = absurd (true≢false e)
taken_alike false true v G H fixes e s t = absurd (true≢false (sym e))
taken_alike false false v G H fixes e s t = t

pub passed_none : (w : WorkState) → w.ended ≡ false → w.output.spent ≡ false → IsWork w → Passed w w 0
passed_none w going unspent kept = record {
  on = goes_self w going unspent kept;
  clauses = same_refl (lists w.clauses);
  lifted = lifted_self w;
  taken = refl;
  units = units_self w;
}

pub passed_more : (start now new : WorkState) (n : ℕ) → Passed start now n → Stepped now new (suc n) → Passed start new (suc n)
passed_more start now new n f g =
    let H = eliminate start.units n (lists start.clauses) in
    let go = goes_alike start now f.units (suc n) in
    let told : goes now.units (lists now.clauses) (suc n) ≡ goes start.units H (suc n) = go ∙ same_goes start.units (suc n) (lists now.clauses) H f.clauses in
    let one : SameMultiset (lists new.clauses) (eliminate_one start.units (lists now.clauses) (suc n)) =
    subst (λ (b : Bool). SameMultiset (lists new.clauses) (cond b (eliminated (positive (suc n)) (lists now.clauses)) (lists now.clauses))) go g.clauses in
    record {
      on = goes_along start now new f.on g.on;
      clauses = same_trans _ _ _ one (same_eliminate_one start.units (suc n) (lists now.clauses) H f.clauses);
      lifted = lifted_along start now new f.lifted g.lifted;
      taken = (f.lifted.fixes, g.lifted.fixes, refl, f.taken, taken_alike _ _ (suc n) (lists now.clauses) H g.lifted.fixes told f.clauses g.taken);
      units = units_along start now new f.units g.units;
    }

pub passed_next : (start now new : WorkState) (v m : ℕ) → 1 ≤ v → m ≡ v → Passed start now (v - 1) → Stepped now new v → Passed start new m
passed_next start now new zero m lo e f g = absurd (omega arith)
passed_next start now new (suc v) m lo e f g = subst (λ k. Passed start new k) (sym e) (passed_more start now new v (subst (λ k. Passed start now k) (let q : suc v - 1 ≡ v = omega arith in q) f) g)

pub stopped_passing : (start now new : WorkState) (n v : ℕ) (stop : LineStop) → Passed start now n → WasStepped now new v (Err stop) → Stops start new stop
stopped_passing start now new n v stop f h = stopped_after start now new stop f.on h

-- Variables that are in no clause

abbrev pub Low : ℕ → List (List Literal) → Type 0
Low h G = (c : List Literal) → In c G → (l : Literal) → In l c → l.var ≤ h

low_one : (U : List Literal) (h v : ℕ) (G : List (List Literal)) → Low h G → Low h (eliminate_one U G v)
low_one U h v G low = by (goes U G v)
  where
    resolvent : (c : List Literal) → In c (resolvents_on (positive v) G) → (l : Literal) → In l c → l.var ≤ h
    resolvent c i l j =
        let t = flat_In (resolved_with (positive v) (occurrences (negative v) G)) (occurrences (positive v) G) c i in
        let f = filter_In is_proper (map (resolved (positive v) t.0) (occurrences (negative v) G)) c t.2 in
        let m = map_In (resolved (positive v) t.0) (occurrences (negative v) G) c f.0 in
        ⊎_elim
        (λ (k : In l t.0). low t.0 (filter_In (occurs (positive v)) G t.0 t.1).0 l k)
        (λ (k : In l m.0). low m.0 (filter_In (occurs (negative v)) G m.0 m.1).0 l k)
        (resolved_parts (positive v) t.0 m.0 l (subst (λ (x : List Literal). In l x) (sym m.2) j))

    by : (b : Bool) → Low h (cond b (eliminated (positive v) G) G)
    by false c i l j = low c i l j
    by true c i l j = ⊎_elim
        (λ (k : In c (unmentioned (positive v) G)). low c (filter_In (λ x. not (mentions (positive v) x)) G c k).0 l j)
        (λ (k : In c (resolvents_on (positive v) G)). resolvent c k l j)
        (In_append (unmentioned (positive v) G) (resolvents_on (positive v) G) c i)

low_all : (U : List Literal) (h n : ℕ) (G : List (List Literal)) → Low h G → Low h (eliminate U n G)
low_all U h zero G low = low
low_all U h (suc n) G low = low_one U h (suc n) (eliminate U n G) (low_all U h n G low)

not_above : (U : List Literal) (h v : ℕ) (G : List (List Literal)) → Low h G → h < v → goes U G v ≡ false
not_above U h v G low lt = ap (λ (b : Bool). not (has_unit_among U G v || not b) && is_bounded (positive v) G) none ∙ passed (has_unit_among U G v)
  where
    of_it : (l : Literal) → l.var ≡ v → (c : List Literal) → In c G → occurs l c ≡ true → ⊥
    of_it l e c i o = let le = low c i l (has_In c l (occurs_parts l c o).0) in omega arith

    none : list_any (mentions (positive v)) G ≡ false
    none = refuted _ (λ m.
        let t = In_any (mentions (positive v)) G m in
        elim (or_cases (occurs (positive v) t.0) (occurs (negative v) t.0) t.2) as (λ _. ⊥) [
          | inl o ↦ of_it (positive v) refl t.0 t.1 o
          | inr o ↦ of_it (negative v) refl t.0 t.1 o
        ])

    passed : (b : Bool) → (not (b || true) && is_bounded (positive v) G) ≡ false
    passed true = refl
    passed false = refl

pub passed_above : (start now : WorkState) (h n : ℕ) → h ≤ n → Low h (lists start.clauses) → Passed start now h → Passed start now n
passed_above start now h zero le low f = subst (λ k. Passed start now k) (let e : h ≡ 0 = omega arith in e) f
passed_above start now h (suc n) le low f =
    elim (cases_lt h (suc n)) as (λ _. Passed start now (suc n)) [
      | inr ge ↦ subst (λ k. Passed start now k) (let e : h ≡ suc n = omega arith in e) f
      | inl lt ↦ one (passed_above start now h n (omega arith) low f) lt
    ]
  where
    one : Passed start now n → h < suc n → Passed start now (suc n)
    one p lt =
        let H = eliminate start.units n (lists start.clauses) in
        let none : goes start.units H (suc n) ≡ false = not_above start.units h (suc n) H (low_all start.units h n (lists start.clauses) low) lt in
        record {
          on = p.on;
          clauses = subst (λ (G : List (List Literal)). SameMultiset (lists now.clauses) G) (sym (one_if_not start.units H (suc n) none)) p.clauses;
          lifted = p.lifted;
          taken = (p.lifted.fixes, [], sym (append-nil p.lifted.fixes), p.taken, subst (λ (b : Bool). IsTaken b (suc n) H []) (sym none) refl);
          units = p.units;
        }

highest_low : (w : WorkState) (h : ℕ) → IsHighest w h → Low h (lists w.clauses)
highest_low w h t c i l j = (All_In (IsOn h) c l (All_In (All (IsOn h)) (lists w.clauses) c t.all i) j).high

pub ends_done : (start now : WorkState) (h : ℕ) → IsHighest start h → Passed start now h → Eliminated start now
ends_done start now h t f =
    let p : Passed start now start.vars = passed_above start now h start.vars t.within (highest_low start h t) f in
    record {
      clauses = p.clauses;
      lifted = p.lifted;
      taken = p.taken;
      units = p.units;
      vars = p.on.vars;
      going = p.on.going;
      unspent = p.on.unspent;
      quiet = p.on.quiet;
    }
