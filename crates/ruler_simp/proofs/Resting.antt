-- What is left can be gone on from.
use Rattle.std.proofs.Common.{Less, None, ◌≡◌, ◌∙◌, ◌⊎◌, ℕ, zero, suc, ◌+◌, ◌<◌, ◌≤◌, ◌||◌, cond, Bool, true, false, List, [], ◌∷◌, ◌++◌, map, length, get_or, Option, Some, refl, sym, ap, subst, inl, inr, arith, length-append, append-nil, ⊎_elim, Contains}
use Rattle.std.specs.Prelude.{Ok}
use Rattle.std.specs.List.{list_any, All, AllByRecursion, range_with_len}
use Rattle.std.specs.Ordering.{nat_cmp}
use Rattle.std.specs.Option.{option_and_then, option_map}
use Rattle.std.proofs.lemmas.Bool.{or_parts}
use Rattle.std.proofs.lemmas.Bool.Decides.{nat_tests}
use Rattle.std.proofs.lemmas.List.Elements.{All-append}
use Rattle.std.proofs.lemmas.List.Folds.{list_any-append}
use Rattle.std.specs.List.Sorted.{IsStrictlySortedBy}
use Rattle.sat_words.specs.Formats.{has_hints}
use Rattle.sat_words.specs.Literal.{Literal, IsOn}
use Rattle.sat_words.specs.Clause.{has, same_set, is_empty, distinct_lits, clause_of}
use Rattle.sat_words.specs.FormulaData.{FormulaData}
use Rattle.rup_model.specs.declared.journal.Entry.{Entry}
use Rattle.rup_model.specs.declared.journal.Entry.TheVariants.{Round}
use Rattle.rup_model.specs.Journal.{book, added, is_told, LogSound}
use Rattle.rup_model.specs.NumberedLines.{AreHinted}
use Rattle.rup_model.specs.Opening.{Start, AreAscending, start_at, program_opening}
use Rattle.rup_model.proofs.Lists.{In, In_map, map_In, In_append_left, In_append_right, Contains_In, In_Contains}
use Rattle.rup_model.proofs.Additions.{added-append}
use Rattle.rup_model.proofs.ProgramOpening.{program_ascends}
use Rattle.model_stack.specs.declared.stack.Fix.{Fix}
use Rattle.drat_text.specs.LineState.{LineState}
use Rattle.simp_base.specs.WorkState.{HaveOwnNumbers, IsFixOn, unit_cells, unit_lits}
use Rattle.simp_base.specs.Parts.{takes_part}
use Rattle.simp_base.specs.Resumed.{Resumes}
use Rattle.simp_base.proofs.Lists.{All_In, In_All, Contains_left}
use Rattle.simp_base.proofs.Widening.{each_on_wider}
use Rattle.ruler_simp.specs.declared.ruling.Simplified.{Simplified}
use Rattle.ruler_simp.specs.declared.ruling.Outcome.TheVariants.{Simplified as LeftOver}
use Rattle.ruler_simp.specs.declared.rounds.Schedule.{Schedule}
use Rattle.ruler_simp.specs.Left.{start_of}
use Rattle.ruler_simp.specs.Ruled.{HaveUnitNumbers, Ruled}
use Rattle.ruler_simp.specs.Again.{ResumesAs, round_start, before_round, RuledAgain}
use Rattle.ruler_simp.proofs.Numbered.{Cell}
use Rattle.ruler_simp.proofs.UnitCells.{own_together, held_together, alone_together, held_after}
use Rattle.ruler_simp.proofs.Units.{In_filter_map, filter_map_In, opened_unit}
use Rattle.ruler_simp.proofs.Leaving.{good}
use Rattle.simp_base.specs.WorkState.{WorkState}

-- Numbers that rise differ

above_all : (k : ℕ) (xs : List Cell) → AllByRecursion (λ y. nat_cmp k y ≡ Less) (map (λ (x : Start). x.number) (map start_of xs)) → (j : ℕ) (d : Cell) → j < length xs → nat_cmp k (get_or xs j d).0 ≡ Less
above_all k [] all j d lt = absurd (omega arith)
above_all k (x ∷ xs) all zero d lt = all.0
above_all k (x ∷ xs) all (suc j) d lt = above_all k xs all.1 j d (omega arith)

not_itself : (a b : ℕ) → nat_cmp a b ≡ Less → a ≡ b → ⊥
not_itself a b e q = grind (arith, nat_tests)

own_numbers : (xs : List Cell) → AreAscending (map start_of xs) → HaveOwnNumbers xs
unfolding IsStrictlySortedBy
own_numbers [] up i j d ij jl q = absurd (omega arith)
own_numbers (x ∷ xs) up i zero d ij jl q = absurd (omega arith)
own_numbers (x ∷ xs) up zero (suc j) d ij jl q = not_itself x.0 (get_or xs j d).0 (above_all x.0 xs up.0 j d (omega arith)) q
own_numbers (x ∷ xs) up (suc i) (suc j) d ij jl q = own_numbers xs up.1 i j d (omega arith) (omega arith) q

-- Parts of lists

All-left : {X : Type 0} (P : X → Type 0) (xs ys : List X) → All P (xs ++ ys) → All P xs
All-left P xs ys all = In_All P xs (λ x i. All_In P (xs ++ ys) x all (In_append_left xs ys x i))

All-right : {X : Type 0} (P : X → Type 0) (xs ys : List X) → All P (xs ++ ys) → All P ys
All-right P xs ys all = In_All P ys (λ x i. All_In P (xs ++ ys) x all (In_append_right xs ys x i))

-- Start clauses

In_range : (a k n : ℕ) → a ≤ n → n < a + k → In n (range_with_len a k)
In_range a zero n lo hi = absurd (omega arith)
In_range a (suc k) n lo hi = ⊎_elim (λ (e : a ≡ n). inl e) (λ (lt : a + 1 ≤ n). inr (In_range (a + 1) k n lt (omega arith))) (either a n lo)
  where
    either : (b m : ℕ) → b ≤ m → (b ≡ m) ⊎ (b + 1 ≤ m)
    either zero zero le = inl refl
    either zero (suc m) le = inr (omega arith)
    either (suc b) zero le = absurd (omega arith)
    either (suc b) (suc m) le = ⊎_elim (λ (e : b ≡ m). inl (ap suc e)) (λ (h : b + 1 ≤ m). inr (omega arith)) (either b m (omega arith))

-- what stands under a number of a start clause
taken_held : (n : ℕ) (q : Option (List Literal)) (x : Start) → option_and_then (λ d. cond (takes_part d) (Some (record { number = n; lits = clause_of d })) None) q ≡ Some x → (x.number ≡ n) × (option_map clause_of q ≡ Some x.lits)
taken_held n None x e = absurd (let no : ⊥ = cc in no)
taken_held n (Some d) x e = by (takes_part d) e
  where
    by : (t : Bool) → cond t (Some (record { number = n; lits = clause_of d })) None ≡ Some x → (x.number ≡ n) × (Some (clause_of d) ≡ Some x.lits)
    by true q = let same_x : record { number = n; lits = clause_of d } ≡ x = cc in (sym (ap (λ (y : Start). y.number) same_x), ap (λ (y : Start). Some y.lits) same_x)
    by false q = absurd (let no : ⊥ = cc in no)

module _ (F : List (List Literal)) (K : List Entry) (cells : List Cell) (starts : map start_of cells ≡ (program_opening F K).starts) where
  start_held : (n : ℕ) (c : List Literal) → Contains cells (n, c) → option_map clause_of ((book F K).clause n) ≡ Some c
  start_held n c h =
      let i = In_map start_of cells (n, c) (Contains_In cells (n, c) h) in
      let t = filter_map_In (start_at (book F K)) (range_with_len 1 (length (F ++ added K))) (start_of (n, c)) (subst (λ (ss : List Start). In (start_of (n, c)) ss) starts i) in
      let u = taken_held t.0 ((book F K).clause t.0) (start_of (n, c)) t.2 in
      ap (λ (m : ℕ). option_map clause_of ((book F K).clause m)) u.0 ∙ u.1

  all_starts : (n : ℕ) (c : List Literal) → (book F K).clause n ≡ Some c → takes_part c ≡ true → 1 ≤ n → n < 1 + length (F ++ added K) → Contains cells (n, clause_of c)
  all_starts n c is part lo hi =
      let one : start_at (book F K) n ≡ Some (record { number = n; lits = clause_of c }) =
      ap (λ o. option_and_then (λ d. cond (takes_part d) (Some (record { number = n; lits = clause_of d })) None) o) is ∙ ap (λ t. cond t (Some (record { number = n; lits = clause_of c })) None) part in
      let i = In_filter_map (start_at (book F K)) (range_with_len 1 (length (F ++ added K))) n (record { number = n; lits = clause_of c }) (In_range 1 (length (F ++ added K)) n lo hi) one in
      let t = map_In start_of cells (record { number = n; lits = clause_of c }) (subst (λ (ss : List Start). In (record { number = n; lits = clause_of c }) ss) (sym starts) i) in
      subst (λ (x : Cell). Contains cells x) (λ j. ((t.2 j).number, (t.2 j).lits)) (In_Contains cells t.0 t.1)

-- A journal after which they are those of the program's opening

module _ (F : List (List Literal)) (K : List Entry) (vars : ℕ) (cells : List Cell) (units : List (Literal × ℕ)) (stack : List Fix) (out : LineState)
    (sound : LogSound F K) (none : list_any is_empty F ≡ false) (unended : list_any is_empty (added K) ≡ false)
    (starts : map start_of cells ≡ (program_opening F K).starts)
    (long : All (λ (x : Start). 2 ≤ length x.lits) (map start_of cells)) (numbered : HaveUnitNumbers (book F K) units)
    (told : All (λ l. is_told F K l ≡ true) (unit_lits units)) (are : (l : Literal) → has (unit_lits units) l ≡ has (program_opening F K).units l) (distinct : distinct_lits (unit_lits units) ≡ true)
    (formula_on : All (All (IsOn vars)) F) (added_on : All (All (IsOn vars)) (added K)) (stack_on : All (IsFixOn vars) stack)
    (entries : out.entries ≡ length K) (last : (book F K).next ≡ out.last + 1) (hinted : has_hints out.format ≡ true → AreHinted F K) where
  long_cells : All (λ (x : Cell). 2 ≤ length x.1) cells
  long_cells = In_All (λ (x : Cell). 2 ≤ length x.1) cells (λ x i. All_In (λ (y : Start). 2 ≤ length y.lits) (map start_of cells) (start_of x) long (In_map start_of cells x i))

  pub resumes : Resumes F vars (cells ++ unit_cells units) units stack out K
  resumes = record {
    sound = sound;
    hinted = hinted;
    going = list_any-append is_empty F (added K) ∙ (λ i. none i || unended i);
    numbers = own_together (book F K) cells units numbered distinct (start_held F K cells starts) long_cells (own_numbers cells (subst AreAscending (sym starts) (program_ascends F K)));
    held = held_together (book F K) cells units numbered distinct (start_held F K cells starts) long_cells;
    all = λ n c is part. (
        let t = good F K none unended n c is in
        let m = length-append F (added K) in
        Contains_left cells (unit_cells units) (n, clause_of c) (all_starts F K cells starts n c is part t.0 (let lt = t.1 in omega arith)));
    alone = alone_together (book F K) cells units numbered distinct (start_held F K cells starts) long_cells;
    told = told;
    every = λ l t. are l ∙ opened_unit F K l t;
    distinct = distinct;
    units_held = held_after cells units;
    on = All-append (All (IsOn vars)) F (added K) formula_on added_on;
    stack_on = stack_on;
    entries = entries;
    last = last;
  }

pub left_resumes : (F : FormulaData) (schedule : Schedule) (old new : LineState) (s : Simplified) → All (All (IsOn F.vars)) F.clauses → (was : Ruled F schedule old new (Ok (LeftOver s)))
    → Resumes F.clauses s.vars (s.start.items ++ unit_cells s.units.items) s.units.items s.stack new was.journal
left_resumes F schedule old new s on was =
    let h = was.answer.0 in
    let out : new ≡ was.work.output = was.output in
    let wide : F.vars ≤ s.vars = (let v = was.has_vars in let m = was.more in omega arith) in
    resumes F.clauses was.journal s.vars s.start.items s.units.items s.stack new
    was.stands.sound h.going h.opens.rulers_part.going h.starts (λ k d lt. (h.opens.starts k d lt).shape.long) h.numbered h.opens.told h.units h.opens.distinct
    (each_on_wider F.vars s.vars wide F.clauses on)
    (subst (λ (v : ℕ). All (All (IsOn v)) (added was.journal)) (sym was.has_vars) was.stands.on)
    h.on.stack
    (ap (λ (x : LineState). x.entries) out ∙ was.stands.lines.entries)
    (was.stands.lines.last ∙ ap (λ (x : LineState). x.last + 1) (sym out))
    (λ h. was.stands.hinted (ap (λ (x : LineState). has_hints x.format) (sym out) ∙ h))

pub left_resumes_again : (F : List (List Literal)) (schedule : Schedule) (start : WorkState) (new : LineState) (s : Simplified) (was : RuledAgain F schedule start new (Ok (LeftOver s))) (J : List Entry) → ResumesAs F start J
    → Resumes F s.vars (s.start.items ++ unit_cells s.units.items) s.units.items s.stack new (J ++ was.entries)
left_resumes_again F schedule start new s was J r =
    let h = (was.answer J r).0 in
    let st = was.stands J r in
    let out : new ≡ was.work.output = was.output in
    let same : added (before_round (J ++ was.entries) s) ≡ added (J ++ was.entries) = added-append (J ++ was.entries) (Round (round_start s) ∷ []) ∙ append-nil (added (J ++ was.entries)) in
    let wide : start.vars ≤ s.vars = (let v = was.has_vars in let m = was.more in omega arith) in
    let parts = or_parts (list_any is_empty F) (list_any is_empty (added J)) (sym (list_any-append is_empty F (added J)) ∙ r.2.going) in
    resumes F (J ++ was.entries) s.vars s.start.items s.units.items s.stack new
    st.sound parts.0 (ap (list_any is_empty) (sym same) ∙ h.opens.going) h.starts (λ k d lt. (h.opens.starts k d lt).shape.long) h.numbered
    (λ k d lt. ap (λ (G : List (List Literal)). list_any (same_set (get_or (unit_lits s.units.items) k d ∷ [])) (F ++ G)) (sym same) ∙ h.opens.told k d lt)
    h.units h.opens.distinct
    (each_on_wider start.vars s.vars wide F (All-left (All (IsOn start.vars)) F (added J) r.2.on))
    (subst (λ (G : List (List Literal)). All (All (IsOn s.vars)) G) (sym (added-append J was.entries))
    (All-append (All (IsOn s.vars)) (added J) (added was.entries) (each_on_wider start.vars s.vars wide (added J) (All-right (All (IsOn start.vars)) F (added J) r.2.on))
    (subst (λ (v : ℕ). All (All (IsOn v)) (added was.entries)) (sym was.has_vars) st.on)))
    h.on.stack
    (ap (λ (x : LineState). x.entries) out ∙ st.lines.entries)
    (st.lines.last ∙ ap (λ (x : LineState). x.last + 1) (sym out))
    (λ h. st.hinted (ap (λ (x : LineState). has_hints x.format) (sym out) ∙ h))
