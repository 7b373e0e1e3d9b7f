-- What a closed table leaves can be gone on with: its cells and units are all that is alive, and the start clauses stay.
use Rattle.portfolio_run.proofs.Deleting.{two_long}
use Rattle.ruler_simp.proofs.UnitCells.{own_together, held_together, alone_together, held_after}
use Rattle.ruler_simp.specs.Ruled.{HaveUnitNumbers}
use Rattle.share_core.specs.State.{ArePaired, unit_numbers}
use Rattle.portfolio_run.proofs.UnitPairs.{numbered_of}
use Rattle.std.proofs.Common.{Less, None, ◌≡◌, ◌∙◌, ◌⊎◌, ◌<◌, ◌≤◌, ◌+◌, ◌||◌, ◌==◌, ℕ, zero, suc, Bool, true, false, not, cond, List, [], ◌∷◌, ◌++◌, map, filter, length, All, Contains, Option, Some, refl, sym, ap, subst, inl, inr, ⊎_elim, arith, append_assoc, append-nil, length-append}
use Rattle.std.specs.Prelude.{nat_lt}
use Rattle.std.specs.List.{list_any, fold, AllByRecursion, range_with_len}
use Rattle.std.specs.List.Sorted.{IsStrictlySortedBy}
use Rattle.std.specs.Option.{option_map, option_and_then}
use Rattle.std.specs.Ordering.{nat_cmp}
use Rattle.std.proofs.lemmas.Bool.{true≢false, or_left, or_cases, and_parts}
use Rattle.std.proofs.lemmas.Bool.Decides.{nat_tests}
use Rattle.std.proofs.lemmas.List.{get_or-map, length-map}
use Rattle.std.proofs.lemmas.List.Folds.{list_any-append}
use Rattle.std.proofs.lemmas.List.Sums.{fold-append}
use Rattle.std.proofs.lemmas.Map.Keys.{below_from_sorted}
use Rattle.sat_words.specs.Formats.{has_hints}
use Rattle.sat_words.specs.Literal.{Literal, IsOn, same}
use Rattle.sat_words.specs.Clause.{has, same_set, is_empty, distinct_lits, has_opposites, two_or_more, clause_of}
use Rattle.sat_words.specs.FormulaData.{FormulaData}
use Rattle.sat_words.specs.Truth.{clause_true}
use Rattle.sat_words.proofs.Insertion.{clause_of_in_order, InOrder-clause_of}
use Rattle.rup_model.specs.declared.journal.TheConstants.{RULER_RING}
use Rattle.rup_model.specs.declared.journal.Entry.{Entry}
use Rattle.rup_model.specs.declared.journal.Entry.TheVariants.{Round}
use Rattle.rup_model.specs.Journal.{ring_of, Book, formula_book, book_after, book, added, is_told, LogSound}
use Rattle.rup_model.specs.NumberedLines.{AreHinted}
use Rattle.rup_model.specs.Opening.{Start, start_at}
use Rattle.rup_model.proofs.Additions.{added-append}
use Rattle.rup_model.proofs.Lists.{In, all_In, In_all, In_append, In_append_left, In_append_right, In_map, map_In, In_has, Contains_In, In_Contains}
use Rattle.rup_model.proofs.Numbers.{book_last}
use Rattle.rup_model.proofs.Respelling.{respelled_from}
use Rattle.rup_model.proofs.Units.{long_two}
use Rattle.model_stack.specs.Extend.{Lifts}
use Rattle.drat_text.specs.LineState.{LineState}
use Rattle.share_core.specs.declared.part.CoreOpening.{CoreOpening}
use Rattle.share_core.specs.declared.stored.Cell.{Cell}
use Rattle.share_core.specs.declared.stored.ClauseAt.{ClauseAt}
use Rattle.share_core.specs.State.{State, opened}
use Rattle.share_core.specs.Sound.{Sound, AllInCells}
use Rattle.share_core.proofs.Others.{run_units}
use Rattle.share_rule.specs.declared.Layout.{Layout}
use Rattle.share_rule.specs.declared.rests.Rest.{Rest}
use Rattle.share_rule.specs.declared.view.View.{View}
use Rattle.share_rule.specs.FirstWords.{starts_at, begun_with}
use Rattle.share_rule.specs.Layout.{first_cell}
use Rattle.share_rule.specs.Passes.{IsWhole}
use Rattle.share_rule.specs.Rests.{rest_of, IsRest, AreRests, AreListed}
use Rattle.share_rule.specs.Seen.{Seen}
use Rattle.clause_cell.specs.Packing.{words_for}
use Rattle.simp_base.specs.WorkState.{HaveOwnNumbers, lists, unit_clauses, unit_cells, unit_lits, known, resumed}
use Rattle.simp_base.specs.Parts.{takes_part}
use Rattle.simp_base.specs.Resumed.{Resumes}
use Rattle.simp_base.proofs.Filters.{In_filter, filter_In}
use Rattle.simp_base.proofs.Lists.{All_In, In_All}
use Rattle.simp_base.proofs.Order.{part_in_order, two_in_order}
use Rattle.ruler_simp.specs.declared.ruling.Simplified.{Simplified}
use Rattle.ruler_simp.specs.Again.{round_start, before_round}
use Rattle.ruler_simp.specs.Left.{start_of, left_clauses}
use Rattle.ruler_simp.proofs.Leaving.{good}
use Rattle.ruler_simp.proofs.Units.{In_filter_map, filter_map_In, opened_unit}
use Rattle.core_rounds.specs.Rounds.{RoundRun}
use Rattle.ring_run.specs.declared.job.Counts.{Counts}
use Rattle.ring_run.specs.declared.job.End.{End}
use Rattle.portfolio_run.specs.declared.plan.Plan.{Plan}
use Rattle.portfolio_run.specs.Journaled.{IsUnrefuted}
use Rattle.portfolio_run.specs.Pauses.{IsLeft}
use Rattle.portfolio_run.specs.Reached.{RanAt}
use Rattle.portfolio_run.specs.Resumed.{is_dropped, cell_of, dropped_of, kept_of}
use Rattle.portfolio_run.specs.Rulings.{AreDropped}
use Rattle.portfolio_run.specs.Seats.{IsSettled}
use Rattle.portfolio_run.proofs.Keeping.{were_alive, start_cell}
use Rattle.portfolio_run.proofs.Mending.{placed_numbers}
use Rattle.portfolio_run.proofs.Settled.{sound, since, units_listed}

abbrev Pair : Type 0
Pair = ℕ × List Literal

-- Numbers

below_or : (n m : ℕ) → (n < m) ⊎ (m ≤ n)
below_or zero zero = inr (omega arith)
below_or zero (suc m) = inl (omega arith)
below_or (suc n) zero = inr (omega arith)
below_or (suc n) (suc m) = ⊎_elim (λ (lt : n < m). inl (omega arith)) (λ (le : m ≤ n). inr (omega arith)) (below_or n m)

In_range : (a k n : ℕ) → a ≤ n → n < a + k → In n (range_with_len a k)
In_range a zero n low high = absurd (omega arith)
In_range a (suc k) n low high = ⊎_elim (λ (lt : a < n). inr (In_range (a + 1) k n (omega arith) (omega arith))) (λ (le : n ≤ a). inl (omega arith)) (below_or a n)

-- clauses in order of number have numbers of their own
own_numbers : (ps : List Pair) → IsStrictlySortedBy nat_cmp (map (λ (p : Pair). p.0) ps) → HaveOwnNumbers ps
own_numbers ps up i j d ij jl same_number =
    let first = get_or-map (λ (p : Pair). p.0) ps i d d.0 (omega arith) in
    let second = get_or-map (λ (p : Pair). p.0) ps j d d.0 jl in
    let many = length-map ps (λ (p : Pair). p.0) in
    let less = below_from_sorted (map (λ (p : Pair). p.0) ps) i j d.0 up ij (omega arith) in
    omega (arith, first, second, less, same_number)

numbers_same : (rs : List Rest) → map (λ (p : Pair). p.0) (map cell_of rs) ≡ map (λ (r : Rest). r.number) rs
numbers_same [] = refl
numbers_same (r ∷ rs) = ap (λ (ns : List ℕ). r.number ∷ ns) (numbers_same rs)

-- those that pass a test are in order too
each_above : (P : ℕ → Type 0) (p : Rest → Bool) (rs : List Rest) → AllByRecursion P (map (λ (r : Rest). r.number) rs) → AllByRecursion P (map (λ (r : Rest). r.number) (filter p rs))
each_above P p [] all = tt
each_above P p (r ∷ rs) all = by (p r) (each_above P p rs all.1)
  where
    by : (t : Bool) → AllByRecursion P (map (λ (x : Rest). x.number) (filter p rs)) → AllByRecursion P (map (λ (x : Rest). x.number) (cond t (r ∷ filter p rs) (filter p rs)))
    by true rest = (all.0, rest)
    by false rest = rest

filtered_ascend : (p : Rest → Bool) (rs : List Rest) → IsStrictlySortedBy nat_cmp (map (λ (r : Rest). r.number) rs) → IsStrictlySortedBy nat_cmp (map (λ (r : Rest). r.number) (filter p rs))
unfolding IsStrictlySortedBy
filtered_ascend p [] up = tt
filtered_ascend p (r ∷ rs) up = by (p r) (filtered_ascend p rs up.1)
  where
    by : (t : Bool) → IsStrictlySortedBy nat_cmp (map (λ (x : Rest). x.number) (filter p rs)) → IsStrictlySortedBy nat_cmp (map (λ (x : Rest). x.number) (cond t (r ∷ filter p rs) (filter p rs)))
    by true rest = (each_above (λ n. nat_cmp r.number n ≡ Less) p rs up.0, rest)
    by false rest = rest

-- Start clauses

-- what the program's opening lists of a clause is in order
in_order : (n : ℕ) (q : Option (List Literal)) (x : Start) → option_and_then (λ d. cond (takes_part d) (Some (record { number = n; lits = clause_of d })) None) q ≡ Some x → clause_of x.lits ≡ x.lits
in_order n None x e = absurd (let no : ⊥ = cc in no)
in_order n (Some d) x e = by (takes_part d) e
  where
    by : (t : Bool) → cond t (Some (record { number = n; lits = clause_of d })) None ≡ Some x → clause_of x.lits ≡ x.lits
    by true is = let same_start : record { number = n; lits = clause_of d } ≡ x = cc in subst (λ (y : Start). clause_of y.lits ≡ y.lits) same_start (clause_of_in_order (clause_of d) (InOrder-clause_of d))
    by false is = absurd (let no : ⊥ = cc in no)

-- each of them stands at an address
placed_In : (k : ℕ) (ps : List Pair) (p : Pair) → In p ps → (x : ClauseAt) × In x (starts_at k ps) × (x.number ≡ p.0) × (x.lits ≡ p.1)
placed_In k [] p i = absurd i
placed_In k (q ∷ ps) p (inl e) = (record { address = k; number = q.0; lits = q.1 }, inl refl, ap (λ (x : Pair). x.0) e, ap (λ (x : Pair). x.1) e)
placed_In k (q ∷ ps) p (inr i) = let t = placed_In (k + words_for (length q.1)) ps p i in (t.0, inr t.1, t.2, t.3)

module _ (F : FormulaData) (left : Simplified) (J0 : List Entry) (h : IsLeft F J0 left) where
  start_in_order : (p : Pair) → In p left.start.items → clause_of p.1 ≡ p.1
  start_in_order p i =
      let b : Book = book F.clauses J0 in
      let t = filter_map_In (start_at b) (range_with_len 1 (length (F.clauses ++ added J0))) (start_of p) (subst (λ (ss : List Start). In (start_of p) ss) h.starts (In_map start_of left.start.items p i)) in
      in_order t.0 (b.clause t.0) (start_of p) t.2

  -- what is alive before the round and takes part is a start clause
  is_start : (n : ℕ) (d : List Literal) → (book F.clauses J0).clause n ≡ Some d → takes_part d ≡ true → Contains (map (λ (p : Pair). p.0) left.start.items) n
  is_start n d is part =
      let b : Book = book F.clauses J0 in
      let x : Start = record { number = n; lits = clause_of d } in
      let t = good F.clauses J0 h.whole h.going n d is in
      let high : n < 1 + length (F.clauses ++ added J0) = (let lt = t.1 in let m = length-append F.clauses (added J0) in omega arith) in
      let one : start_at b n ≡ Some x = ap (λ (o : Option (List Literal)). option_and_then (λ c. cond (takes_part c) (Some (record { number = n; lits = clause_of c })) None) o) is ∙ ap (λ (u : Bool). cond u (Some x) None) part in
      let i = In_filter_map (start_at b) (range_with_len 1 (length (F.clauses ++ added J0))) n x (In_range 1 (length (F.clauses ++ added J0)) n t.0 high) one in
      let u = map_In start_of left.start.items x (subst (λ (ss : List Start). In x ss) (sym h.starts) i) in
      subst (λ (m : ℕ). Contains (map (λ (p : Pair). p.0) left.start.items) m) (ap (λ (y : Start). y.number) u.2)
      (In_Contains (map (λ (p : Pair). p.0) left.start.items) u.0.0 (In_map (λ (p : Pair). p.0) left.start.items u.0 u.1))

  -- and as the round begins
  started : (n : ℕ) (c : List Literal) → (book F.clauses (before_round J0 left)).clause n ≡ Some c → takes_part c ≡ true → Contains (map (λ (p : Pair). p.0) left.start.items) n
  started n c is part =
      ⊎_elim (λ (there : (book F.clauses J0).clause n ≡ Some c). is_start n c there part)
      (λ (t : (list_any (λ (m : ℕ). m == n) (round_start left).starts ≡ true) × (d : List Literal) × ((book F.clauses J0).clause n ≡ Some d) × (clause_of d ≡ c)). is_start n t.1 t.2 (sym (part_in_order t.1) ∙ ap takes_part t.3 ∙ part))
      (respelled_from (round_start left).starts (book F.clauses J0).clause n c (sym (ap (λ (b : Book). b.clause n) (book_last F.clauses J0 (Round (round_start left)))) ∙ is))

-- Units

told_parts : (F : List (List Literal)) (J K : List Entry) (l : Literal) → is_told F (J ++ K) l ≡ true → (is_told F J l ≡ true) ⊎ (list_any (same_set (l ∷ [])) (added K) ≡ true)
told_parts F J K l t =
    let p : List Literal → Bool = same_set (l ∷ []) in
    let e : list_any p (F ++ added (J ++ K)) ≡ list_any p (F ++ added J) || list_any p (added K) =
    ap (λ (G : List (List Literal)). list_any p (F ++ G)) (added-append J K) ∙ ap (list_any p) (sym (append_assoc F (added J) (added K))) ∙ list_any-append p (F ++ added J) (added K) in
    or_cases (is_told F J l) (list_any p (added K)) (sym e ∙ t)

-- nothing is less than 0
none_less : (n : ℕ) → nat_lt n 0 ≡ false
none_less n = grind (arith, nat_tests)

-- The table

module _ (F : FormulaData) (left : Simplified) (l : Layout) (hinted : Bool) (J0 : List Entry) (h : IsLeft F J0 left) (w : View) (s : Seen w)
    (opening_is : s.core.opening ≡ begun_with F.clauses l hinted (before_round J0 left) left.start.items left.units.items) (whole : IsWhole w) (settled : All IsSettled w.parts)
    (rests : List Rest) (units : List (Literal × ℕ)) (told : AreRests s.core s.glue rests) (listed : AreListed s.core units) where
  abbrev J : List Entry
  J = s.core.journal

  abbrev core : Sound s.core
  core = sound w s whole settled

  formula_is : s.core.opening.formula ≡ F.clauses
  formula_is = ap (λ (o : CoreOpening). o.formula) opening_is

  -- the entries of the rings
  abbrev K : List Entry
  K = since w s whole settled

  journal_is : J ≡ before_round J0 left ++ K
  journal_is = core.log.begins.1 ∙ ap (λ (o : CoreOpening). o.journal ++ K) opening_is

  log : LogSound F.clauses J
  log = subst (λ (G : List (List Literal)). LogSound G J) formula_is core.log.log

  -- Cells

  alive : (a : ℕ) (x : Cell) → s.core.cell a ≡ Some x → (book F.clauses J).clause x.number ≡ Some x.lits
  alive a x e = subst (λ (G : List (List Literal)). (book G J).clause x.number ≡ Some x.lits) formula_is (core.cells.alive a x e)

  -- the cell of what is told
  cell_at : (r : Rest) → In r rests → IsRest s.core s.glue r
  cell_at r i = All_In (IsRest s.core s.glue) rests r told.only i

  -- what is told of a cell
  told_at : (a : ℕ) (x : Cell) → s.core.cell a ≡ Some x → In (rest_of s.glue x) rests
  told_at a x e = Contains_In rests (rest_of s.glue x) (told.told a x e)

  held : (n : ℕ) (c : List Literal) → Contains (map cell_of rests) (n, c) → option_map clause_of ((book F.clauses J).clause n) ≡ Some c
  held n c there =
      let t = map_In cell_of rests (n, c) (Contains_In (map cell_of rests) (n, c) there) in
      let y = cell_at t.0 t.1 in
      subst (λ (q : Pair). option_map clause_of ((book F.clauses J).clause q.0) ≡ Some q.1) (sym (ap cell_of y.3) ∙ t.2) (ap (option_map clause_of) (alive y.0 y.1 y.2))

  in_cells : (n : ℕ) (c : List Literal) → Contains (map (λ (p : Pair). p.0) left.start.items) n ⊎ ((book F.clauses (before_round J0 left)).next ≤ n)
      → (book F.clauses J).clause n ≡ Some c → takes_part c ≡ true → Contains (map cell_of rests) (n, clause_of c)
  in_cells n c shared is part =
      let all : AllInCells (begun_with F.clauses l hinted (before_round J0 left) left.start.items left.units.items) J s.core.cell = subst (λ (o : CoreOpening). AllInCells o J s.core.cell) opening_is core.whole in
      let numbers = placed_numbers (first_cell l) left.start.items in
      let t = all n c (⊎_elim (λ (k : Contains (map (λ (p : Pair). p.0) left.start.items) n). inl (subst (λ (ns : List ℕ). Contains ns n) (sym numbers) k)) (λ (k : (book F.clauses (before_round J0 left)).next ≤ n). inr k) shared) is (and_parts (two_or_more c) (not (has_opposites c)) part).0 in
      let both : Some t.1.lits ≡ Some c = sym (alive t.0 t.1 t.2) ∙ ap (λ (m : ℕ). (book F.clauses J).clause m) t.3 ∙ is in
      let lits : t.1.lits ≡ c = cc in
      let there : Contains (map cell_of rests) (t.1.number, clause_of t.1.lits) = In_Contains (map cell_of rests) (t.1.number, clause_of t.1.lits) (In_map cell_of rests (rest_of s.glue t.1) (told_at t.0 t.1 t.2)) in
      subst (λ (q : Pair). Contains (map cell_of rests) q) (λ i. (t.3 i, clause_of (lits i))) there

  book_is : book F.clauses J ≡ fold book_after (book F.clauses (before_round J0 left)) K
  book_is = ap (book F.clauses) journal_is ∙ fold-append book_after (formula_book F.clauses) (before_round J0 left) K

  all_cells : (n : ℕ) (c : List Literal) → (book F.clauses J).clause n ≡ Some c → takes_part c ≡ true → Contains (map cell_of rests) (n, clause_of c)
  all_cells n c is part = ⊎_elim
      (λ (lt : n < (book F.clauses (before_round J0 left)).next). in_cells n c (inl (started F left J0 h n c
      (were_alive (book F.clauses (before_round J0 left)) K n c of_rings lt (sym (ap (λ (b : Book). b.clause n) book_is) ∙ is)) part)) is part)
      (λ (le : (book F.clauses (before_round J0 left)).next ≤ n). in_cells n c (inr le) is part)
      (below_or n (book F.clauses (before_round J0 left)).next)
    where
      of_rings : All (λ e. ring_of e < RULER_RING) K
      of_rings k d lt = (let less = core.log.begins.2 k d lt in let few = core.opens.few_rings in omega (arith, less, few))

  -- each of them has two literals or more
  pub rests_long : All (λ r. two_or_more r.clause ≡ true) rests
  rests_long = In_All (λ (r : Rest). two_or_more r.clause ≡ true) rests (λ r i.
      let y = cell_at r i in
      ap (λ (x : Rest). two_or_more x.clause) y.3 ∙ two_in_order y.1.lits ∙ long_two y.1.lits (core.cells.shape y.0 y.1 y.2))

  -- Units

  units_are : unit_lits units ≡ s.core.units
  units_are = listed.units

  grown : (more : List Literal) × (unit_lits units ≡ unit_lits left.units.items ++ more)
  grown =
      let t = run_units s.left.events (opened s.core.opening) in
      (t.0, units_are ∙ ap (λ (c : State). c.units) (sym s.left.leaves) ∙ t.1 ∙ ap (λ (o : CoreOpening). o.units ++ t.0) opening_is)

  unit_stays : (k : Literal) → has (unit_lits left.units.items) k ≡ true → has (unit_lits units) k ≡ true
  unit_stays k e = ap (λ (ls : List Literal). has ls k) grown.1 ∙ list_any-append (same k) (unit_lits left.units.items) grown.0 ∙ or_left (has (unit_lits left.units.items) k) (has grown.0 k) e

  every : (k : Literal) → is_told F.clauses J k ≡ true → has (unit_lits units) k ≡ true
  every k t = ⊎_elim
      (λ (old : is_told F.clauses (before_round J0 left) k ≡ true). unit_stays k (h.units k ∙ opened_unit F.clauses J0 k (ap (λ (G : List (List Literal)). list_any (same_set (k ∷ [])) (F.clauses ++ G)) (sym (added-append J0 (Round (round_start left) ∷ []) ∙ append-nil (added J0))) ∙ old)))
      (λ (new : list_any (same_set (k ∷ [])) (added K) ≡ true). ap (λ (ls : List Literal). has ls k) units_are ∙ units_listed w s whole settled k new)
      (told_parts F.clauses (before_round J0 left) K k (ap (λ (I : List Entry). is_told F.clauses I k) (sym journal_is) ∙ t))

  numbered : HaveUnitNumbers (book F.clauses J) units
  numbered = numbered_of (book F.clauses J) units
      (subst (λ (y : List (List Literal) × (List Literal × List ℕ)). ArePaired (book y.0 J) y.1.0 y.1.1) (λ i. (formula_is i, (sym units_are i, sym listed.numbers i))) core.units.paired)

  distinct : distinct_lits (unit_lits units) ≡ true
  distinct = ap distinct_lits units_are ∙ core.units.distinct

  cells_long : All (λ (x : Pair). 2 ≤ length x.1) (map cell_of rests)
  cells_long = In_All (λ (x : Pair). 2 ≤ length x.1) (map cell_of rests) (λ x i.
      let t = map_In cell_of rests x i in
      subst (λ (z : Pair). 2 ≤ length z.1) t.2 (two_long t.0.clause (All_In (λ (r : Rest). two_or_more r.clause ≡ true) rests t.0 rests_long t.1)))

  -- Going on

  pub resumes : (out : LineState) → out.entries ≡ length J → (book F.clauses J).next ≡ out.last + 1 → All (All (IsOn left.vars)) (F.clauses ++ added J) → IsUnrefuted J → (has_hints out.format ≡ true → AreHinted F.clauses J) → Resumes F.clauses left.vars (map cell_of rests ++ unit_cells units) units left.stack out J
  resumes out entries last on going hinted = record {
    sound = log;
    hinted = hinted;
    going = list_any-append is_empty F.clauses (added J) ∙ (λ i. h.whole i || going i);
    numbers = own_together (book F.clauses J) (map cell_of rests) units numbered distinct held cells_long (own_numbers (map cell_of rests) (subst (IsStrictlySortedBy nat_cmp) (sym (numbers_same rests)) told.ascending));
    held = held_together (book F.clauses J) (map cell_of rests) units numbered distinct held cells_long;
    all = λ n c is part. In_Contains (map cell_of rests ++ unit_cells units) (n, clause_of c) (In_append_left (map cell_of rests) (unit_cells units) (n, clause_of c) (Contains_In (map cell_of rests) (n, clause_of c) (all_cells n c is part)));
    alone = alone_together (book F.clauses J) (map cell_of rests) units numbered distinct held cells_long;
    told = In_All (λ k. is_told F.clauses J k ≡ true) (unit_lits units) (λ k i. subst (λ (G : List (List Literal)). is_told G J k ≡ true) formula_is (core.units.told k (In_has s.core.units k (subst (λ (ls : List Literal). In k ls) units_are i))));
    every = every;
    distinct = distinct;
    units_held = held_after (map cell_of rests) units;
    on = on;
    stack_on = h.on.stack;
    entries = entries;
    last = last;
  }

  pub dropped_ascend : IsStrictlySortedBy nat_cmp (dropped_of rests)
  dropped_ascend = filtered_ascend is_dropped rests told.ascending

  -- a ring ran to its end, and it held the start clauses to the last
  module _ (v : View) (home : List ℕ) (plan : Plan) (r : ℕ) (end : End) (counts : Counts) (ran : RanAt v home plan w r end counts) (same_opening : w.opening ≡ v.opening) (below : r < s.core.opening.rings) where
    starts_are : s.core.opening.starts ≡ starts_at (first_cell l) left.start.items
    starts_are = ap (λ (o : CoreOpening). o.starts) opening_is

    -- the cell of a start clause, which has glue 0
    cell_for : (p : Pair) → In p left.start.items → (a : ℕ) × (x : Cell) × (s.core.cell a ≡ Some x) × (s.glue x.number ≡ 0) × (x.number ≡ p.0) × (x.lits ≡ p.1)
    cell_for p i =
        let c = placed_In (first_cell l) left.start.items p i in
        let t = start_cell w s v home plan r end counts ran same_opening below c.0 (subst (λ (ss : List ClauseAt). In c.0 ss) (sym starts_are) c.1) in
        (t.0, t.1, t.2, t.3, t.4 ∙ c.2, t.5 ∙ c.3)

    kept_start : (p : Pair) → In p left.start.items → In p (kept_of rests)
    kept_start p i =
        let t = cell_for p i in
        let x : Rest = rest_of s.glue t.1 in
        let stays : not (is_dropped x) ≡ true = ap not (ap (nat_lt 2) t.3 ∙ none_less 2) in
        let j : In (cell_of x) (kept_of rests) = In_map cell_of (filter (λ (q : Rest). not (is_dropped q)) rests) x (In_filter (λ (q : Rest). not (is_dropped q)) rests x (told_at t.0 t.1 t.2) stays) in
        let lits : clause_of t.1.lits ≡ p.1 = ap clause_of t.5 ∙ start_in_order F left J0 h p i in
        subst (λ (q : Pair). In q (kept_of rests)) (λ k. (t.4 k, lits k)) j

    pub starts_stay : All (λ p. Contains (kept_of rests) p) left.start.items
    starts_stay = In_All (λ (p : Pair). Contains (kept_of rests) p) left.start.items (λ p i. In_Contains (kept_of rests) p (kept_start p i))

    pub none_dropped : All (λ n. Contains (map (λ (p : Pair). p.0) left.start.items) n → ⊥) (dropped_of rests)
    none_dropped = In_All (λ (n : ℕ). Contains (map (λ (p : Pair). p.0) left.start.items) n → ⊥) (dropped_of rests) (λ n i there.
        let d = map_In (λ (x : Rest). x.number) (filter is_dropped rests) n i in
        let f = filter_In is_dropped rests d.0 d.1 in
        let y = cell_at d.0 f.0 in
        let q = map_In (λ (p : Pair). p.0) left.start.items n (Contains_In (map (λ (p : Pair). p.0) left.start.items) n there) in
        let t = cell_for q.0 q.1 in
        let number : y.1.number ≡ t.1.number = sym (ap (λ (x : Rest). x.number) y.3) ∙ d.2 ∙ sym q.2 ∙ sym t.4 in
        let glue : d.0.glue ≡ 0 = ap (λ (x : Rest). x.glue) y.3 ∙ ap s.glue number ∙ t.3 in
        true≢false (sym f.1 ∙ ap (nat_lt 2) glue ∙ none_less 2))

    pub are_dropped : (x : RoundRun) → x.opening ≡ s.core.opening → AreDropped x (dropped_of rests)
    are_dropped x is = record {
      own = subst (λ (ns : List ℕ). All (λ n. Contains ns n → ⊥) (dropped_of rests)) (sym (ap (λ (o : CoreOpening). map (λ (c : ClauseAt). c.number) o.starts) (is ∙ opening_is) ∙ placed_numbers (first_cell l) left.start.items)) none_dropped;
      ascending = dropped_ascend;
    }

    -- a model of what is kept is one of what the round began with
    kept_clause : (c : List Literal) → In c (left_clauses left) → In c (lists (kept_of rests ++ unit_cells units) ++ unit_clauses (unit_lits units))
    kept_clause c i = ⊎_elim
        (λ (j : In c (lists left.start.items)). (let q = map_In (λ (p : Pair). p.1) left.start.items c j in
        In_append_left (lists (kept_of rests ++ unit_cells units)) (unit_clauses (unit_lits units)) c
        (subst (λ (d : List Literal). In d (lists (kept_of rests ++ unit_cells units))) q.2 (In_map (λ (p : Pair). p.1) (kept_of rests ++ unit_cells units) q.0 (In_append_left (kept_of rests) (unit_cells units) q.0 (kept_start q.0 q.1))))))
        (λ (j : In c (unit_clauses (unit_lits left.units.items))). (let q = map_In (λ (k : Literal). k ∷ []) (unit_lits left.units.items) c j in
        let there : In q.0 (unit_lits units) = subst (λ (ls : List Literal). In q.0 ls) (sym grown.1) (In_append_left (unit_lits left.units.items) grown.0 q.0 q.1) in
        In_append_right (lists (kept_of rests ++ unit_cells units)) (unit_clauses (unit_lits units)) c (subst (λ (d : List Literal). In d (unit_clauses (unit_lits units))) q.2 (In_map (λ (k : Literal). k ∷ []) (unit_lits units) q.0 there))))
        (In_append (lists left.start.items) (unit_clauses (unit_lits left.units.items)) c i)

    pub lifts : (out : LineState) → Lifts F.clauses (known (resumed left.vars (kept_of rests ++ unit_cells units) units left.stack out)) left.stack
    lifts out a t = h.lifts a (In_all (clause_true a) (left_clauses left) (λ c i. all_In (clause_true a) (lists (kept_of rests ++ unit_cells units) ++ unit_clauses (unit_lits units)) c t (kept_clause c i)))
