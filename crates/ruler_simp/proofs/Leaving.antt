-- What is left of a formula: no empty clause, and models that come back.
use Rattle.std.proofs.Common.{◌≡◌, ◌∙◌, ℕ, zero, suc, ◌+◌, ◌<◌, ◌≤◌, ◌==◌, Bool, true, false, not, ◌&&◌, ◌||◌, cond, List, [], ◌∷◌, ◌++◌, filter, length, Option, Some, None, refl, sym, ap, subst, inl, inr, ⊎_elim, arith, Contains}
use Rattle.std.specs.List.{list_any, fold, slice_get}
use Rattle.std.specs.List.Sorted.{IsPermutation}
use Rattle.std.specs.Option.{option_map}
use Rattle.std.proofs.lemmas.Bool.{cases_Bool, true≢false, false≢true, or_left}
use Rattle.std.proofs.lemmas.List.Sorted.{Contains-permutation}
use Rattle.sat_words.specs.Literal.{Literal, same}
use Rattle.sat_words.specs.Clause.{has, InOrder, is_empty, has_opposites, two_or_more, clause_of}
use Rattle.sat_words.specs.Truth.{clause_true, formula_true}
use Rattle.sat_words.specs.FormulaData.{FormulaData}
use Rattle.sat_words.proofs.Insertion.{has-clause_of}
use Rattle.sat_words.proofs.Members.{same-refl, clause_true_alike}
use Rattle.rup_model.specs.declared.journal.TheConstants.{RULER_RING}
use Rattle.rup_model.specs.declared.journal.Entry.{Entry}
use Rattle.rup_model.specs.declared.journal.Entry.TheVariants.{Add, Del, Reduce, Round}
use Rattle.rup_model.specs.Rounds.{falsifies, Rounds}
use Rattle.rup_model.specs.Rup.{conflicts}
use Rattle.rup_model.specs.Journal.{Book, formula_book, spelled, book_after, book, added}
use Rattle.rup_model.proofs.Lists.{In, any_In, In_any, none_In, all_In, In_all, In_map, map_In, In_append, In_append_left, In_append_right, has_In, Contains_In, In_Contains}
use Rattle.rup_model.proofs.Sums.{at_put}
use Rattle.rup_model.proofs.Respelling.{respelled_from}
use Rattle.drat_text.specs.LineState.{LineState}
use Rattle.simp_base.specs.WorkState.{WorkState, lists, unit_clauses, known, numbered, begun, is_only, is_alive_unit}
use Rattle.simp_base.specs.Parts.{takes_part}
use Rattle.simp_base.proofs.Filters.{In_filter}
use Rattle.simp_base.proofs.Long.{two_if_long}
use Rattle.simp_base.proofs.Order.{in_book}
use Rattle.simp_base.proofs.Truths.{true_opposites}

-- Numbers and clauses of a book

-- numbers begin at 1, end before this one, and no clause is empty
abbrev IsGood : Book → ℕ → Type 0
IsGood b m = (n : ℕ) (c : List Literal) → b.clause n ≡ Some c → (1 ≤ n) × (n < m) × (is_empty c ≡ false)

some_in_order : (c : List Literal) → is_empty c ≡ false → is_empty (clause_of c) ≡ false
some_in_order [] e = absurd (true≢false e)
some_in_order (l ∷ c) e = by (clause_of (l ∷ c)) (has-clause_of (l ∷ c) l ∙ or_left (same l l) _ (same-refl l))
  where
    by : (d : List Literal) → has d l ≡ true → is_empty d ≡ false
    by [] h = absurd (false≢true h)
    by (k ∷ d) h = refl

some_at : (F : List (List Literal)) (i : ℕ) (c : List Literal) → list_any is_empty F ≡ false → option_map clause_of (slice_get F i) ≡ Some c → (i < length F) × (is_empty c ≡ false)
some_at [] i c none e = absurd (let no : ⊥ = cc in no)
some_at (d ∷ F) zero c none e = let is : clause_of d ≡ c = cc in (omega arith, subst (λ (x : List Literal). is_empty x ≡ false) is (some_in_order d (none_In is_empty (d ∷ F) d none (inl refl))))
some_at (d ∷ F) (suc i) c none e = let t = some_at F i c (by (is_empty d) none) e in ((let lt = t.0 in omega arith), t.1)
  where
    by : (b : Bool) → (b || list_any is_empty F) ≡ false → list_any is_empty F ≡ false
    by true q = absurd (true≢false q)
    by false q = q

formula_good : (F : List (List Literal)) → list_any is_empty F ≡ false → IsGood (formula_book F) (suc (length F))
formula_good F none zero c e = absurd (let no : ⊥ = cc in no)
formula_good F none (suc i) c e = let t = some_at F i c none e in (omega arith, (let lt = t.0 in omega arith), t.1)

-- one entry more
good_step : (b : Book) (e : Entry) (m : ℕ) → 1 ≤ m → b.next ≡ m → list_any is_empty (added (e ∷ [])) ≡ false → IsGood b m → (IsGood (book_after b e) (m + length (added (e ∷ [])))) × ((book_after b e).next ≡ m + length (added (e ∷ [])))
good_step b (Add x) m low next some good = (
  (λ n c. at_put b.clause b.next (Some (spelled x)) (λ y. y ≡ Some c → (1 ≤ n) × (n < m + 1) × (is_empty c ≡ false)) n
      (λ is e. (let same_c : spelled x ≡ c = cc in (omega arith, omega arith, subst (λ (d : List Literal). is_empty d ≡ false) same_c (by (x.ring == RULER_RING) (none_In is_empty (x.lits ∷ []) x.lits some (inl refl))))))
      (λ ne e. (let t = good n c e in (t.0, (let lt = t.1 in omega arith), t.2)))),
  omega arith,
)
  where
    by : (t : Bool) → is_empty x.lits ≡ false → is_empty (cond t (clause_of x.lits) x.lits) ≡ false
    by true e = some_in_order x.lits e
    by false e = e
good_step b (Del q k) m low next some good = (
  (λ n c. at_put b.clause k None (λ y. y ≡ Some c → (1 ≤ n) × (n < m + 0) × (is_empty c ≡ false)) n
      (λ is e. absurd (let no : ⊥ = cc in no))
      (λ ne e. (let t = good n c e in (t.0, (let lt = t.1 in omega arith), t.2)))),
  omega arith,
)
good_step b (Reduce q) m low next some good = ((λ n c e. (let t = good n c e in (t.0, (let lt = t.1 in omega arith), t.2))), omega arith)
good_step b (Round x) m low next some good = (
  (λ n c e. elim (respelled_from x.starts b.clause n c e) as (λ _. (1 ≤ n) × (n < m + 0) × (is_empty c ≡ false)) [
    | inl kept ↦ (let t = good n c kept in (t.0, (let lt = t.1 in omega arith), t.2))
    | inr q ↦ (let t = good n q.1 q.2 in (t.0, (let lt = t.1 in omega arith), subst (λ (d : List Literal). is_empty d ≡ false) q.3 (some_in_order q.1 t.2)))
  ]),
  omega arith,
)

added_apart : (e : Entry) (J : List Entry) → (length (added (e ∷ J)) ≡ length (added (e ∷ [])) + length (added J)) × (list_any is_empty (added (e ∷ J)) ≡ false → (list_any is_empty (added (e ∷ [])) ≡ false) × (list_any is_empty (added J) ≡ false))
added_apart (Add x) J = (omega arith, λ h. by (is_empty x.lits) h)
  where
    by : (b : Bool) → (b || list_any is_empty (added J)) ≡ false → ((b || false) ≡ false) × (list_any is_empty (added J) ≡ false)
    by true h = absurd (true≢false h)
    by false h = (refl, h)
added_apart (Del r n) J = (omega arith, λ h. (refl, h))
added_apart (Reduce r) J = (omega arith, λ h. (refl, h))
added_apart (Round x) J = (omega arith, λ h. (refl, h))

good_from : (b : Book) (J : List Entry) (m : ℕ) → 1 ≤ m → b.next ≡ m → list_any is_empty (added J) ≡ false → IsGood b m → IsGood (fold book_after b J) (m + length (added J))
good_from b [] m low next some good = λ n c e. (let t = good n c e in (t.0, (let lt = t.1 in omega arith), t.2))
good_from b (e ∷ J) m low next some good =
    let apart = added_apart e J in
    let parts = apart.1 some in
    let one = good_step b e m low next parts.0 good in
    let length_is : m + length (added (e ∷ [])) + length (added J) ≡ m + length (added (e ∷ J)) = (let h = apart.0 in omega arith) in
    subst (IsGood (fold book_after (book_after b e) J)) length_is
    (good_from (book_after b e) J (m + length (added (e ∷ []))) (omega arith) one.1 parts.1 one.0)

-- a clause of the book, once its literals are in order
pub held_some : (q : Option (List Literal)) (c : List Literal) → option_map clause_of q ≡ Some c → ((d : List Literal) → q ≡ Some d → is_empty d ≡ false) → is_empty c ≡ false
held_some q c e some = let t = in_book q c e in subst (λ (x : List Literal). is_empty x ≡ false) t.2 (some_in_order t.0 (some t.0 t.1))

pub good : (F : List (List Literal)) (J : List Entry) → list_any is_empty F ≡ false → list_any is_empty (added J) ≡ false
    → (n : ℕ) (c : List Literal) → (book F J).clause n ≡ Some c → (1 ≤ n) × (n < suc (length F) + length (added J)) × (is_empty c ≡ false)
good F J none some = good_from (formula_book F) J (suc (length F)) (omega arith) refl some (formula_good F none)

-- The formula's clauses

numbered_In : (n : ℕ) (F : List (List Literal)) (c : List Literal) → In c F → In (clause_of c) (lists (numbered n F))
numbered_In n [] c i = absurd i
numbered_In n (d ∷ F) c (inl e) = inl (ap clause_of e)
numbered_In n (d ∷ F) c (inr i) = inr (numbered_In (suc n) F c i)

-- if unit propagation falsifies no clause, none is empty
pub none_empty : (F : FormulaData) (out : LineState) → conflicts (known (begun F out)) [] ≡ false → list_any is_empty F.clauses ≡ false
unfolding conflicts
none_empty F out quiet = elim (cases_Bool (list_any is_empty F.clauses)) as (λ _. list_any is_empty F.clauses ≡ false) [
  | inl h ↦ (
      let t = In_any is_empty F.clauses h in
      let i : In [] (lists (numbered 1 F.clauses)) = empty t.0 t.2 (numbered_In 1 F.clauses t.0 t.1) in
      absurd (true≢false (sym (any_In (falsifies (Rounds (known (begun F out)) [])) (known (begun F out)) [] (In_append_left (lists (numbered 1 F.clauses)) [] [] i) refl) ∙ quiet)))
  | inr f ↦ f
]
  where
    empty : (c : List Literal) → is_empty c ≡ true → In (clause_of c) (lists (numbered 1 F.clauses)) → In [] (lists (numbered 1 F.clauses))
    empty [] e i = i
    empty (l ∷ c) e i = absurd (false≢true e)

-- a model of what a work begins with is one of the formula
pub formula_holds : (F : FormulaData) (out : LineState) (a : List Bool) → formula_true a (known (begun F out)) ≡ true → formula_true a F.clauses ≡ true
formula_holds F out a h = In_all (clause_true a) F.clauses (λ c i.
    sym (clause_true_alike a (clause_of c) c (has-clause_of c))
    ∙ all_In (clause_true a) (known (begun F out)) (clause_of c) h (In_append_left (lists (numbered 1 F.clauses)) [] (clause_of c) (numbered_In 1 F.clauses c i)))

-- What is left

-- a clause in order that takes no part is empty, a unit, or holds opposites
short_one : (c : List Literal) → InOrder c → two_or_more c ≡ false → is_empty c ≡ false → (l : Literal) × (c ≡ l ∷ [])
short_one [] o two some = absurd (true≢false some)
short_one (l ∷ []) o two some = (l, refl)
short_one (l ∷ k ∷ c) o two some = absurd (true≢false (sym (two_if_long (l ∷ k ∷ c) o (omega arith)) ∙ two))

module _ (w : WorkState) (starts : List (ℕ × List Literal)) (kept : IsPermutation (filter (λ (c : ℕ × List Literal). takes_part c.1) w.clauses) starts)
    (ordered : (n : ℕ) (c : List Literal) → Contains w.clauses (n, c) → InOrder c) (some : (n : ℕ) (c : List Literal) → Contains w.clauses (n, c) → is_empty c ≡ false)
    (alone : (l : Literal) → is_alive_unit w l ≡ true → has w.units l ≡ true) (a : List Bool) (holds : formula_true a (lists starts ++ unit_clauses w.units) ≡ true) where
  unit_holds : (l : Literal) → In l w.units → clause_true a (l ∷ []) ≡ true
  unit_holds l i = all_In (clause_true a) (lists starts ++ unit_clauses w.units) (l ∷ []) holds (In_append_right (lists starts) (unit_clauses w.units) (l ∷ []) (In_map (λ k. k ∷ []) w.units l i))

  alive_holds : (n : ℕ) (c : List Literal) → In (n, c) w.clauses → clause_true a c ≡ true
  alive_holds n c i = elim (cases_Bool (takes_part c)) as (λ _. clause_true a c ≡ true) [
    | inl part ↦ all_In (clause_true a) (lists starts ++ unit_clauses w.units) c holds
        (In_append_left (lists starts) (unit_clauses w.units) c (In_map (λ (x : ℕ × List Literal). x.1) starts (n, c)
        (Contains_In starts (n, c) (Contains-permutation kept_cells starts (n, c) kept (In_Contains kept_cells (n, c) (In_filter (λ (x : ℕ × List Literal). takes_part x.1) w.clauses (n, c) i part))))))
    | inr idle ↦ elim (cases_Bool (has_opposites c)) as (λ _. clause_true a c ≡ true) [
      | inl both ↦ true_opposites a c both
      | inr none ↦ (
          let alive : Contains w.clauses (n, c) = In_Contains w.clauses (n, c) i in
          let one = short_one c (ordered n c alive) (by (two_or_more c) (ap (λ b. two_or_more c && not b) (sym none) ∙ idle)) (some n c alive) in
          let listed : has w.units one.0 ≡ true = alone one.0 (any_In (is_only one.0) (lists w.clauses) c (In_map (λ (x : ℕ × List Literal). x.1) w.clauses (n, c) i) (subst (λ (d : List Literal). is_only one.0 d ≡ true) (sym one.1) (same-refl one.0))) in
          subst (λ (d : List Literal). clause_true a d ≡ true) (sym one.1) (unit_holds one.0 (has_In w.units one.0 listed)))
    ]
  ]
    where
      kept_cells : List (ℕ × List Literal)
      kept_cells = filter (λ (x : ℕ × List Literal). takes_part x.1) w.clauses

      by : (b : Bool) → (b && true) ≡ false → b ≡ false
      by true e = e
      by false e = refl

  -- a model of what is left is one of what is known
  pub known_holds : formula_true a (known w) ≡ true
  known_holds = In_all (clause_true a) (known w) (λ c i. ⊎_elim
      (λ (k : In c (lists w.clauses)). (let t = map_In (λ (x : ℕ × List Literal). x.1) w.clauses c k in subst (λ (d : List Literal). clause_true a d ≡ true) t.2 (alive_holds t.0.0 t.0.1 t.1)))
      (λ (k : In c (unit_clauses w.units)). (let t = map_In (λ (l : Literal). l ∷ []) w.units c k in subst (λ (d : List Literal). clause_true a d ≡ true) t.2 (unit_holds t.0 t.1)))
      (In_append (lists w.clauses) (unit_clauses w.units) c i))
