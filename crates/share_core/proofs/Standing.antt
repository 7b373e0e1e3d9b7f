-- Clauses that no deletion names are alive, and stand in cells.
use Rattle.std.proofs.Common.{◌≡◌, ℕ, ◌<◌, ◌≤◌, ◌==◌, true, false, List, [], ◌∷◌, ◌++◌, map, fold, All, Some, None, sym, ap, ◌∙◌, subst, inl, inr, arith, eq-eqb, true≢false}
use Rattle.std.specs.List.{list_any}
use Rattle.std.proofs.lemmas.Bool.{or_parts}
use Rattle.std.proofs.lemmas.List.Folds.{list_any-append}
use Rattle.std.proofs.lemmas.List.Sums.{fold-append}
use Rattle.sat_words.specs.Literal.{Literal}
use Rattle.sat_words.specs.Clause.{two_or_more}
use Rattle.rup_model.specs.declared.journal.Addition.{Addition}
use Rattle.rup_model.specs.declared.journal.Entry.{Entry}
use Rattle.rup_model.specs.declared.journal.Entry.TheVariants.{Add, Del, Reduce, Round}
use Rattle.rup_model.specs.Log.{alive as alive_lines}
use Rattle.rup_model.specs.Journal.{ring_of, additions, deletion, Book, formula_book, spelled, book_after, book, lines, IsFit, Fits, is_ring}
use Rattle.rup_model.proofs.Lists.{In, In_map, In_Contains}
use Rattle.rup_model.proofs.Sums.{put_here, put_else}
use Rattle.rup_model.proofs.Sequences.{EachState, to_states, each_back}
use Rattle.rup_model.proofs.Numbers.{clause_below, journal_matches}
use Rattle.rup_model.specs.Windows.{begins_round}
use Rattle.rup_model.proofs.Windowing.{rings_begin_none}
use Rattle.rup_model.proofs.Units.{long_two}
use Rattle.share_core.specs.declared.stored.ClauseAt.{ClauseAt}
use Rattle.share_core.specs.State.{State}
use Rattle.share_core.specs.Sound.{IsShared, Sound}
use Rattle.share_core.specs.Readable.{deleted, IsInCell}
use Rattle.share_core.proofs.ClauseLists.{all_in}
use Rattle.share_core.proofs.Counting.{some_same}
use Rattle.share_core.proofs.Opened.{start_is}
use Rattle.share_core.proofs.Writing.{own_spelling}

-- What is alive stays so until a deletion names it

kept_from : (b : Book) (J : List Entry) (n : ℕ) (c : List Literal) → b.clause n ≡ Some c → n < b.next → list_any begins_round J ≡ false → deleted J n ≡ false → (fold book_after b J).clause n ≡ Some c
kept_from b [] n c is lt one none = is
kept_from b (Add x ∷ J) n c is lt one none = kept_from (book_after b (Add x)) J n c (put_else b.clause b.next _ n (λ e. omega arith) ∙ is) (omega arith) one none
kept_from b (Del r k ∷ J) n c is lt one none =
    let p = or_parts (k == n) (deleted J n) none in
    kept_from (book_after b (Del r k)) J n c (put_else b.clause k None n (λ e. true≢false (sym (eq-eqb k n (sym e)) ∙ p.0)) ∙ is) lt one p.1
kept_from b (Reduce r ∷ J) n c is lt one none = kept_from b J n c is lt one none
kept_from b (Round x ∷ J) n c is lt one none = absurd (true≢false one)

added_from : (b : Book) (J : List Entry) (x : Addition) → EachState book_after IsFit b J → In x (additions J) → list_any begins_round J ≡ false → deleted J x.number ≡ false
    → ((fold book_after b J).clause x.number ≡ Some (spelled x)) × (b.next ≤ x.number)
added_from b [] x h i one none = absurd i
added_from b (Add y ∷ J) x h (inl e) one none =
    let number : x.number ≡ b.next = ap (λ (z : Addition). z.number) (sym e) ∙ h.0.numbered in (
      kept_from (book_after b (Add y)) J x.number (spelled x)
          (ap (book_after b (Add y)).clause number ∙ put_here b.clause b.next _ ∙ ap (λ (z : Addition). Some (spelled z)) e) (omega arith) one none,
      omega arith,
    )
added_from b (Add y ∷ J) x h (inr i) one none = let t = added_from (book_after b (Add y)) J x h.1 i one none in (t.0, let q = t.1 in omega arith)
added_from b (Del r k ∷ J) x h i one none = added_from (book_after b (Del r k)) J x h.1 i one (or_parts (k == x.number) (deleted J x.number) none).1
added_from b (Reduce r ∷ J) x h i one none = added_from b J x h.1 i one none
added_from b (Round y ∷ J) x h i one none = absurd (true≢false one)

next_grows : (b : Book) (J : List Entry) → b.next ≤ (fold book_after b J).next
next_grows b [] = omega arith
next_grows b (Add x ∷ J) = let h = next_grows (book_after b (Add x)) J in omega arith
next_grows b (Del r k ∷ J) = next_grows (book_after b (Del r k)) J
next_grows b (Reduce r ∷ J) = next_grows b J
next_grows b (Round x ∷ J) = next_grows (book_after b (Round x)) J

-- Lists in two parts

deleted_rest : (J K : List Entry) (n : ℕ) → deleted (J ++ K) n ≡ false → deleted K n ≡ false
deleted_rest J K n h = (or_parts (deleted J n) (deleted K n) (sym (list_any-append (λ (e : Entry). is_ring n (deletion e)) J K) ∙ h)).1

abbrev tail : List Entry → List Entry
tail [] = []
tail (e ∷ es) = es

same_rest : (J K L : List Entry) → J ++ K ≡ J ++ L → K ≡ L
same_rest [] K L e = e
same_rest (x ∷ J) K L e = same_rest J K L (ap tail e)

added_entry : (J : List Entry) (x : Addition) → In x (additions J) → In (Add x) J
added_entry [] x i = i
added_entry (Add y ∷ J) x (inl e) = inl (ap (λ (z : Addition). Add z) e)
added_entry (Add y ∷ J) x (inr i) = inr (added_entry J x i)
added_entry (Del r k ∷ J) x i = inr (added_entry J x i)
added_entry (Reduce r ∷ J) x i = inr (added_entry J x i)
added_entry (Round y ∷ J) x i = inr (added_entry J x i)

-- Cells

module _ (c : State) (s : Sound c) where
  abbrev pub F : List (List Literal)
  F = c.opening.formula

  abbrev pub J0 : List Entry
  J0 = c.opening.journal

  -- no round begins after the opening
  no_round : list_any begins_round s.log.begins.0 ≡ false
  no_round = rings_begin_none s.log.begins.0 (λ k d lt. let less = s.log.begins.2 k d lt in let few = s.opens.few_rings in omega arith)

  -- a clause that is alive, of which a cell is to stand
  in_cell : (n : ℕ) (lits : List Literal) → IsShared c.opening n → (book F c.journal).clause n ≡ Some lits → two_or_more lits ≡ true → IsInCell c n lits
  in_cell n lits shared is two =
      let t = s.whole n lits shared is two in
      (t.0, t.1, t.2, t.3, some_same t.1.lits lits (sym (s.cells.alive t.0 t.1 t.2) ∙ ap (book F c.journal).clause t.3 ∙ is))

  pub start_below : (h : ClauseAt) → In h c.opening.starts → h.number < (book F J0).next
  start_below h i = clause_below (book F J0) (alive_lines F (lines F J0)) h.number h.lits (journal_matches F J0 s.opens.opens.fits) (start_is c.opening s.opens h i).alive

  pub next_more : (K : List Entry) → c.journal ≡ J0 ++ K → (book F J0).next ≤ (book F c.journal).next
  next_more K e = subst (λ (J : List Entry). (book F J0).next ≤ (book F J).next) (sym e)
      (subst (λ (b : Book). (book F J0).next ≤ b.next) (sym (fold-append book_after (formula_book F) J0 K)) (next_grows (book F J0) K))

  pub start_in : (h : ClauseAt) → In h c.opening.starts → deleted c.journal h.number ≡ false → IsInCell c h.number h.lits
  start_in h i none =
      let K : List Entry = s.log.begins.0 in
      let e : c.journal ≡ J0 ++ K = s.log.begins.1 in
      let is = start_is c.opening s.opens h i in
      let k = kept_from (book F J0) K h.number h.lits is.alive (start_below h i) no_round (deleted_rest J0 K h.number (ap (λ (J : List Entry). deleted J h.number) (sym e) ∙ none)) in
      in_cell h.number h.lits (inl (In_Contains (map (λ (q : ClauseAt). q.number) c.opening.starts) h.number (In_map (λ (q : ClauseAt). q.number) c.opening.starts h i)))
      (ap (λ (J : List Entry). (book F J).clause h.number) e ∙ ap (λ (b : Book). b.clause h.number) (fold-append book_after (formula_book F) J0 K) ∙ k) (long_two h.lits is.shape)

  pub addition_in : (K : List Entry) (x : Addition) → c.journal ≡ J0 ++ K → In x (additions K) → two_or_more x.lits ≡ true → deleted c.journal x.number ≡ false → IsInCell c x.number x.lits
  addition_in K x e i two none =
      let same : s.log.begins.0 ≡ K = same_rest J0 s.log.begins.0 K (sym s.log.begins.1 ∙ e) in
      let lt : x.ring < c.opening.rings = all_in (λ (y : Entry). ring_of y < c.opening.rings) K (Add x) (added_entry K x i) (subst (All (λ (y : Entry). ring_of y < c.opening.rings)) same s.log.begins.2) in
      let spelling = own_spelling c x s lt in
      let fits : EachState book_after IsFit (book F J0) K = to_states book_after IsFit (formula_book F) J0 K (each_back (λ before y. IsFit (book F before) y) [] J0 K (subst (Fits F) e s.log.log.fits)) in
      let k = added_from (book F J0) K x fits i (ap (list_any begins_round) (sym same) ∙ no_round) (deleted_rest J0 K x.number (ap (λ (J : List Entry). deleted J x.number) (sym e) ∙ none)) in
      in_cell x.number x.lits (inr k.1)
      (ap (λ (J : List Entry). (book F J).clause x.number) e ∙ ap (λ (b : Book). b.clause x.number) (fold-append book_after (formula_book F) J0 K) ∙ k.0 ∙ ap (λ (q : List Literal). Some q) spelling) two
