-- The lines of a journal whose additions have hints, as an LRAT checker follows them.
use Rattle.std.proofs.Common.{◌≡◌, ◌∙◌, ℕ, zero, suc, Bool, true, false, List, [], ◌∷◌, ◌++◌, Some, None, slice_get, sym, ap, subst, cond, refl, length, arith}
use Rattle.std.specs.Prelude.{◌==◌, map, option_map, IsSomeAnd}
use Rattle.std.specs.Option.{unwrap_or}
use Rattle.std.specs.declared.option.Option.{Option}
use Rattle.std.specs.List.{list_any}
use Rattle.std.proofs.lemmas.Option.{same_Some}
use Rattle.sat_words.specs.Literal.{Literal, opposite}
use Rattle.sat_words.specs.Clause.{has, same_set, clause_of}
use Rattle.sat_words.proofs.Insertion.{same_set-clause_of}
use Rattle.rup_model.specs.declared.journal.Addition.{Addition}
use Rattle.rup_model.specs.declared.journal.Entry.{Entry}
use Rattle.rup_model.specs.declared.journal.Entry.TheVariants.{Add, Del, Reduce, Round}
use Rattle.rup_model.specs.Basics.{EachAfter, put}
use Rattle.rup_model.specs.Hints.{Numbered}
use Rattle.rup_model.specs.Journal.{Book, book, formula_book, book_after, spelled_by, spelled, respelled, IsFit, Fits}
use Rattle.rup_model.specs.NumberedLines.{IsHinted, AreHinted, numbered_from, numbered_lines}
use Rattle.rup_model.proofs.Covers.{same_back, same_chain}
use Rattle.rup_model.proofs.Hinting.{over_same}
use Rattle.rup_model.proofs.Numbers.{book_last}
use Rattle.rup_model.proofs.Respelling.{spelled_by_same}
use Rattle.top_call.specs.LratProof.{numbered_clauses, IsLratProof}

-- each clause of the book stands under its number, with the same literals
abbrev Covers : Numbered → (ℕ → Option (List Literal)) → Type 0
Covers at f = (n : ℕ) (d : List Literal) → f n ≡ Some d → (e : List Literal) × (at n ≡ Some e) × (same_set d e ≡ true)

-- as a clause is spelled it has the literals that were added
spelled_same : (x : Addition) → same_set (spelled x) x.lits ≡ true
spelled_same x = same_back x.lits (spelled x) (spelled_by_same x.ring x.lits)

-- one more on both sides
covers_put : (at : Numbered) (f : ℕ → Option (List Literal)) (k : ℕ) (c d : List Literal) → same_set c d ≡ true → Covers at f → Covers (put at k (Some d)) (put f k (Some c))
covers_put at f k c d same covers n = by (n == k)
  where
    by : (b : Bool) (x : List Literal) → cond b (Some c) (f n) ≡ Some x → (e : List Literal) × (cond b (Some d) (at n) ≡ Some e) × (same_set x e ≡ true)
    by true x is = (d, refl, subst (λ (y : List Literal). same_set y d ≡ true) (same_Some c x is) same)
    by false x is = covers n x is

-- one fewer on both sides
covers_none : (at : Numbered) (f : ℕ → Option (List Literal)) (k : ℕ) → Covers at f → Covers (put at k None) (put f k None)
covers_none at f k covers n = by (n == k)
  where
    by : (b : Bool) (x : List Literal) → cond b None (f n) ≡ Some x → (e : List Literal) × (cond b None (at n) ≡ Some e) × (same_set x e ≡ true)
    by true x is = absurd (cc is)
    by false x is = covers n x is

-- in another order
covers_respelled : (at : Numbered) (f : ℕ → Option (List Literal)) (ns : List ℕ) → Covers at f → Covers at (respelled ns f)
covers_respelled at f ns covers n = by (list_any (λ m. m == n) ns)
  where
    ordered : (o : Option (List Literal)) → ((d : List Literal) → o ≡ Some d → (e : List Literal) × (at n ≡ Some e) × (same_set d e ≡ true)) → (x : List Literal) → option_map clause_of o ≡ Some x → (e : List Literal) × (at n ≡ Some e) × (same_set x e ≡ true)
    ordered None all x is = absurd (cc is)
    ordered (Some d) all x is =
        let t = all d refl in
        (t.0, t.1, subst (λ (y : List Literal). same_set y t.0 ≡ true) (same_Some (clause_of d) x is) (same_chain (clause_of d) d t.0 (same_back d (clause_of d) (same_set-clause_of d)) t.2))

    by : (b : Bool) (x : List Literal) → cond b (option_map clause_of (f n)) (f n) ≡ Some x → (e : List Literal) × (at n ≡ Some e) × (same_set x e ≡ true)
    by true x is = ordered (f n) (covers n) x is
    by false x is = covers n x is

-- the formula's clauses
covers_formula : (F : List (List Literal)) → Covers (numbered_clauses F) (formula_book F).clause
covers_formula F zero d is = absurd (cc is)
covers_formula F (suc i) d is = by (slice_get F i) d is
  where
    by : (o : Option (List Literal)) (x : List Literal) → option_map clause_of o ≡ Some x → (e : List Literal) × (o ≡ Some e) × (same_set x e ≡ true)
    by None x e = absurd (cc e)
    by (Some c) x e = (c, refl, subst (λ (y : List Literal). same_set y c ≡ true) (same_Some (clause_of c) x e) (same_back c (clause_of c) (same_set-clause_of c)))

-- a clause that is deleted is alive, with the literals that its line spells
deleted_alive : (at : Numbered) (f : ℕ → Option (List Literal)) (r m : ℕ) (c : List Literal) → f m ≡ Some c → Covers at f → IsSomeAnd (at m) (λ e. same_set e (spelled_by r (unwrap_or (f m) [])) ≡ true)
deleted_alive at f r m c is covers =
    let t = covers m c is in
    let same : same_set t.0 (spelled_by r c) ≡ true = same_chain t.0 c (spelled_by r c) (same_back c t.0 t.2) (spelled_by_same r c) in
    subst (λ (o : Option (List Literal)). IsSomeAnd o (λ e. same_set e (spelled_by r (unwrap_or (f m) [])) ≡ true)) (sym t.1)
    (subst (λ (o : Option (List Literal)). same_set t.0 (spelled_by r (unwrap_or o [])) ≡ true) (sym is) same)

-- from what stands after some entries, the lines of the others
steps_from : (F : List (List Literal)) (before J : List Entry) (last : ℕ) (at : Numbered) → suc last ≡ (book F before).next → Covers at (book F before).clause
    → EachAfter (λ K e. IsFit (book F K) e) before J → EachAfter (IsHinted F) before J → IsLratProof last at (numbered_from (book F before) J)
steps_from F before [] last at next covers fits hints = tt
steps_from F before (Add x ∷ J) last at next covers fits hints =
    let b : Book = book F before in
    let here : Covers (put at x.number (Some x.lits)) (put b.clause b.next (Some (spelled x))) =
    subst (λ (k : ℕ). Covers (put at k (Some x.lits)) (put b.clause b.next (Some (spelled x)))) (sym fits.0.numbered) (covers_put at b.clause b.next (spelled x) x.lits (spelled_same x) covers) in
    let after : book F (before ++ Add x ∷ []) ≡ book_after b (Add x) = book_last F before (Add x) in (
      (fits.0.numbered ∙ sym next, over_same b.clause at covers x.hints (has (map opposite x.lits)) hints.0),
      subst (λ (c : Book). IsLratProof x.number (put at x.number (Some x.lits)) (numbered_from c J)) after
          (steps_from F (before ++ Add x ∷ []) J x.number (put at x.number (Some x.lits)) (ap suc fits.0.numbered ∙ ap (λ (c : Book). c.next) (sym after))
          (subst (λ (c : Book). Covers (put at x.number (Some x.lits)) c.clause) (sym after) here) fits.1 hints.1),
    )
steps_from F before (Del r m ∷ J) last at next covers fits hints =
    let b : Book = book F before in
    let after : book F (before ++ Del r m ∷ []) ≡ book_after b (Del r m) = book_last F before (Del r m) in
    let names = fits.0.names in (
      (omega (arith, next), deleted_alive at b.clause r m names.0 names.1 covers),
      subst (λ (c : Book). IsLratProof last (put at m None) (numbered_from c J)) after
          (steps_from F (before ++ Del r m ∷ []) J last (put at m None) (next ∙ ap (λ (c : Book). c.next) (sym after))
          (subst (λ (c : Book). Covers (put at m None) c.clause) (sym after) (covers_none at b.clause m covers)) fits.1 hints.1),
    )
steps_from F before (Reduce r ∷ J) last at next covers fits hints =
    let after : book F (before ++ Reduce r ∷ []) ≡ book_after (book F before) (Reduce r) = book_last F before (Reduce r) in
    subst (λ (c : Book). IsLratProof last at (numbered_from c J)) after
    (steps_from F (before ++ Reduce r ∷ []) J last at (next ∙ ap (λ (c : Book). c.next) (sym after)) (subst (λ (c : Book). Covers at c.clause) (sym after) covers) fits.1 hints.1)
steps_from F before (Round x ∷ J) last at next covers fits hints =
    let after : book F (before ++ Round x ∷ []) ≡ book_after (book F before) (Round x) = book_last F before (Round x) in
    subst (λ (c : Book). IsLratProof last at (numbered_from c J)) after
    (steps_from F (before ++ Round x ∷ []) J last at (next ∙ ap (λ (c : Book). c.next) (sym after))
    (subst (λ (c : Book). Covers at c.clause) (sym after) (covers_respelled at (book F before).clause x.starts covers)) fits.1 hints.1)

pub is_lrat_proof : (F : List (List Literal)) (J : List Entry) → Fits F J → AreHinted F J → IsLratProof (length F) (numbered_clauses F) (numbered_lines F J)
is_lrat_proof F J fits hints = steps_from F [] J (length F) (numbered_clauses F) refl (covers_formula F) fits hints
