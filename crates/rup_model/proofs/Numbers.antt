-- What a journal that fits leaves alive by numbers is what its lines leave alive.
use Rattle.std.proofs.Common.{◌≡◌, ◌⊎◌, ℕ, zero, suc, ◌<◌, ◌≤◌, true, List, [], ◌∷◌, ◌++◌, length, Option, Some, None, refl, sym, ap, ◌∙◌, subst, inl, inr, ⊎_elim, arith, append_assoc, append-nil}
use Rattle.std.specs.List.{fold, slice_get}
use Rattle.std.specs.Option.{option_map, unwrap_or}
use Rattle.std.proofs.lemmas.List.Sums.{fold-append}
use Rattle.sat_words.specs.Literal.{Literal}
use Rattle.sat_words.specs.Clause.{same_set, clause_of}
use Rattle.sat_words.specs.declared.line.Line.{Line}
use Rattle.sat_words.proofs.Insertion.{same_set-clause_of}
use Rattle.rup_model.specs.Basics.{put, below, one_if}
use Rattle.rup_model.specs.Rup.{rup}
use Rattle.rup_model.specs.Log.{copies, alive_after, alive}
use Rattle.rup_model.specs.declared.journal.Addition.{Addition}
use Rattle.rup_model.specs.declared.journal.Round.{Round as RoundStart}
use Rattle.rup_model.specs.declared.journal.Entry.{Entry}
use Rattle.rup_model.specs.declared.journal.Entry.TheVariants.{Add, Del, Reduce, Round}
use Rattle.rup_model.specs.Journal.{Book, formula_clause, formula_book, spelled_by, spelled, respelled, book_after, book, copies_at, copies_in, lines_after, lines_from, lines, IsFit, Fits}
use Rattle.rup_model.proofs.Lists.{In}
use Rattle.rup_model.proofs.Sums.{at_put, put_here, put_else, below_same, below_put, below_at, below_first}
use Rattle.rup_model.proofs.Sequences.{fold_last, EachState, to_states}
use Rattle.rup_model.proofs.Covers.{same_back, same_self, same_as, same_chain, rup_covered}
use Rattle.rup_model.proofs.Copies.{copies-cons, copies_some, copies_without}
use Rattle.rup_model.proofs.Respelling.{spelled_by_same, respelled_none, respelled_copies}

pub spelled_same : (x : Addition) → same_set x.lits (spelled x) ≡ true
spelled_same x = spelled_by_same x.ring x.lits

-- each clause has as many numbers as it has copies, and only numbers of additions so far are taken
pub record Matches (b : Book) (G : List (List Literal)) : Type 0 where
  pub same_copies : (c : List Literal) → copies c G ≡ copies_in c b
  pub above : (n : ℕ) → b.next ≤ n → b.clause n ≡ None

get_past : (F : List (List Literal)) (i : ℕ) → length F ≤ i → slice_get F i ≡ None
get_past [] i le = refl
get_past (c ∷ F) zero le = absurd (omega arith)
get_past (c ∷ F) (suc i) le = get_past F i (omega arith)

formula_copies : (c : List Literal) (F : List (List Literal)) → below (length F) (λ i. copies_at c (option_map clause_of (slice_get F i))) ≡ copies c F
formula_copies c [] = refl
formula_copies c (d ∷ F) =
    let first = below_first (length F) (λ i. copies_at c (option_map clause_of (slice_get (d ∷ F) i))) in
    let rest = formula_copies c F in
    let one : copies_at c (Some (clause_of d)) ≡ one_if (same_set c d) = ap one_if (sym (same_as c d (clause_of d) (same_set-clause_of d))) in
    let k = copies-cons c d F in omega arith

pub formula_matches : (F : List (List Literal)) → Matches (formula_book F) F
formula_matches F = record {
  same_copies = λ c. (let first = below_first (length F) (λ n. copies_at c (formula_clause F n)) in let rest = formula_copies c F in omega arith);
  above = past;
}
  where
    past : (n : ℕ) → suc (length F) ≤ n → formula_clause F n ≡ None
    past zero le = refl
    past (suc i) le = ap (λ (o : Option (List Literal)). option_map clause_of o) (get_past F i (omega arith))

pub clause_below : (b : Book) (G : List (List Literal)) (n : ℕ) (c : List Literal) → Matches b G → b.clause n ≡ Some c → n < b.next
clause_below b G n c m is = ⊎_elim (λ (lt : n < b.next). lt) (λ (le : b.next ≤ n). let e : None ≡ Some c = sym (m.above n le) ∙ is in absurd (cc)) (lt_or_ge n b.next)
  where
    lt_or_ge : (x y : ℕ) → (x < y) ⊎ (y ≤ x)
    lt_or_ge x zero = inr (omega arith)
    lt_or_ge zero (suc y) = inl (omega arith)
    lt_or_ge (suc x) (suc y) = ⊎_elim (λ (h : x < y). inl (omega arith)) (λ (h : y ≤ x). inr (omega arith)) (lt_or_ge x y)

-- a clause with the literals of one that is alive under a number
pub same_copies_alive : (b : Book) (G : List (List Literal)) (n : ℕ) (c d : List Literal) → Matches b G → b.clause n ≡ Some d → same_set c d ≡ true → 0 < copies c G
same_copies_alive b G n c d m is alike =
    let le = below_at b.next n (λ k. copies_at c (b.clause k)) (clause_below b G n d m is) in
    let one : copies_at c (b.clause n) ≡ 1 = ap (copies_at c) is ∙ ap one_if alike in
    let e = m.same_copies c in omega arith

pub clause_copies : (b : Book) (G : List (List Literal)) (n : ℕ) (c : List Literal) → Matches b G → b.clause n ≡ Some c → 0 < copies c G
clause_copies b G n c m is = same_copies_alive b G n c c m is (same_self c)

add_step : (b : Book) (G : List (List Literal)) (x : Addition) → Matches b G → Matches (book_after b (Add x)) (x.lits ∷ G)
add_step b G x m = record {
  same_copies = λ c.
      let f : ℕ → Option (List Literal) = put b.clause b.next (Some (spelled x)) in
      let here : copies_at c (f b.next) ≡ one_if (same_set c (spelled x)) = ap (copies_at c) (put_here b.clause b.next (Some (spelled x))) in
      let rest = below_same b.next (λ n. copies_at c (b.clause n)) (λ n. copies_at c (f n)) (λ n lt. ap (copies_at c) (put_else b.clause b.next (Some (spelled x)) n (λ e. omega arith))) in
      let s : one_if (same_set c x.lits) ≡ one_if (same_set c (spelled x)) = ap one_if (same_as c x.lits (spelled x) (spelled_same x)) in
      let k = copies-cons c x.lits G in
      let old = m.same_copies c in omega arith;
  above = λ n le. put_else b.clause b.next (Some (spelled x)) n (λ e. omega arith) ∙ m.above n (omega arith);
}

del_step : (b : Book) (G : List (List Literal)) (r n : ℕ) → IsFit b (Del r n) → Matches b G → Matches (book_after b (Del r n)) (fold alive_after G (lines_after b (Del r n)))
del_step b G r n fit m =
    let d : List Literal = unwrap_or (b.clause n) [] in
    let s : List Literal = spelled_by r d in
    let is : b.clause n ≡ Some d = fit.names.1 ∙ sym (ap (λ (q : Option (List Literal)). Some (unwrap_or q [])) fit.names.1) in
    record {
      same_copies = λ c.
          let f : ℕ → Option (List Literal) = put b.clause n None in
          let x = below_put b.next n (λ k. copies_at c (b.clause k)) (λ k. copies_at c (f k)) (clause_below b G n d m is) (λ k ne. ap (copies_at c) (put_else b.clause n None k ne)) in
          let here : copies_at c (f n) ≡ 0 = ap (copies_at c) (put_here b.clause n None) in
          let was : copies_at c (b.clause n) ≡ one_if (same_set c s) = ap (copies_at c) is ∙ ap one_if (same_as c d s (spelled_by_same r d)) in
          let w = copies_without s c G (same_copies_alive b G n s d m is (same_back d s (spelled_by_same r d))) in
          let old = m.same_copies c in omega arith;
      above = λ k le. at_put b.clause n None (λ y. y ≡ None) k (λ _. refl) (λ _. m.above k le);
    }

round_step : (b : Book) (G : List (List Literal)) (x : RoundStart) → Matches b G → Matches (book_after b (Round x)) G
round_step b G x m = record {
  same_copies = λ c. m.same_copies c ∙ sym (below_same b.next (λ n. copies_at c (b.clause n)) (λ n. copies_at c (respelled x.starts b.clause n)) (λ n lt. respelled_copies x.starts b.clause n c));
  above = λ n le. respelled_none x.starts b.clause n (m.above n le);
}

pub matches_step : (b : Book) (G : List (List Literal)) (e : Entry) → IsFit b e → Matches b G → Matches (book_after b e) (fold alive_after G (lines_after b e))
matches_step b G (Add x) fit m = add_step b G x m
matches_step b G (Del r n) fit m = del_step b G r n fit m
matches_step b G (Reduce r) fit m = m
matches_step b G (Round x) fit m = round_step b G x m

matches_from : (b : Book) (J : List Entry) (G : List (List Literal)) → EachState book_after IsFit b J → Matches b G → Matches (fold book_after b J) (fold alive_after G (lines_from b J))
matches_from b [] G h m = m
matches_from b (e ∷ J) G h m =
    subst (λ (H : List (List Literal)). Matches (fold book_after (book_after b e) J) H) (sym (fold-append alive_after G (lines_after b e) (lines_from (book_after b e) J)))
    (matches_from (book_after b e) J (fold alive_after G (lines_after b e)) h.1 (matches_step b G e h.0 m))

-- a journal that fits leaves alive by numbers what its lines leave alive
pub journal_matches : (F : List (List Literal)) (J : List Entry) → Fits F J → Matches (book F J) (alive F (lines F J))
journal_matches F J h = matches_from (formula_book F) J F (to_states book_after IsFit (formula_book F) [] J h) (formula_matches F)

-- One more entry

pub book_last : (F : List (List Literal)) (J : List Entry) (e : Entry) → book F (J ++ e ∷ []) ≡ book_after (book F J) e
book_last F J e = fold_last book_after (formula_book F) J e

lines_last_from : (b : Book) (J : List Entry) (e : Entry) → lines_from b (J ++ e ∷ []) ≡ lines_from b J ++ lines_after (fold book_after b J) e
lines_last_from b [] e = append-nil (lines_after b e)
lines_last_from b (x ∷ J) e = ap (λ (L : List Line). lines_after b x ++ L) (lines_last_from (book_after b x) J e) ∙ sym (append_assoc (lines_after b x) (lines_from (book_after b x) J) (lines_after (fold book_after (book_after b x) J) e))

pub lines_last : (F : List (List Literal)) (J : List Entry) (e : Entry) → lines F (J ++ e ∷ []) ≡ lines F J ++ lines_after (book F J) e
lines_last F J e = lines_last_from (formula_book F) J e

lines_both_from : (b : Book) (J K : List Entry) → lines_from b (J ++ K) ≡ lines_from b J ++ lines_from (fold book_after b J) K
lines_both_from b [] K = refl
lines_both_from b (x ∷ J) K = ap (λ (L : List Line). lines_after b x ++ L) (lines_both_from (book_after b x) J K) ∙ sym (append_assoc (lines_after b x) (lines_from (book_after b x) J) (lines_from (fold book_after (book_after b x) J) K))

-- the lines of a journal in two parts
pub lines_both : (F : List (List Literal)) (J K : List Entry) → lines F (J ++ K) ≡ lines F J ++ lines_from (book F J) K
lines_both F J K = lines_both_from (formula_book F) J K

-- a clause that is RUP over clauses that stand as sets under some numbers is RUP over what the lines leave alive
pub rup_alive_sets : (b : Book) (G K : List (List Literal)) (c : List Literal) → Matches b G
    → ((d : List Literal) → In d K → (n : ℕ) × (e : List Literal) × (b.clause n ≡ Some e) × (same_set d e ≡ true)) → rup K c ≡ true → rup G c ≡ true
rup_alive_sets b G K c m among =
    rup_covered K G c (λ d i.
    (let t = among d i in
    let u = copies_some t.1 G (clause_copies b G t.0 t.1 m t.2) in
    (u.0, u.1, same_chain d t.1 u.0 t.3 u.2)))

-- and over clauses that stand as lists
pub rup_alive : (b : Book) (G K : List (List Literal)) (c : List Literal) → Matches b G → ((d : List Literal) → In d K → (n : ℕ) × (b.clause n ≡ Some d)) → rup K c ≡ true → rup G c ≡ true
rup_alive b G K c m among = rup_alive_sets b G K c m (λ d i. let t = among d i in (t.0, d, t.1, same_self d))
