-- What a line of the work keeps of the journal that it stands over.
use Rattle.std.proofs.Common.{◌≡◌, ◌≢◌, ◌↔◌, ◌⊎◌, ℕ, zero, suc, ◌+◌, ◌||◌, Bool, true, false, List, [], ◌∷◌, ◌++◌, length, sym, refl, ap, subst, ◌∙◌, inl, inr, ⊎_elim, arith, Some, None, map, append_assoc, append-nil, length-append}
use Rattle.std.specs.List.{list_any, All, Contains, slice_get}
use Rattle.std.specs.Option.{unwrap_or, option_map}
use Rattle.std.specs.List.{fold}
use Rattle.std.proofs.lemmas.Bool.{and_from, false≢true, or_left, or_right, or_cases}
use Rattle.std.proofs.lemmas.List.Elements.{All-append}
use Rattle.std.proofs.lemmas.List.Folds.{list_any-append}
use Rattle.sat_words.specs.Literal.{Literal, IsOn, opposite}
use Rattle.sat_words.specs.Clause.{has, same_set, is_empty, clause_of, two_or_more}
use Rattle.sat_words.proofs.Canonical.{same_clause}
use Rattle.sat_words.proofs.Members.{same-refl}
use Rattle.sat_words.specs.declared.line.Line.{Line}
use Rattle.sat_words.specs.declared.line.Line.TheVariants.{Add as AddLine, Del as DelLine}
use Rattle.sat_words.specs.Formats.{has_hints}
use Rattle.rup_model.specs.Hints.{numbered, HintsFit}
use Rattle.rup_model.specs.NumberedLines.{NumberedLine, Added, Deleted, line_of, numbered_after, IsHinted, AreHinted}
use Rattle.rup_model.proofs.Hinting.{over_same}
use Rattle.rup_model.proofs.Lines.{one_line}
use Rattle.rup_model.specs.declared.journal.Entry.{Entry}
use Rattle.rup_model.specs.declared.journal.Entry.TheVariants.{Add, Del, Reduce, Round}
use Rattle.rup_model.specs.Basics.{put}
use Rattle.rup_model.specs.Rup.{rup}
use Rattle.rup_model.specs.Log.{Accepted, alive, is_valid, lits_of}
use Rattle.rup_model.specs.Journal.{Book, spelled, formula_book, book_after, book, lines, lines_after, added, is_told, IsFit, LogSound}
use Rattle.rup_model.specs.Opening.{is_rulers}
use Rattle.rup_model.proofs.Lists.{In, In_any, any_In, In_append, In_append_left, In_append_right, In_map, map_In, In_has, has_In, Contains_In, In_Contains}
use Rattle.sat_words.proofs.Insertion.{same_set-clause_of, InOrder-clause_of, has-clause_of}
use Rattle.simp_base.proofs.Keeping.{only_told, not_put_at, hints_not_put}
use Rattle.rup_model.proofs.Sums.{put_here, put_else, at_put}
use Rattle.rup_model.proofs.Sequences.{each_last}
use Rattle.rup_model.proofs.Covers.{same_self, same_back, same_chain, same_has}
use Rattle.rup_model.proofs.Respelling.{respelled_from}
use Rattle.rup_model.proofs.Copies.{copies_any}
use Rattle.rup_model.proofs.Units.{two_more, two_same}
use Rattle.rup_model.proofs.Numbers.{spelled_same, journal_matches, clause_below, same_copies_alive, book_last, lines_last}
use Rattle.rup_model.proofs.Additions.{added-append, told_more}
use Rattle.drat_text.specs.LineState.{LineState, last_after}
use Rattle.drat_text.specs.LineOut.{PutLine, FailedLine, with_line, added_line, deleted_line}
use Rattle.drat_text.specs.declared.stop.LineStop.{LineStop}
use Rattle.drat_text.specs.declared.stop.LineStop.TheVariants.{ProofFault, Full, Memory}
use Rattle.std.specs.Prelude.{Result, Ok, Err, ◌-◌}
use Rattle.drat_text.specs.JournalText.{Origin}
use Rattle.drat_text.proofs.JournalLines.{has_text_next, has_text_cut}
use Rattle.model_stack.specs.declared.stack.Fix.{Fix}
use Rattle.simp_base.specs.WorkState.{WorkState, IsWork, known, lists, is_only, is_alive_unit, is_unit}
use Rattle.simp_base.specs.Log.{journal_of, IsPassedOver, Stands, HasLines, Continues}
use Rattle.simp_base.specs.Calls.{ruler_adds, ruler_deletes, on_ok, AreHints, NotPut, NotAdded, AddsToLog, WasAdded, WasDeleted, IsListed, ListedLine, WasListed, UnitHints, ListsInLog, entries_for}
use Rattle.simp_base.proofs.Lists.{All_In, one_All, Contains_left, Contains_last, Contains_apart}
use Rattle.simp_base.proofs.Numbered.{numbered_there}
use Rattle.simp_base.proofs.Order.{in_book, order_same, order_twice}
use Rattle.simp_base.proofs.Validity.{left_alive, IsValidOver, rup_valid}

or_none : (b : Bool) → (b || false) ≡ b
or_none true = refl
or_none false = refl

-- Units of a work

-- a clause that is a unit
pub unit_alive : (w : WorkState) (n : ℕ) (c : List Literal) (l : Literal) → Contains w.clauses (n, c) → c ≡ l ∷ [] → is_unit w l ≡ true
unit_alive w n c l i is =
    or_right (has w.units l) (is_alive_unit w l)
    (any_In (is_only l) (lists w.clauses) c (In_map (λ (x : ℕ × List Literal). x.1) w.clauses (n, c) (Contains_In w.clauses (n, c) i)) (subst (λ (d : List Literal). is_only l d ≡ true) (sym is) (same-refl l)))

-- a unit whose clause is alive has a number
alive_number : (w : WorkState) (l : Literal) → is_alive_unit w l ≡ true → (n : ℕ) × Contains w.clauses (n, l ∷ [])
alive_number w l alive =
    let t = In_any (is_only l) (lists w.clauses) alive in
    let u = map_In (λ (x : ℕ × List Literal). x.1) w.clauses t.0 t.1 in
    (u.0.0, subst (λ (c : List Literal). Contains w.clauses (u.0.0, c)) (u.2 ∙ only_told l t.0 t.2) (In_Contains w.clauses u.0 u.1))

-- with more clauses
unit_left : (w : WorkState) (more : List (ℕ × List Literal)) (l : Literal) → is_unit w l ≡ true → is_unit (record w { clauses = w.clauses ++ more }) l ≡ true
unit_left w more l h = elim (or_cases (has w.units l) (is_alive_unit w l) h) as (λ _. is_unit (record w { clauses = w.clauses ++ more }) l ≡ true) [
  | inl listed ↦ or_left _ _ listed
  | inr alive ↦ (let u = alive_number w l alive in unit_alive (record w { clauses = w.clauses ++ more }) u.0 (l ∷ []) l (Contains_left w.clauses more (u.0, l ∷ []) u.1) refl)
]

-- with one unit more
listed_more : (w : WorkState) (l k : Literal) → is_unit w k ≡ true → is_unit (record w { units = w.units ++ l ∷ [] }) k ≡ true
listed_more w l k h = elim (or_cases (has w.units k) (is_alive_unit w k) h) as (λ _. is_unit (record w { units = w.units ++ l ∷ [] }) k ≡ true) [
  | inl listed ↦ or_left _ _ (In_has (w.units ++ l ∷ []) k (In_append_left w.units (l ∷ []) k (has_In w.units k listed)))
  | inr alive ↦ or_right _ _ alive
]

-- a clause that is this literal as a set
only_clause : (lits : List Literal) (l : Literal) → same_set (l ∷ []) lits ≡ true → clause_of lits ≡ l ∷ []
only_clause lits l s =
    sym (same_clause (l ∷ []) (clause_of lits) (InOrder-clause_of (l ∷ [])) (InOrder-clause_of lits) (λ k. same_has (l ∷ []) lits s k ∙ sym (has-clause_of lits k)))

long_unit : (c : List Literal) (l : Literal) → two_or_more c ≡ true → c ≡ l ∷ [] → ⊥
long_unit c l two is = false≢true (ap two_or_more (sym is) ∙ two)

-- the last clause that was added, or the others
pub told_apart : (G : List (List Literal)) (L : List Entry) (lits : List Literal) (K : List Entry) → added K ≡ added L ++ lits ∷ [] → (l : Literal) → is_told G K l ≡ true → (is_told G L l ≡ true) ⊎ (same_set (l ∷ []) lits ≡ true)
told_apart G L lits K is l t =
    let u = In_any (same_set (l ∷ [])) (G ++ added K) t in
    elim (In_append (G ++ added L) (lits ∷ []) u.0 (subst (In u.0) (ap (λ (H : List (List Literal)). G ++ H) is ∙ sym (append_assoc G (added L) (lits ∷ []))) u.1)) as (λ _. (is_told G L l ≡ true) ⊎ (same_set (l ∷ []) lits ≡ true)) [
      | inl old ↦ inl (any_In (same_set (l ∷ [])) (G ++ added L) u.0 old u.2)
      | inr (inl e) ↦ inr (subst (λ (d : List Literal). same_set (l ∷ []) d ≡ true) (sym e) u.2)
      | inr (inr z) ↦ absurd z
    ]

-- One entry more of the ruler's

module _ (o : Origin) (mine : List Entry) (w : WorkState) (h : Stands o mine w) (e : Entry) (x : NumberedLine) where
  abbrev F : List (List Literal)
  F = o.formula

  abbrev J : List Entry
  J = journal_of o mine

  abbrev grown : List Entry
  grown = journal_of o (mine ++ e ∷ [])

  pub grown_is : grown ≡ J ++ e ∷ []
  grown_is = sym (append_assoc o.journal mine (e ∷ []))

  pub book_next : book F grown ≡ book_after (book F J) e
  book_next = ap (book F) grown_is ∙ book_last F J e

  -- the entry has this line there, which is valid, and nothing was ended
  module _ (one : numbered_after (book F J) e ≡ x ∷ []) (valid : is_valid (alive F (lines F J)) (line_of x) ≡ true) (fit : IsFit (book F J) e) (going : w.ended ≡ false) where
    plain : lines_after (book F J) e ≡ line_of x ∷ []
    plain = one_line (book F J) e x one

    pub lines_next : lines F grown ≡ lines F J ++ line_of x ∷ []
    lines_next = ap (lines F) grown_is ∙ lines_last F J e ∙ ap (λ L. lines F J ++ L) plain

    pub accepted_next : Accepted F (lines F J ++ line_of x ∷ [])
    accepted_next = each_last (λ (before : List Line) (y : Line). is_valid (alive F before) y ≡ true) [] (lines F J) (line_of x) h.sound.accepted valid

    pub sound_next : LogSound F grown
    sound_next = subst (LogSound F) (sym grown_is) (record {
      fits = each_last (λ before y. IsFit (book F before) y) [] J e h.sound.fits fit;
      accepted = subst (Accepted F) (sym (lines_last F J e ∙ ap (λ L. lines F J ++ L) plain)) accepted_next;
      empty_last = each_last (λ (before : List Entry) (_ : Entry). list_any is_empty (added before) ≡ false) [] J e h.sound.empty_last (sym h.ended ∙ going);
    })

    -- hints of the entry that fit
    pub hinted_next : (has_hints w.output.format ≡ true → IsHinted F J e) → has_hints w.output.format ≡ true → AreHinted F grown
    hinted_next fits q = subst (AreHinted F) (sym grown_is) (each_last (IsHinted F) [] J e (h.hinted q) (fits q))

    -- the line stands in the output
    pub has_lines_next : (b : LineState) → w.output.spent ≡ false → PutLine w.output b x → (book_after (book F J) e).next ≡ last_after w.output.last (line_of x) + 1 → HasLines o (mine ++ e ∷ []) w.vars b
    has_lines_next b unspent put next =
        let was = h.lines in
        let put_output : LineState = with_line w.output x in
        subst (λ v. HasLines o (mine ++ e ∷ []) w.vars v) (sym put.state) (record {
          entries = (let n = was.entries in let p = ap (λ (K : List Entry). length K) grown_is in let m = length-append J (e ∷ []) in omega arith);
          last = ap (λ (k : Book). k.next) book_next ∙ next;
          whole = λ q. has_text_next o mine w.output put_output x (was.whole unspent) e one (record { room = put.room; state = refl });
          short = λ q. absurd (false≢true (sym unspent ∙ q));
          target = was.target;
          flushed = was.flushed;
        })

    -- the output failed at the line
    pub stands_failed : (has_hints w.output.format ≡ true → IsHinted F J e) → (b : LineState) → w.output.spent ≡ false → All (IsOn w.vars) (lits_of (line_of x)) → FailedLine w.output b x → Stands o mine (record w { output = b })
    stands_failed fits b unspent on failed =
        let was = h.lines in
        record {
          sound = h.sound;
          hinted = λ q. h.hinted (ap (λ (s : LineState). has_hints s.format) (sym failed.state) ∙ q);
          rulers = h.rulers;
          on = h.on;
          ended = h.ended;
          held = h.held;
          all = h.all;
          alone = h.alone;
          told = h.told;
          every = h.every;
          lines = subst (λ v. HasLines o mine w.vars v) (sym failed.state) (record {
            entries = was.entries;
            last = was.last;
            whole = λ q. absurd (false≢true (sym q));
            short = λ q. has_text_cut o mine w.output (record w.output { spent = true; faults = b.faults; written = b.written }) x (was.whole unspent) e one
                (subst (LogSound F) grown_is sound_next) (λ k. fits (ap has_hints (was.whole unspent).format ∙ k)) w.vars on
                (subst (λ v. FailedLine w.output v x) failed.state failed);
            target = was.target;
            flushed = was.flushed;
          });
        }

  pub told_next : (l : Literal) → is_told F J l ≡ true → is_told F grown l ≡ true
  told_next l t = subst (λ (K : List Entry). is_told F K l ≡ true) (sym grown_is) (told_more F J (e ∷ []) l t)

  pub all_told_next : All (λ l. is_told F grown l ≡ true) w.units
  all_told_next k d lt = told_next _ (h.told k d lt)

-- An addition

module _ (o : Origin) (mine : List Entry) (w : WorkState) (h : Stands o mine w) (lits : List Literal) (number : ℕ) (hints : List ℕ)
    (valid : is_valid (left_alive o mine) (AddLine lits) ≡ true) (going : w.ended ≡ false) where
  abbrev FA : List (List Literal)
  FA = o.formula

  abbrev JA : List Entry
  JA = journal_of o mine

  abbrev ea : Entry
  ea = ruler_adds number lits hints

  abbrev xa : NumberedLine
  xa = Added number lits hints

  added_grown : added (journal_of o (mine ++ ea ∷ [])) ≡ added JA ++ lits ∷ []
  added_grown = ap added (grown_is o mine w h ea xa) ∙ added-append JA (ea ∷ [])

  ended_next : is_empty lits ≡ list_any is_empty (added (journal_of o (mine ++ ea ∷ [])))
  ended_next = sym (
      ap (list_any is_empty) added_grown
      ∙ list_any-append is_empty (added JA) (lits ∷ [])
      ∙ ap (λ b. b || (is_empty lits || false)) (sym h.ended ∙ going)
      ∙ or_none (is_empty lits))

  module _ (next : number ≡ (book FA JA).next) where
    book_is : book FA (journal_of o (mine ++ ea ∷ [])) ≡ record { clause = put (book FA JA).clause (book FA JA).next (Some (clause_of lits)); next = suc (book FA JA).next }
    book_is = book_next o mine w h ea xa

    held_next : (n : ℕ) (c : List Literal) → Contains (w.clauses ++ (number, clause_of lits) ∷ []) (n, c) → option_map clause_of ((book FA (journal_of o (mine ++ ea ∷ []))).clause n) ≡ Some c
    held_next n c k =
        ap (λ (b : Book). option_map clause_of (b.clause n)) book_is
        ∙ ⊎_elim
        (λ (old : Contains w.clauses (n, c)).
        (let is = h.held n c old in
        let t = in_book ((book FA JA).clause n) c is in
        let lt = clause_below (book FA JA) (alive FA (lines FA JA)) n t.0 (journal_matches FA JA h.sound.fits) t.1 in
        ap (option_map clause_of) (put_else (book FA JA).clause (book FA JA).next (Some (clause_of lits)) n (λ q. omega arith)) ∙ is))
        (λ (q : (number, clause_of lits) ≡ (n, c)).
        (let a : number ≡ n = ap (λ (p : ℕ × List Literal). p.0) q in
        let b : clause_of lits ≡ c = ap (λ (p : ℕ × List Literal). p.1) q in
        ap (λ (m : ℕ). option_map clause_of (put (book FA JA).clause (book FA JA).next (Some (clause_of lits)) m)) (sym a ∙ next)
        ∙ ap (option_map clause_of) (put_here (book FA JA).clause (book FA JA).next (Some (clause_of lits)))
        ∙ ap (λ (d : List Literal). Some d) (order_twice lits ∙ b)))
        (Contains_apart w.clauses (number, clause_of lits) (n, c) k)

    alone_next : (n : ℕ) (l : Literal) → Contains (w.clauses ++ (number, clause_of lits) ∷ []) (n, l ∷ []) → (book FA (journal_of o (mine ++ ea ∷ []))).clause n ≡ Some (l ∷ [])
    alone_next n l k =
        ap (λ (b : Book). b.clause n) book_is
        ∙ ⊎_elim
        (λ (old : Contains w.clauses (n, l ∷ [])).
        (let is = h.alone n l old in
        let lt = clause_below (book FA JA) (alive FA (lines FA JA)) n (l ∷ []) (journal_matches FA JA h.sound.fits) is in
        put_else (book FA JA).clause (book FA JA).next (Some (clause_of lits)) n (λ q. omega arith) ∙ is))
        (λ (q : (number, clause_of lits) ≡ (n, l ∷ [])).
        (let a : number ≡ n = ap (λ (p : ℕ × List Literal). p.0) q in
        let b : clause_of lits ≡ l ∷ [] = ap (λ (p : ℕ × List Literal). p.1) q in
        ap (put (book FA JA).clause (book FA JA).next (Some (clause_of lits))) (sym a ∙ next)
        ∙ put_here (book FA JA).clause (book FA JA).next (Some (clause_of lits))
        ∙ ap (λ (d : List Literal). Some d) b))
        (Contains_apart w.clauses (number, clause_of lits) (n, l ∷ []) k)

    all_next : (n : ℕ) (c : List Literal) → (book FA (journal_of o (mine ++ ea ∷ []))).clause n ≡ Some c → Contains (w.clauses ++ (number, clause_of lits) ∷ []) (n, clause_of c) ⊎ IsPassedOver w.unheld c
    all_next n c is =
        at_put (book FA JA).clause (book FA JA).next (Some (clause_of lits)) (λ q. q ≡ Some c → Contains (w.clauses ++ (number, clause_of lits) ∷ []) (n, clause_of c) ⊎ IsPassedOver w.unheld c) n
        (λ here is_new.
        (let a : n ≡ number = here ∙ sym next in
        let same_c : clause_of lits ≡ c = cc in
        let b : clause_of lits ≡ clause_of c = sym (order_twice lits) ∙ ap clause_of same_c in
        inl (subst (λ (p : ℕ × List Literal). Contains (w.clauses ++ (number, clause_of lits) ∷ []) p) (λ i. (sym a i, b i)) (Contains_last w.clauses (number, clause_of lits)))))
        (λ else is_old. elim (h.all n c is_old) as (λ _. Contains (w.clauses ++ (number, clause_of lits) ∷ []) (n, clause_of c) ⊎ IsPassedOver w.unheld c) [ inl i ↦ inl (Contains_left w.clauses ((number, clause_of lits) ∷ []) (n, clause_of c) i) | inr p ↦ inr p ])
        (sym (ap (λ (b : Book). b.clause n) book_is) ∙ is)

    -- a unit more, if the clause is one
    every_next : (l : Literal) → is_told FA (journal_of o (mine ++ ea ∷ [])) l ≡ true → is_unit (record w { clauses = w.clauses ++ (number, clause_of lits) ∷ [] }) l ≡ true
    every_next l t = elim (told_apart FA JA lits (journal_of o (mine ++ ea ∷ [])) added_grown l t) as (λ _. is_unit (record w { clauses = w.clauses ++ (number, clause_of lits) ∷ [] }) l ≡ true) [
      | inl old ↦ unit_left w ((number, clause_of lits) ∷ []) l (h.every l old)
      | inr one ↦ unit_alive (record w { clauses = w.clauses ++ (number, clause_of lits) ∷ [] }) number (clause_of lits) l (Contains_last w.clauses (number, clause_of lits)) (only_clause lits l one)
    ]

    -- hints over the work's clauses are hints over the book
    hints_fit : AreHints w.output w.clauses lits hints → has_hints w.output.format ≡ true → IsHinted FA JA ea
    hints_fit fit q =
        over_same (numbered w.clauses) (book FA JA).clause (λ n c is. (
        let there = in_book ((book FA JA).clause n) c (h.held n c (numbered_there w.clauses n c is)) in
        (there.0, there.1, order_same c there.0 there.2))) hints (has (map opposite lits)) (subst (λ b. HintsFit b (numbered w.clauses) lits hints) q fit)

    pub stands_added : (b : LineState) → w.output.spent ≡ false → All (IsOn w.vars) lits → AreHints w.output w.clauses lits hints → PutLine w.output b xa
        → Stands o (mine ++ ea ∷ []) (record w { clauses = w.clauses ++ (number, clause_of lits) ∷ []; ended = is_empty lits; output = b })
    stands_added b unspent on fit line = record {
      sound = sound_next o mine w h ea xa refl valid (record { numbered = next; names = tt }) going;
      hinted = λ q. hinted_next o mine w h ea xa refl valid (record { numbered = next; names = tt }) going (hints_fit fit) (ap (λ (s : LineState). has_hints s.format) (sym line.state) ∙ q);
      rulers = All-append (λ y. is_rulers y ≡ true) mine (ea ∷ []) h.rulers (one_All (λ y. is_rulers y ≡ true) ea refl);
      on = subst (λ G. All (All (IsOn w.vars)) G) (sym (added-append mine (ea ∷ []))) (All-append (All (IsOn w.vars)) (added mine) (lits ∷ []) h.on (one_All (All (IsOn w.vars)) lits on));
      ended = ended_next;
      held = held_next;
      all = all_next;
      alone = alone_next;
      told = all_told_next o mine w h ea xa;
      every = every_next;
      lines = has_lines_next o mine w h ea xa refl valid (record { numbered = next; names = tt }) going b unspent line (let l = h.lines.last in omega arith);
    }

-- A deletion

one_clause : (o : Origin) (mine : List Entry) (w : WorkState) → Stands o mine w → (n : ℕ) (c d : List Literal) → Contains w.clauses (n, c) → Contains w.clauses (n, d) → c ≡ d
one_clause o mine w h n c d i j = let e : Some c ≡ Some d = sym (h.held n c i) ∙ h.held n d j in cc

module _ (o : Origin) (mine : List Entry) (w : WorkState) (h : Stands o mine w) (number : ℕ) (c : List Literal)
    (alive_c : Contains w.clauses (number, c)) (two : two_or_more c ≡ true) (going : w.ended ≡ false) where
  abbrev FD : List (List Literal)
  FD = o.formula

  abbrev JD : List Entry
  JD = journal_of o mine

  abbrev ed : Entry
  ed = ruler_deletes number

  abbrev xd : NumberedLine
  xd = deleted_line w.output number c

  -- the clause as the book has it
  there : (d : List Literal) × ((book FD JD).clause number ≡ Some d) × (clause_of d ≡ c)
  there = in_book ((book FD JD).clause number) c (h.held number c alive_c)

  alike : same_set c there.0 ≡ true
  alike = order_same c there.0 there.2

  pub one_del : numbered_after (book FD JD) ed ≡ xd ∷ []
  one_del =
      let last : (book FD JD).next - 1 ≡ w.output.last = (let l = h.lines.last in omega arith) in
      (λ i. Deleted (last i) number (clause_of (unwrap_or (there.1 i) [])) ∷ []) ∙ ap (λ (d : List Literal). Deleted w.output.last number d ∷ []) there.2

  pub valid_del : is_valid (alive FD (lines FD JD)) (DelLine c) ≡ true
  valid_del = and_from _ _ (copies_any c (alive FD (lines FD JD)) (same_copies_alive (book FD JD) (alive FD (lines FD JD)) number c there.0 (journal_matches FD JD h.sound.fits) there.1 alike)) (two_more c two)

  pub fit_del : IsFit (book FD JD) ed
  fit_del = record { numbered = tt; names = (there.0, there.1, two_same c there.0 alike two) }

  added_same : added (journal_of o (mine ++ ed ∷ [])) ≡ added JD
  added_same = ap added (grown_is o mine w h ed xd) ∙ added-append JD (ed ∷ []) ∙ append-nil (added JD)

  module _ (cs : List (ℕ × List Literal)) (others : (n : ℕ) (d : List Literal) → Contains cs (n, d) ↔ (Contains w.clauses (n, d) × (n ≢ number))) where
    book_less : (n : ℕ) → (book FD (journal_of o (mine ++ ed ∷ []))).clause n ≡ put (book FD JD).clause number None n
    book_less n = ap (λ (b : Book). b.clause n) (book_next o mine w h ed xd)

    -- a unit is no clause of two literals
    every_left : (l : Literal) → is_told FD (journal_of o (mine ++ ed ∷ [])) l ≡ true → is_unit (record w { clauses = cs }) l ≡ true
    every_left l t = elim (or_cases (has w.units l) (is_alive_unit w l) (h.every l (subst (λ (K : List (List Literal)). list_any (same_set (l ∷ [])) (FD ++ K) ≡ true) added_same t))) as (λ _. is_unit (record w { clauses = cs }) l ≡ true) [
      | inl listed ↦ or_left _ _ listed
      | inr alive ↦ (
          let u = alive_number w l alive in
          let ne : u.0 ≢ number = λ q. long_unit c l two (one_clause o mine w h number c (l ∷ []) alive_c (subst (λ (m : ℕ). Contains w.clauses (m, l ∷ [])) q u.1)) in
          unit_alive (record w { clauses = cs }) u.0 (l ∷ []) l ((others u.0 (l ∷ [])).1 (u.1, ne)) refl)
    ]

    pub stands_deleted : (b : LineState) → w.output.spent ≡ false → PutLine w.output b xd → Stands o (mine ++ ed ∷ []) (record w { clauses = cs; output = b })
    stands_deleted b unspent line = record {
      sound = sound_next o mine w h ed xd one_del valid_del fit_del going;
      hinted = λ q. hinted_next o mine w h ed xd one_del valid_del fit_del going (λ _. tt) (ap (λ (s : LineState). has_hints s.format) (sym line.state) ∙ q);
      rulers = All-append (λ y. is_rulers y ≡ true) mine (ed ∷ []) h.rulers (one_All (λ y. is_rulers y ≡ true) ed refl);
      on = subst (λ G. All (All (IsOn w.vars)) G) (sym (added-append mine (ed ∷ []) ∙ append-nil (added mine))) h.on;
      ended = h.ended ∙ ap (list_any is_empty) (sym added_same);
      held = λ n d k. (let was = (others n d).0 k in ap (option_map clause_of) (book_less n ∙ put_else (book FD JD).clause number None n was.1) ∙ h.held n d was.0);
      all = λ n d is.
          at_put (book FD JD).clause number None (λ q. q ≡ Some d → Contains cs (n, clause_of d) ⊎ IsPassedOver w.unheld d) n
          (λ here none. absurd (cc))
          (λ else is_old. elim (h.all n d is_old) as (λ _. Contains cs (n, clause_of d) ⊎ IsPassedOver w.unheld d) [ inl i ↦ inl ((others n (clause_of d)).1 (i, else)) | inr p ↦ inr p ])
          (sym (book_less n) ∙ is);
      alone = λ n l k. (let was = (others n (l ∷ [])).0 k in book_less n ∙ put_else (book FD JD).clause number None n was.1 ∙ h.alone n l was.0);
      told = all_told_next o mine w h ed xd;
      every = every_left;
      lines = has_lines_next o mine w h ed xd one_del valid_del fit_del going b unspent line h.lines.last;
    }

-- What each call keeps

pub on_clause : (w : WorkState) → IsWork w → (n : ℕ) (c : List Literal) → Contains w.clauses (n, c) → All (IsOn w.vars) c
on_clause w kept n c i = All_In (All (IsOn w.vars)) (lists w.clauses) c kept.clauses_on (In_map (λ (x : ℕ × List Literal). x.1) w.clauses (n, c) (Contains_In w.clauses (n, c) i))

pub nothing_more : (o : Origin) (mine : List Entry) (w : WorkState) → Stands o mine w → Stands o (mine ++ []) w
nothing_more o mine w h = subst (λ es. Stands o es w) (sym (append-nil mine)) h

not_put : (o : Origin) (mine : List Entry) (old new : WorkState) (h : Stands o mine old) (e : Entry) (x : NumberedLine) → numbered_after (book o.formula (journal_of o mine)) e ≡ x ∷ []
    → is_valid (alive o.formula (lines o.formula (journal_of o mine))) (line_of x) ≡ true → IsFit (book o.formula (journal_of o mine)) e → old.ended ≡ false
    → old.output.spent ≡ false → All (IsOn old.vars) (lits_of (line_of x)) → (stop : LineStop) → (stop ≡ ProofFault → has_hints old.output.format ≡ true → IsHinted o.formula (journal_of o mine) e) → NotPut old new x stop → Stands o (mine ++ []) new
not_put o mine old new h e x one valid fit going unspent on ProofFault hinted f =
    nothing_more o mine new (subst (Stands o mine) (sym f.state) (stands_failed o mine old h e x one valid fit going (hinted refl) new.output unspent on f.put))
not_put o mine old new h e x one valid fit going unspent on Full hinted f = nothing_more o mine new (subst (Stands o mine) (sym f.1) h)
not_put o mine old new h e x one valid fit going unspent on Memory hinted f = nothing_more o mine new (subst (Stands o mine) (sym f) h)

-- whatever a work stands over, it still does once these entries follow
abbrev Follows : List Entry → WorkState → WorkState → Type 0
Follows entries old new = (o : Origin) (mine : List Entry) → Stands o mine old → Stands o (mine ++ entries) new

not_put_vars : (old new : WorkState) (x : NumberedLine) (stop : LineStop) → NotPut old new x stop → new.vars ≡ old.vars
not_put_vars old new x ProofFault h = ap (λ (w : WorkState). w.vars) h.state
not_put_vars old new x Full h = ap (λ (w : WorkState). w.vars) h.1
not_put_vars old new x Memory h = ap (λ (w : WorkState). w.vars) h

not_put_format : (old new : WorkState) (x : NumberedLine) (stop : LineStop) → NotPut old new x stop → new.output.format ≡ old.output.format
not_put_format old new x ProofFault h = ap (λ (s : LineState). s.format) h.put.state
not_put_format old new x Full h = ap (λ (w : WorkState). w.output.format) h.1
not_put_format old new x Memory h = ap (λ (w : WorkState). w.output.format) h

next_number : (o : Origin) (mine : List Entry) (w : WorkState) → Stands o mine w → w.output.last + 1 ≡ (book o.formula (journal_of o mine)).next
next_number o mine w h = sym h.lines.last

not_added : (old new : WorkState) (lits : List Literal) (stop : LineStop) → old.output.spent ≡ false → old.ended ≡ false → IsValidOver old lits → All (IsOn old.vars) lits → NotAdded old new lits stop → Continues [] old new
not_added old new lits stop unspent going valid on was =
    let p = not_put_at old new lits stop was in
    record {
      vars = not_put_vars old new (added_line old.output lits p.0) stop p.1;
      format = not_put_format old new (added_line old.output lits p.0) stop p.1;
      stands = λ o mine h. not_put o mine old new h (ruler_adds (old.output.last + 1) lits p.0) (added_line old.output lits p.0) refl (valid o mine h)
          (record { numbered = next_number o mine old h; names = tt }) going unspent on stop (λ is. hints_fit o mine old h lits (old.output.last + 1) p.0 (valid o mine h) going (next_number o mine old h) (hints_not_put old new lits stop was is)) p.1;
    }

pub added_keeps : (old new : WorkState) (lits : List Literal) (result : Result ℕ LineStop) → old.output.spent ≡ false → old.ended ≡ false → IsValidOver old lits → All (IsOn old.vars) lits
    → WasAdded old new lits result → AddsToLog old new lits result
added_keeps old new lits (Ok number) unspent going valid on was = record {
  hints = was.line.hints;
  fit = was.line.fit;
  entries = record {
    vars = ap (λ (w : WorkState). w.vars) was.state;
    format = ap (λ (s : LineState). s.format) was.line.put.state;
    stands = λ o mine h. (
        let given : number ≡ old.output.last + 1 = was.line.given in
        let entry : List Entry = mine ++ ruler_adds (old.output.last + 1) lits was.line.hints ∷ [] in
        subst (Stands o entry) (sym was.state)
        (subst (λ (k : ℕ). Stands o entry (record old { clauses = old.clauses ++ (k, clause_of lits) ∷ []; ended = is_empty lits; output = new.output })) (sym given)
        (stands_added o mine old h lits (old.output.last + 1) was.line.hints (valid o mine h) going (next_number o mine old h) new.output unspent on was.line.fit was.line.put)));
  };
}
added_keeps old new lits (Err stop) unspent going valid on was = record { hints = []; fit = tt; entries = not_added old new lits stop unspent going valid on was }

deleted_stands : (old new : WorkState) (number : ℕ) (c : List Literal) (result : Result (Unit {0}) LineStop) → IsWork old → old.output.spent ≡ false → old.ended ≡ false → Contains old.clauses (number, c) → two_or_more c ≡ true
    → WasDeleted old new number result → Follows (on_ok result (ruler_deletes number ∷ [])) old new
deleted_stands old new number c (Ok done) kept unspent going alive_c two was o mine h =
    let same_c : c ≡ was.clause = one_clause o mine old h number c was.clause alive_c was.alive in
    subst (Stands o (mine ++ ruler_deletes number ∷ [])) (sym was.state)
    (stands_deleted o mine old h number was.clause was.alive (subst (λ d. two_or_more d ≡ true) same_c two) going new.clauses was.others new.output unspent was.put)
deleted_stands old new number c (Err stop) kept unspent going alive_c two was o mine h =
    let same_c : c ≡ was.clause = one_clause o mine old h number c was.clause alive_c was.alive in
    let two_d : two_or_more was.clause ≡ true = subst (λ d. two_or_more d ≡ true) same_c two in
    not_put o mine old new h (ruler_deletes number) (deleted_line old.output number was.clause)
    (one_del o mine old h number was.clause was.alive two_d going) (valid_del o mine old h number was.clause was.alive two_d going) (fit_del o mine old h number was.clause was.alive two_d going)
    going unspent (on_clause old kept number was.clause was.alive) stop (λ is q. tt) was.left

pub deleted_keeps : (old new : WorkState) (number : ℕ) (c : List Literal) (result : Result (Unit {0}) LineStop) → IsWork old → old.output.spent ≡ false → old.ended ≡ false → Contains old.clauses (number, c) → two_or_more c ≡ true
    → WasDeleted old new number result → Continues (on_ok result (ruler_deletes number ∷ [])) old new
deleted_keeps old new number c result kept unspent going alive_c two was = record { vars = same result was; format = format_same result was; stands = deleted_stands old new number c result kept unspent going alive_c two was }
  where
    format_same : (r : Result (Unit {0}) LineStop) → WasDeleted old new number r → new.output.format ≡ old.output.format
    format_same (Ok done) h = ap (λ (s : LineState). s.format) h.put.state
    format_same (Err stop) h = not_put_format old new (deleted_line old.output number h.clause) stop h.left

    same : (r : Result (Unit {0}) LineStop) → WasDeleted old new number r → new.vars ≡ old.vars
    same (Ok done) h = ap (λ (w : WorkState). w.vars) h.state
    same (Err stop) h = not_put_vars old new (deleted_line old.output number h.clause) stop h.left

-- Units

-- each clause alive stands as a set among these
abbrev Comes : Book → List (List Literal) → Type 0
Comes b K = (n : ℕ) (c : List Literal) → b.clause n ≡ Some c → (d : List Literal) × In d K × (same_set c d ≡ true)

comes_step : (b : Book) (K : List (List Literal)) (y : Entry) → Comes b K → Comes (book_after b y) (K ++ added (y ∷ []))
comes_step b K (Add x) h n c =
    at_put b.clause b.next (Some (spelled x)) (λ q. q ≡ Some c → (d : List Literal) × In d (K ++ x.lits ∷ []) × (same_set c d ≡ true)) n
    (λ _ is. (let e : spelled x ≡ c = cc in (x.lits, In_append_right K (x.lits ∷ []) x.lits (inl refl), subst (λ q. same_set q x.lits ≡ true) e (same_back x.lits (spelled x) (spelled_same x)))))
    (λ _ is. (let t = h n c is in (t.0, In_append_left K (x.lits ∷ []) t.0 t.1, t.2)))
comes_step b K (Del r k) h n c =
    at_put b.clause k None (λ q. q ≡ Some c → (d : List Literal) × In d (K ++ []) × (same_set c d ≡ true)) n
    (λ _ is. absurd (cc))
    (λ _ is. (let t = h n c is in (t.0, In_append_left K [] t.0 t.1, t.2)))
comes_step b K (Reduce r) h n c = λ is. let t = h n c is in (t.0, In_append_left K [] t.0 t.1, t.2)
comes_step b K (Round x) h n c = λ is. elim (respelled_from x.starts b.clause n c is) as (λ _. (d : List Literal) × In d (K ++ []) × (same_set c d ≡ true)) [
  | inl kept ↦ (let t = h n c kept in (t.0, In_append_left K [] t.0 t.1, t.2))
  | inr q ↦ (let t = h n q.1 q.2 in (t.0, In_append_left K [] t.0 t.1, same_chain c q.1 t.0 (order_same c q.1 q.3) t.2))
]

comes_all : (b : Book) (K : List (List Literal)) (L : List Entry) → Comes b K → Comes (fold book_after b L) (K ++ added L)
comes_all b K [] h = subst (Comes b) (sym (append-nil K)) h
comes_all b K (y ∷ L) h =
    subst (Comes (fold book_after (book_after b y) L)) (append_assoc K (added (y ∷ [])) (added L) ∙ ap (λ G. K ++ G) (sym (added-append (y ∷ []) L)))
    (comes_all (book_after b y) (K ++ added (y ∷ [])) L (comes_step b K y h))

formula_comes : (G : List (List Literal)) (i : ℕ) (c : List Literal) → option_map clause_of (slice_get G i) ≡ Some c → (d : List Literal) × In d G × (same_set c d ≡ true)
formula_comes [] i c is = absurd (cc)
formula_comes (g ∷ G) zero c is = let e : clause_of g ≡ c = cc in (g, inl refl, subst (λ q. same_set q g ≡ true) e (same_back g (clause_of g) (same_set-clause_of g)))
formula_comes (g ∷ G) (suc i) c is = let t = formula_comes G i c is in (t.0, inr t.1, t.2)

pub alive_comes : (G : List (List Literal)) (L : List Entry) → Comes (book G L) (G ++ added L)
alive_comes G L = comes_all (formula_book G) G L first
  where
    first : Comes (formula_book G) G
    first zero c is = absurd (cc)
    first (suc i) c is = formula_comes G i c is

-- a unit clause that is alive is known
alive_told : (o : Origin) (mine : List Entry) (w : WorkState) → Stands o mine w → (l : Literal) → is_alive_unit w l ≡ true → is_told o.formula (journal_of o mine) l ≡ true
alive_told o mine w h l alive =
    let t = In_any (is_only l) (lists w.clauses) alive in
    let u = map_In (λ (x : ℕ × List Literal). x.1) w.clauses t.0 t.1 in
    let one : u.0.1 ≡ l ∷ [] = u.2 ∙ only_told l t.0 t.2 in
    let there = in_book ((book o.formula (journal_of o mine)).clause u.0.0) u.0.1 (h.held u.0.0 u.0.1 (In_Contains w.clauses u.0 u.1)) in
    let v = alive_comes o.formula (journal_of o mine) u.0.0 there.0 there.1 in
    any_In (same_set (l ∷ [])) (o.formula ++ added (journal_of o mine)) v.0 v.1 (same_chain (l ∷ []) there.0 v.0 (order_same (l ∷ []) there.0 (there.2 ∙ one)) v.2)

-- one unit more, which is known
stands_listed : (o : Origin) (mine : List Entry) (w : WorkState) → Stands o mine w → (l : Literal) → is_told o.formula (journal_of o mine) l ≡ true → Stands o mine (record w { units = w.units ++ l ∷ [] })
stands_listed o mine w h l t = record {
  sound = h.sound;
  hinted = h.hinted;
  rulers = h.rulers;
  on = h.on;
  ended = h.ended;
  held = h.held;
  all = h.all;
  alone = h.alone;
  every = λ k e. listed_more w l k (h.every k e);
  told = All-append (λ k. is_told o.formula (journal_of o mine) k ≡ true) w.units (l ∷ []) h.told (one_All (λ k. is_told o.formula (journal_of o mine) k ≡ true) l t);
  lines = h.lines;
}

told_here : (G : List (List Literal)) (L : List Entry) (n : ℕ) (l : Literal) (hints : List ℕ) → is_told G (L ++ ruler_adds n (l ∷ []) hints ∷ []) l ≡ true
told_here G L n l hints =
    any_In (same_set (l ∷ [])) (G ++ added (L ++ ruler_adds n (l ∷ []) hints ∷ [])) (l ∷ [])
    (In_append_right G (added (L ++ ruler_adds n (l ∷ []) hints ∷ [])) (l ∷ []) (subst (λ K. In (l ∷ []) K) (sym (added-append L (ruler_adds n (l ∷ []) hints ∷ []))) (In_append_right (added L) ((l ∷ []) ∷ []) (l ∷ []) (inl refl))))
    (same_self (l ∷ []))

module _ (old new : WorkState) (l : Literal) (unspent : old.output.spent ≡ false) (going : old.ended ≡ false) (follows : rup (known old) (l ∷ []) ≡ true) (on : IsOn old.vars l) where
  -- its clause is added
  listed_line : (was : ListedLine old new l) → Follows (ruler_adds (old.output.last + 1) (l ∷ []) was.line.hints ∷ []) old new
  listed_line was o mine h =
      let given : was.number ≡ old.output.last + 1 = was.line.given in
      let n : ℕ = old.output.last + 1 in
      let hints : List ℕ = was.line.hints in
      let b : LineState = new.output in
      let added : Stands o (mine ++ ruler_adds n (l ∷ []) hints ∷ []) (record old { clauses = old.clauses ++ (n, l ∷ []) ∷ []; ended = false; output = b }) =
      stands_added o mine old h (l ∷ []) n hints (rup_valid old (l ∷ []) follows o mine h) going (next_number o mine old h) b unspent (one_All (IsOn old.vars) l on) was.line.fit was.line.put in
      let told : is_told o.formula (journal_of o (mine ++ ruler_adds n (l ∷ []) hints ∷ [])) l ≡ true =
      subst (λ K. is_told o.formula K l ≡ true) (append_assoc o.journal mine (ruler_adds n (l ∷ []) hints ∷ [])) (told_here o.formula (journal_of o mine) n l hints) in
      let both = stands_listed o (mine ++ ruler_adds n (l ∷ []) hints ∷ []) (record old { clauses = old.clauses ++ (n, l ∷ []) ∷ []; ended = false; output = b }) added l told in
      subst (Stands o (mine ++ ruler_adds n (l ∷ []) hints ∷ []))
      ((λ i. record old { clauses = old.clauses ++ (sym given i, l ∷ []) ∷ []; units = old.units ++ l ∷ []; ended = sym going i; output = b }) ∙ sym was.state) both

  -- what listing it writes, by whether it was listed and whether its clause was alive
  record Lists (known_yet : Bool) : Type 0 where
    hints : List ℕ
    fit : UnitHints known_yet old l hints
    entries : Continues (entries_for known_yet old l hints) old new

  listed_by : (b a : Bool) → a ≡ is_alive_unit old l → IsListed b a old new l → Lists (b || a)
  listed_by true a is was = record {
    hints = [];
    fit = tt;
    entries = record { vars = ap (λ (w : WorkState). w.vars) was; format = ap (λ (w : WorkState). w.output.format) was; stands = λ o mine h. nothing_more o mine new (subst (Stands o mine) (sym was) h) };
  }
  listed_by false true is was = record {
    hints = [];
    fit = tt;
    entries = record {
      vars = ap (λ (w : WorkState). w.vars) was;
      format = ap (λ (w : WorkState). w.output.format) was;
      stands = λ o mine h. nothing_more o mine new (subst (Stands o mine) (sym was) (stands_listed o mine old h l (alive_told o mine old h l (sym is))));
    };
  }
  listed_by false false is was = record {
    hints = was.line.hints;
    fit = was.line.fit;
    entries = record { vars = ap (λ (w : WorkState). w.vars) was.state; format = ap (λ (s : LineState). s.format) was.line.put.state; stands = listed_line was };
  }

  pub listed_keeps : (result : Result (Unit {0}) LineStop) → WasListed old new l result → ListsInLog old new l result
  listed_keeps (Ok done) was = let t = listed_by (has old.units l) (is_alive_unit old l) refl was in record { hints = t.hints; fit = t.fit; entries = t.entries }
  listed_keeps (Err stop) was = record {
    hints = [];
    fit = tt;
    entries = not_added old new (l ∷ []) stop unspent going (rup_valid old (l ∷ []) follows) (one_All (IsOn old.vars) l on) was;
  }

-- the stack is no matter of the log
pub stands_pushed : (o : Origin) (mine : List Entry) (w : WorkState) → Stands o mine w → (S : List Fix) → Stands o (mine ++ []) (record w { stack = S })
stands_pushed o mine w h S = nothing_more o mine (record w { stack = S }) (record {
  sound = h.sound;
  hinted = h.hinted;
  rulers = h.rulers;
  on = h.on;
  ended = h.ended;
  held = h.held;
  all = h.all;
  alone = h.alone;
  told = h.told;
  every = h.every;
  lines = h.lines;
})
