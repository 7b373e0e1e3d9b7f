-- What a ring writes leaves a journal that the ruler can go on from.
use Rattle.std.proofs.Common.{◌≡◌, ◌≢◌, ◌∙◌, ◌||◌, ℕ, zero, suc, ◌+◌, ◌<◌, true, false, not, List, [], ◌∷◌, ◌++◌, length, get_or, Some, None, refl, sym, ap, subst, inl, inr, ⊎_elim, arith, Contains, append_assoc, append-nil, length-append}
use Rattle.std.specs.List.{All, list_any}
use Rattle.std.specs.Option.{option_map}
use Rattle.std.proofs.lemmas.Bool.{and_parts, true≢false, false≢true}
use Rattle.std.proofs.lemmas.List.Elements.{All-append}
use Rattle.std.proofs.lemmas.List.{map-append}
use Rattle.std.proofs.lemmas.List.Folds.{list_any-append}
use Rattle.sat_words.specs.Literal.{Literal, IsOn}
use Rattle.sat_words.specs.Clause.{same_set, is_empty, has_opposites, clause_of, two_or_more}
use Rattle.sat_words.specs.Formats.{has_hints}
use Rattle.rup_model.specs.declared.journal.Addition.{Addition}
use Rattle.rup_model.specs.declared.journal.Entry.{Entry}
use Rattle.rup_model.specs.declared.journal.Entry.TheVariants.{Add, Del}
use Rattle.rup_model.specs.declared.journal.Kind.TheVariants.{Learn}
use Rattle.rup_model.specs.Basics.{put}
use Rattle.rup_model.specs.Rup.{rup}
use Rattle.rup_model.specs.Log.{alive}
use Rattle.rup_model.specs.NumberedLines.{Added, Deleted}
use Rattle.rup_model.specs.Journal.{Book, book, lines, added, is_told}
use Rattle.rup_model.proofs.Growth.{rup_more}
use Rattle.rup_model.proofs.Lists.{In, In_append, In_append_left, In_append_right, map_In, Contains_In, In_Contains}
use Rattle.rup_model.proofs.Sums.{put_here, put_else, at_put}
use Rattle.rup_model.proofs.Units.{unit_short, two_same}
use Rattle.rup_model.proofs.Additions.{added-append, told_more}
use Rattle.rup_model.proofs.Numbers.{journal_matches, clause_below, book_last, rup_alive_sets}
use Rattle.rup_model.proofs.JournalSteps.{not_added, log_adds, log_dels}
use Rattle.model_stack.specs.declared.stack.Fix.{Fix}
use Rattle.drat_text.specs.LineState.{LineState}
use Rattle.drat_text.specs.LineOut.{PutLine}
use Rattle.simp_base.specs.WorkState.{IsWork, IsFixOn, HaveOwnNumbers, lists, resumed, unit_cells, unit_lits}
use Rattle.simp_base.specs.Parts.{takes_part}
use Rattle.simp_base.specs.Resumed.{Resumes}
use Rattle.simp_base.proofs.Lists.{All_In, In_All, one_All, Contains_left, Contains_last, Contains_apart}
use Rattle.simp_base.proofs.Keeping.{numbers_more, clause_of_on}
use Rattle.simp_base.proofs.Held.{held_more}
use Rattle.simp_base.proofs.Order.{in_book, order_same, two_in_order}
use Rattle.simp_base.proofs.Steps.{told_apart}
use Rattle.simp_base.proofs.Resuming.{resumed_work}
use Rattle.ruler_simp.specs.declared.ruling.Simplified.{Simplified}
use Rattle.ruler_simp.proofs.UnitCells.{first_apart, own_both}
use Rattle.test_ruler.specs.Going.{CanGoOn}

-- the number at a place
number_left : (xs ys : List (ℕ × List Literal)) (d : ℕ × List Literal) (k : ℕ) → k < length xs → (get_or (xs ++ ys) k d).0 ≡ (get_or xs k d).0
number_left [] ys d k lt = absurd (omega arith)
number_left (x ∷ xs) ys d zero lt = refl
number_left (x ∷ xs) ys d (suc k) lt = number_left xs ys d k (omega arith)

number_default : (xs : List (ℕ × List Literal)) (k : ℕ) (d e : ℕ × List Literal) → k < length xs → (get_or xs k d).0 ≡ (get_or xs k e).0
number_default [] k d e lt = absurd (omega arith)
number_default (x ∷ xs) zero d e lt = refl
number_default (x ∷ xs) (suc k) d e lt = number_default xs k d e (omega arith)

own_rest : (xs ys : List (ℕ × List Literal)) → HaveOwnNumbers (xs ++ ys) → HaveOwnNumbers xs
own_rest xs ys own i j d ij jl q = own i j d ij (let m = length-append xs ys in omega arith) (number_left xs ys d i (omega arith) ∙ q ∙ sym (number_left xs ys d j jl))

own_tail : (x : ℕ × List Literal) (xs : List (ℕ × List Literal)) → HaveOwnNumbers (x ∷ xs) → HaveOwnNumbers xs
own_tail x xs own i j d ij jl = own (suc i) (suc j) d (omega arith) (omega arith)

own_last : (xs ys : List (ℕ × List Literal)) → HaveOwnNumbers (xs ++ ys) → HaveOwnNumbers ys
own_last [] ys own = own
own_last (x ∷ xs) ys own = own_last xs ys (own_tail x (xs ++ ys) own)

apart_both : (xs ys : List (ℕ × List Literal)) → HaveOwnNumbers (xs ++ ys) → (x y : ℕ × List Literal) → In x xs → In y ys → x.0 ≡ y.0 → ⊥
apart_both [] ys own x y i j q = absurd i
apart_both (z ∷ xs) ys own x y (inl e) j q = first_apart z (xs ++ ys) own y (In_append_right xs ys y j) (ap (λ (c : ℕ × List Literal). c.0) e ∙ q)
apart_both (z ∷ xs) ys own x y (inr i) j q = apart_both xs ys (own_tail z (xs ++ ys) own) x y i j q

turned : (xs ys : List (ℕ × List Literal)) (x : ℕ × List Literal) → Contains (xs ++ ys) x → Contains (ys ++ xs) x
turned xs ys x h = In_Contains (ys ++ xs) x (⊎_elim (λ (i : In x xs). In_append_right ys xs x i) (λ (i : In x ys). In_append_left ys xs x i) (In_append xs ys x (Contains_In (xs ++ ys) x h)))

-- the order of the clauses is free
swapped : (F : List (List Literal)) (vars : ℕ) (xs ys : List (ℕ × List Literal)) (units : List (Literal × ℕ)) (stack : List Fix) (out : LineState) (J : List Entry)
    → Resumes F vars (xs ++ ys) units stack out J → Resumes F vars (ys ++ xs) units stack out J
swapped F vars xs ys units stack out J r = record {
  sound = r.sound;
  hinted = r.hinted;
  going = r.going;
  numbers = own_both ys xs (own_last xs ys r.numbers) (own_rest xs ys r.numbers) (λ y x j i e. apart_both xs ys r.numbers x y i j (sym e));
  held = λ n c h. r.held n c (turned ys xs (n, c) h);
  all = λ n c is part. turned xs ys (n, clause_of c) (r.all n c is part);
  alone = λ n l h. r.alone n l (turned ys xs (n, l ∷ []) h);
  told = r.told;
  every = r.every;
  distinct = r.distinct;
  units_held = λ k d lt. turned xs ys _ (r.units_held k d lt);
  on = r.on;
  stack_on = r.stack_on;
  entries = r.entries;
  last = r.last;
}

-- what follows from some clauses follows from these and more
follows_from_more : (xs ys : List (ℕ × List Literal)) (lits : List Literal) → rup (lists ys) lits ≡ true → rup (lists (xs ++ ys)) lits ≡ true
follows_from_more xs ys lits = rup_more (lists ys) (lists (xs ++ ys)) lits (λ d i.
    subst (λ (G : List (List Literal)). In d G) (sym (map-append (λ (c : ℕ × List Literal). c.1) xs ys)) (In_append_right (lists xs) (lists ys) d i))

not_empty : (c : List Literal) → two_or_more c ≡ true → (is_empty c || false) ≡ false
not_empty [] two = absurd (false≢true two)
not_empty (l ∷ c) two = refl

module _ (F : List (List Literal)) (vars : ℕ) (cells : List (ℕ × List Literal)) (units : List (Literal × ℕ)) (stack : List Fix) (out : LineState) (J : List Entry)
    (r : Resumes F vars cells units stack out J) where
  work : IsWork (resumed vars cells units stack out)
  work = resumed_work F vars cells units stack out J r

  -- what follows from the clauses follows from what is alive
  pub follows_alive : (lits : List Literal) → rup (lists cells) lits ≡ true → rup (alive F (lines F J)) lits ≡ true
  follows_alive lits follows = rup_alive_sets (book F J) (alive F (lines F J)) (lists cells) lits (journal_matches F J r.sound.fits) (λ d i. (
      let t = map_In (λ (c : ℕ × List Literal). c.1) cells d i in
      let there = in_book ((book F J).clause t.0.0) t.0.1 (r.held t.0.0 t.0.1 (In_Contains cells t.0 t.1)) in
      (t.0.0, there.0, there.1, order_same d there.0 (there.2 ∙ t.2)))) follows

  -- A lemma

  module _ (lits : List Literal) (number : ℕ) (next : number ≡ out.last + 1) (follows : rup (lists cells) lits ≡ true) (two : two_or_more lits ≡ true) (on : All (IsOn vars) lits)
      (new : LineState) (entries : new.entries ≡ out.entries + 1) (last : new.last ≡ out.last + 1) (plain : has_hints new.format ≡ false) where
    abbrev x : Addition
    x = record { ring = 0; number = number; lits = lits; kind = Learn; hints = [] }

    abbrev K : List Entry
    K = J ++ Add x ∷ []

    abbrev more : List (ℕ × List Literal)
    more = cells ++ (number, clause_of lits) ∷ []

    added_is : added K ≡ added J ++ lits ∷ []
    added_is = added-append J (Add x ∷ [])

    number_is : number ≡ (book F J).next
    number_is = let n = r.last in omega arith

    book_is : book F K ≡ record { clause = put (book F J).clause (book F J).next (Some lits); next = suc (book F J).next }
    book_is = book_last F J (Add x)

    held : (n : ℕ) (c : List Literal) → Contains more (n, c) → option_map clause_of ((book F K).clause n) ≡ Some c
    held n c k =
        ap (λ (b : Book). option_map clause_of (b.clause n)) book_is
        ∙ ⊎_elim
        (λ (old : Contains cells (n, c)).
        (let is = r.held n c old in
        let t = in_book ((book F J).clause n) c is in
        let lt = clause_below (book F J) (alive F (lines F J)) n t.0 (journal_matches F J r.sound.fits) t.1 in
        ap (option_map clause_of) (put_else (book F J).clause (book F J).next (Some lits) n (λ q. omega arith)) ∙ is))
        (λ (q : (number, clause_of lits) ≡ (n, c)).
        (let a : number ≡ n = ap (λ (p : ℕ × List Literal). p.0) q in
        let b : clause_of lits ≡ c = ap (λ (p : ℕ × List Literal). p.1) q in
        ap (λ (m : ℕ). option_map clause_of (put (book F J).clause (book F J).next (Some lits) m)) (sym a ∙ number_is)
        ∙ ap (option_map clause_of) (put_here (book F J).clause (book F J).next (Some lits))
        ∙ ap (λ (d : List Literal). Some d) b))
        (Contains_apart cells (number, clause_of lits) (n, c) k)

    all : (n : ℕ) (c : List Literal) → (book F K).clause n ≡ Some c → takes_part c ≡ true → Contains more (n, clause_of c)
    all n c is part =
        at_put (book F J).clause (book F J).next (Some lits) (λ q. q ≡ Some c → Contains more (n, clause_of c)) n
        (λ here is_new.
        (let a : n ≡ number = here ∙ sym number_is in
        let same_c : lits ≡ c = cc in
        subst (λ (p : ℕ × List Literal). Contains more p) (λ i. (sym a i, clause_of (same_c i))) (Contains_last cells (number, clause_of lits))))
        (λ else is_old. Contains_left cells ((number, clause_of lits) ∷ []) (n, clause_of c) (r.all n c is_old part))
        (sym (ap (λ (b : Book). b.clause n) book_is) ∙ is)

    -- a clause of two literals is no unit
    no_unit : (l : Literal) → clause_of lits ≡ l ∷ [] → ⊥
    no_unit l q = false≢true (ap two_or_more (sym q) ∙ two_in_order lits ∙ two)

    alone : (n : ℕ) (l : Literal) → Contains more (n, l ∷ []) → (book F K).clause n ≡ Some (l ∷ [])
    alone n l k =
        ap (λ (b : Book). b.clause n) book_is
        ∙ ⊎_elim
        (λ (old : Contains cells (n, l ∷ [])).
        (let is = r.alone n l old in
        let lt = clause_below (book F J) (alive F (lines F J)) n (l ∷ []) (journal_matches F J r.sound.fits) is in
        put_else (book F J).clause (book F J).next (Some lits) n (λ q. omega arith) ∙ is))
        (λ (q : (number, clause_of lits) ≡ (n, l ∷ [])). absurd (no_unit l (ap (λ (p : ℕ × List Literal). p.1) q)))
        (Contains_apart cells (number, clause_of lits) (n, l ∷ []) k)

    -- a lemma of two literals is no unit
    still_told : (l : Literal) → is_told F K l ≡ true → is_told F J l ≡ true
    still_told l t = elim (told_apart F J lits K added_is l t) as (λ _. is_told F J l ≡ true) [ inl old ↦ old | inr one ↦ absurd (true≢false (sym two ∙ unit_short l lits one)) ]

    pub learned_resumes : Resumes F vars more units stack new K
    learned_resumes = record {
      sound = log_adds F J r.sound x number_is (follows_alive lits follows) (not_added F J r.going);
      hinted = λ h. absurd (true≢false (sym h ∙ plain));
      going =
          ap (λ (G : List (List Literal)). list_any is_empty (F ++ G)) added_is ∙ ap (list_any is_empty) (sym (append_assoc F (added J) (lits ∷ [])))
          ∙ list_any-append is_empty (F ++ added J) (lits ∷ []) ∙ ap (λ b. b || (is_empty lits || false)) r.going ∙ not_empty lits two;
      numbers = numbers_more cells out.last number (clause_of lits) r.numbers work.given (omega arith);
      held = held;
      all = all;
      alone = alone;
      told = λ k d lt. told_more F J (Add x ∷ []) (get_or (unit_lits units) k d) (r.told k d lt);
      every = λ l t. r.every l (still_told l t);
      distinct = r.distinct;
      units_held = held_more cells (number, clause_of lits) units r.units_held;
      on = subst (λ (G : List (List Literal)). All (All (IsOn vars)) G) (append_assoc F (added J) (lits ∷ []) ∙ ap (λ (G : List (List Literal)). F ++ G) (sym added_is))
          (All-append (All (IsOn vars)) (F ++ added J) (lits ∷ []) r.on (one_All (All (IsOn vars)) lits on));
      stack_on = r.stack_on;
      entries = (let n = r.entries in let m = length-append J (Add x ∷ []) in omega arith);
      last = (let n = r.last in let m = ap (λ (b : Book). b.next) book_is in omega arith);
    }

  -- A deletion

  module _ (rest : List (ℕ × List Literal)) (n : ℕ) (c : List Literal) (are : cells ≡ rest ++ (n, c) ∷ []) (two : two_or_more c ≡ true) (new : LineState) (entries : new.entries ≡ out.entries + 1) (last : new.last ≡ out.last) (plain : has_hints new.format ≡ false) where
    abbrev D : List Entry
    D = J ++ Del 0 n ∷ []

    here : Contains cells (n, c)
    here = subst (λ (xs : List (ℕ × List Literal)). Contains xs (n, c)) (sym are) (Contains_last rest (n, c))

    there : (d : List Literal) × ((book F J).clause n ≡ Some d) × (clause_of d ≡ c)
    there = in_book ((book F J).clause n) c (r.held n c here)

    left : (m : ℕ) (d : List Literal) → Contains rest (m, d) → Contains cells (m, d)
    left m d i = subst (λ (xs : List (ℕ × List Literal)). Contains xs (m, d)) (sym are) (Contains_left rest ((n, c) ∷ []) (m, d) i)

    -- no other clause has the number
    apart : (m : ℕ) (d : List Literal) → Contains rest (m, d) → m ≢ n
    apart m d i e =
        let own : HaveOwnNumbers (rest ++ (n, c) ∷ []) = subst HaveOwnNumbers are r.numbers in
        own i.0 (length rest) (n, c) i.1 (let k = length-append rest ((n, c) ∷ []) in omega arith)
        (number_left rest ((n, c) ∷ []) (n, c) i.0 i.1 ∙ apart_here m d i ∙ e ∙ sym (ap (λ (y : ℕ × List Literal). y.0) (at_end rest)))
      where
        apart_here : (k : ℕ) (b : List Literal) (h : Contains rest (k, b)) → (get_or rest h.0 (n, c)).0 ≡ k
        apart_here k b h = number_default rest h.0 (n, c) (k, b) h.1 ∙ ap (λ (y : ℕ × List Literal). y.0) h.2

        at_end : (zs : List (ℕ × List Literal)) → get_or (zs ++ (n, c) ∷ []) (length zs) (n, c) ≡ (n, c)
        at_end [] = refl
        at_end (z ∷ zs) = at_end zs

    book_less : (m : ℕ) → (book F D).clause m ≡ put (book F J).clause n None m
    book_less m = ap (λ (b : Book). b.clause m) (book_last F J (Del 0 n))

    added_same : added D ≡ added J
    added_same = added-append J (Del 0 n ∷ []) ∙ append-nil (added J)

    kept : (m : ℕ) (d : List Literal) → m ≢ n → Contains cells (m, d) → Contains rest (m, d)
    kept m d ne i = elim (Contains_apart rest (n, c) (m, d) (subst (λ (xs : List (ℕ × List Literal)). Contains xs (m, d)) are i)) as (λ _. Contains rest (m, d)) [
      | inl old ↦ old
      | inr q ↦ absurd (ne (ap (λ (p : ℕ × List Literal). p.0) (sym q)))
    ]

    -- the clause of a unit is another one
    not_deleted : (m : ℕ) (l : Literal) → Contains cells (m, l ∷ []) → m ≢ n
    not_deleted m l h e =
        let both : Some (l ∷ []) ≡ Some c = sym (r.held m (l ∷ []) h) ∙ ap (λ (k : ℕ). option_map clause_of ((book F J).clause k)) e ∙ r.held n c here in
        let same : l ∷ [] ≡ c = cc in
        false≢true (ap two_or_more same ∙ two)

    pub deleted_resumes : Resumes F vars rest units stack new D
    deleted_resumes = record {
      sound = log_dels F J r.sound 0 n there.0 there.1 (two_same c there.0 (order_same c there.0 there.2) two) (not_added F J r.going);
      hinted = λ h. absurd (true≢false (sym h ∙ plain));
      going = ap (λ (G : List (List Literal)). list_any is_empty (F ++ G)) added_same ∙ r.going;
      numbers = own_rest rest ((n, c) ∷ []) (subst HaveOwnNumbers are r.numbers);
      held = λ m d i. (ap (option_map clause_of) (book_less m ∙ put_else (book F J).clause n None m (apart m d i)) ∙ r.held m d (left m d i));
      all = λ m d is part.
          at_put (book F J).clause n None (λ q. q ≡ Some d → Contains rest (m, clause_of d)) m
          (λ _ none. absurd (cc))
          (λ else is_old. kept m (clause_of d) else (r.all m d is_old part))
          (sym (book_less m) ∙ is);
      alone = λ m l i. book_less m ∙ put_else (book F J).clause n None m (apart m (l ∷ []) i) ∙ r.alone m l (left m (l ∷ []) i);
      told = λ k d lt. told_more F J (Del 0 n ∷ []) (get_or (unit_lits units) k d) (r.told k d lt);
      every = λ l t. r.every l (subst (λ (G : List (List Literal)). list_any (same_set (l ∷ [])) (F ++ G) ≡ true) added_same t);
      distinct = r.distinct;
      units_held = λ k d lt. (let h = r.units_held k d lt in kept _ _ (not_deleted _ _ h) h);
      on = subst (λ (G : List (List Literal)). All (All (IsOn vars)) (F ++ G)) (sym added_same) r.on;
      stack_on = r.stack_on;
      entries = (let k = r.entries in let m = length-append J (Del 0 n ∷ []) in omega arith);
      last = (let k = r.last in let m = ap (λ (b : Book). b.next) (book_last F J (Del 0 n)) in omega arith);
    }

-- What the ruler can go on with

on_of : (vars : ℕ) (cells : List (ℕ × List Literal)) (n : ℕ) (c : List Literal) → All (λ (x : ℕ × List Literal). All (IsOn vars) x.1) cells → All (IsOn vars) c → All (λ (x : ℕ × List Literal). All (IsOn vars) x.1) (cells ++ (n, c) ∷ [])
on_of vars cells n c each on = All-append (λ (x : ℕ × List Literal). All (IsOn vars) x.1) cells ((n, c) ∷ []) each (one_All (λ (x : ℕ × List Literal). All (IsOn vars) x.1) (n, c) on)

on_front : (vars : ℕ) (cells : List (ℕ × List Literal)) (x : ℕ × List Literal) → All (λ (y : ℕ × List Literal). All (IsOn vars) y.1) (cells ++ x ∷ []) → All (λ (y : ℕ × List Literal). All (IsOn vars) y.1) cells
on_front vars cells x each = In_All (λ (y : ℕ × List Literal). All (IsOn vars) y.1) cells (λ y i. All_In (λ (z : ℕ × List Literal). All (IsOn vars) z.1) (cells ++ x ∷ []) y each (In_append_left cells (x ∷ []) y i))

module _ (F : List (List Literal)) (s t : Simplified) (out new : LineState) (can : CanGoOn F s out) (vars : t.vars ≡ s.vars) (units : t.units.items ≡ s.units.items) (stack : t.stack ≡ s.stack) where
  can_with : (cells : List (ℕ × List Literal)) → t.start.items ≡ cells → All (λ (x : ℕ × List Literal). All (IsOn s.vars) x.1) cells → new.spent ≡ out.spent → new.format ≡ out.format
      → (K : List Entry) → Resumes F s.vars (cells ++ unit_cells s.units.items) s.units.items s.stack new K → CanGoOn F t new
  can_with cells start on still same K r = record {
    on = record {
      start = subst (λ (xs : List (ℕ × List Literal)). All (λ (x : ℕ × List Literal). All (IsOn t.vars) x.1) xs) (sym start) (subst (λ (v : ℕ). All (λ (x : ℕ × List Literal). All (IsOn v) x.1) cells) (sym vars) on);
      units = subst (λ (us : List (Literal × ℕ)). All (IsOn t.vars) (unit_lits us)) (sym units) (subst (λ (v : ℕ). All (IsOn v) (unit_lits s.units.items)) (sym vars) can.on.units);
      stack = subst (λ (S : List Fix). All (IsFixOn t.vars) S) (sym stack) (subst (λ (v : ℕ). All (IsFixOn v) s.stack) (sym vars) can.on.stack);
    };
    unspent = still ∙ can.unspent;
    plain = ap has_hints same ∙ can.plain;
    resumes = (
      K,
      subst (λ (v : ℕ). Resumes F v (t.start.items ++ unit_cells t.units.items) t.units.items t.stack new K) (sym vars)
          (subst (λ (xs : List (ℕ × List Literal)). Resumes F s.vars (xs ++ unit_cells t.units.items) t.units.items t.stack new K) (sym start)
          (subst (λ (us : List (Literal × ℕ)). Resumes F s.vars (cells ++ unit_cells us) us t.stack new K) (sym units)
          (subst (λ (S : List Fix). Resumes F s.vars (cells ++ unit_cells s.units.items) s.units.items S new K) (sym stack) r))),
    );
  }

  -- once a ring learned a clause
  pub learned_can : (lits : List Literal) (number : ℕ) → PutLine out new (Added (out.last + 1) lits []) → number ≡ out.last + 1 → t.start.items ≡ s.start.items ++ (number, clause_of lits) ∷ []
      → rup (lists s.start.items) lits ≡ true → takes_part (clause_of lits) ≡ true → All (IsOn s.vars) lits → CanGoOn F t new
  learned_can lits number line given start follows part on =
      let r = can.resumes in
      let listed : List (ℕ × List Literal) = unit_cells s.units.items in
      let two : two_or_more lits ≡ true = sym (two_in_order lits) ∙ (and_parts (two_or_more (clause_of lits)) (not (has_opposites (clause_of lits))) part).0 in
      can_with (s.start.items ++ (number, clause_of lits) ∷ []) start (on_of s.vars s.start.items number (clause_of lits) can.on.start (clause_of_on s.vars lits on))
      (ap (λ (x : LineState). x.spent) line.state) (ap (λ (x : LineState). x.format) line.state) (r.0 ++ Add (record { ring = 0; number = number; lits = lits; kind = Learn; hints = [] }) ∷ [])
      (swapped F s.vars listed (s.start.items ++ (number, clause_of lits) ∷ []) s.units.items s.stack new (r.0 ++ Add (record { ring = 0; number = number; lits = lits; kind = Learn; hints = [] }) ∷ [])
      (subst (λ (cells : List (ℕ × List Literal)). Resumes F s.vars cells s.units.items s.stack new (r.0 ++ Add (record { ring = 0; number = number; lits = lits; kind = Learn; hints = [] }) ∷ []))
      (append_assoc listed s.start.items ((number, clause_of lits) ∷ []))
      (learned_resumes F s.vars (listed ++ s.start.items) s.units.items s.stack out r.0 (swapped F s.vars s.start.items listed s.units.items s.stack out r.0 r.1) lits number given
      (follows_from_more listed s.start.items lits follows) two on new (ap (λ (x : LineState). x.entries) line.state) (ap (λ (x : LineState). x.last) line.state)
      (ap (λ (x : LineState). has_hints x.format) line.state ∙ can.plain))))

  -- once a ring deleted the last clause
  pub deleted_can : (c : List Literal) (n : ℕ) → PutLine out new (Deleted out.last n c) → s.start.items ≡ t.start.items ++ (n, c) ∷ [] → takes_part c ≡ true → CanGoOn F t new
  deleted_can c n line start part =
      let r = can.resumes in
      let listed : List (ℕ × List Literal) = unit_cells s.units.items in
      can_with t.start.items refl (on_front s.vars t.start.items (n, c) (subst (λ (xs : List (ℕ × List Literal)). All (λ (x : ℕ × List Literal). All (IsOn s.vars) x.1) xs) start can.on.start))
      (ap (λ (x : LineState). x.spent) line.state) (ap (λ (x : LineState). x.format) line.state) (r.0 ++ Del 0 n ∷ [])
      (swapped F s.vars listed t.start.items s.units.items s.stack new (r.0 ++ Del 0 n ∷ [])
      (deleted_resumes F s.vars (listed ++ s.start.items) s.units.items s.stack out r.0 (swapped F s.vars s.start.items listed s.units.items s.stack out r.0 r.1) (listed ++ t.start.items) n c
      (ap (λ (cells : List (ℕ × List Literal)). listed ++ cells) start ∙ sym (append_assoc listed t.start.items ((n, c) ∷ []))) (and_parts (two_or_more c) (not (has_opposites c)) part).0 new
      (ap (λ (x : LineState). x.entries) line.state) (ap (λ (x : LineState). x.last) line.state) (ap (λ (x : LineState). has_hints x.format) line.state ∙ can.plain)))

-- with nothing on the stack
pub unstacked_can : (F : List (List Literal)) (s t : Simplified) (out : LineState) → CanGoOn F s out → t.vars ≡ s.vars → t.start.items ≡ s.start.items → t.units.items ≡ s.units.items → t.stack ≡ [] → CanGoOn F t out
unstacked_can F s t out can vars start units stack = record {
  on = record {
    start = subst (λ (xs : List (ℕ × List Literal)). All (λ (x : ℕ × List Literal). All (IsOn t.vars) x.1) xs) (sym start) (subst (λ (v : ℕ). All (λ (x : ℕ × List Literal). All (IsOn v) x.1) s.start.items) (sym vars) can.on.start);
    units = subst (λ (us : List (Literal × ℕ)). All (IsOn t.vars) (unit_lits us)) (sym units) (subst (λ (v : ℕ). All (IsOn v) (unit_lits s.units.items)) (sym vars) can.on.units);
    stack = subst (λ (S : List Fix). All (IsFixOn t.vars) S) (sym stack) (λ k d lt. absurd (omega arith));
  };
  unspent = can.unspent;
  plain = can.plain;
  resumes = (
    can.resumes.0,
    subst (λ (v : ℕ). Resumes F v (t.start.items ++ unit_cells t.units.items) t.units.items t.stack out can.resumes.0) (sym vars)
        (subst (λ (xs : List (ℕ × List Literal)). Resumes F s.vars (xs ++ unit_cells t.units.items) t.units.items t.stack out can.resumes.0) (sym start)
        (subst (λ (us : List (Literal × ℕ)). Resumes F s.vars (s.start.items ++ unit_cells us) us t.stack out can.resumes.0) (sym units)
        (subst (λ (S : List Fix). Resumes F s.vars (s.start.items ++ unit_cells s.units.items) s.units.items S out can.resumes.0) (sym stack) none))),
  );
}
  where
    r : Resumes F s.vars (s.start.items ++ unit_cells s.units.items) s.units.items s.stack out can.resumes.0
    r = can.resumes.1

    none : Resumes F s.vars (s.start.items ++ unit_cells s.units.items) s.units.items [] out can.resumes.0
    none = record {
      sound = r.sound;
      hinted = r.hinted;
      going = r.going;
      numbers = r.numbers;
      held = r.held;
      all = r.all;
      alone = r.alone;
      told = r.told;
      every = r.every;
      distinct = r.distinct;
      units_held = r.units_held;
      on = r.on;
      stack_on = λ k d lt. absurd (omega arith);
      entries = r.entries;
      last = r.last;
    }
