-- A work that goes on after a journal.
use Rattle.std.proofs.Common.{◌≡◌, ◌⊎◌, ℕ, ◌≤◌, true, false, List, [], ◌∷◌, ◌++◌, refl, sym, ◌∙◌, subst, inl, inr, arith, Some, Contains, append-nil}
use Rattle.std.specs.List.{All, list_any}
use Rattle.std.proofs.lemmas.Bool.{true≢false, or_left, or_parts, cases_Bool}
use Rattle.std.proofs.lemmas.List.Folds.{list_any-append}
use Rattle.sat_words.specs.Literal.{Literal, IsOn}
use Rattle.sat_words.specs.Clause.{has, same_set, is_empty, clause_of}
use Rattle.rup_model.specs.declared.journal.Entry.{Entry}
use Rattle.rup_model.specs.Log.{alive}
use Rattle.rup_model.specs.Journal.{book, lines, added, is_told}
use Rattle.rup_model.proofs.Lists.{In, In_any, In_has, has_In, map_In, In_Contains}
use Rattle.rup_model.proofs.Covers.{has_same}
use Rattle.rup_model.proofs.Numbers.{journal_matches, clause_below}
use Rattle.model_stack.specs.declared.stack.Fix.{Fix}
use Rattle.drat_text.specs.LineState.{LineState}
use Rattle.drat_text.specs.JournalText.{Origin}
use Rattle.drat_text.proofs.JournalLines.{has_text_begun}
use Rattle.simp_base.specs.WorkState.{IsWork, lists, is_alive_unit, resumed, unit_lits}
use Rattle.simp_base.specs.Log.{IsPassedOver, Stands}
use Rattle.simp_base.specs.Parts.{takes_part}
use Rattle.simp_base.specs.Resumed.{Resumes}
use Rattle.simp_base.proofs.Lists.{All_In, In_All}
use Rattle.simp_base.proofs.Keeping.{clause_of_on}
use Rattle.simp_base.proofs.Held.{held_alive}
use Rattle.simp_base.proofs.Order.{in_book}
use Rattle.simp_base.proofs.Steps.{alive_comes}

module _ (F : List (List Literal)) (vars : ℕ) (cells : List (ℕ × List Literal)) (units : List (Literal × ℕ)) (stack : List Fix) (out : LineState) (journal : List Entry)
    (r : Resumes F vars cells units stack out journal) where
  -- the literals of what was given or added are on the variables
  among_on : (c d : List Literal) → In d (F ++ added journal) → ((l : Literal) → has c l ≡ true → has d l ≡ true) → All (IsOn vars) c
  among_on c d i within = In_All (IsOn vars) c (λ l j. All_In (IsOn vars) d l (All_In (All (IsOn vars)) (F ++ added journal) d r.on i) (has_In d l (within l (In_has c l j))))

  alive_on : (n : ℕ) (c : List Literal) → (book F journal).clause n ≡ Some c → All (IsOn vars) c
  alive_on n c is = let t = alive_comes F journal n c is in among_on c t.0 t.1 (λ l h. has_same c t.0 l t.2 h)

  unit_on : (l : Literal) → is_told F journal l ≡ true → IsOn vars l
  unit_on l t =
      let u = In_any (same_set (l ∷ [])) (F ++ added journal) t in
      among_on (l ∷ []) u.0 u.1 (λ k h. has_same (l ∷ []) u.0 k u.2 h) 0 l (omega arith)

  -- a clause as the book has it
  there_in : (x : ℕ × List Literal) → In x cells → (d : List Literal) × ((book F journal).clause x.0 ≡ Some d) × (clause_of d ≡ x.1)
  there_in x i = in_book ((book F journal).clause x.0) x.1 (r.held x.0 x.1 (In_Contains cells x i))

  pub resumed_work : IsWork (resumed vars cells units stack out)
  resumed_work = record {
    unheld = omega arith;
    numbers = r.numbers;
    given = In_All (λ (c : ℕ × List Literal). c.0 ≤ out.last) cells (λ c i. (
        let there = there_in c i in
        let low = clause_below (book F journal) (alive F (lines F journal)) c.0 there.0 (journal_matches F journal r.sound.fits) there.1 in
        let next = r.last in omega arith));
    clauses_on = In_All (All (IsOn vars)) (lists cells) (λ c i. (
        let t = map_In (λ (x : ℕ × List Literal). x.1) cells c i in
        let there = there_in t.0 t.1 in
        subst (λ (d : List Literal). All (IsOn vars) d) (there.2 ∙ t.2) (clause_of_on vars there.0 (alive_on t.0.0 there.0 there.1))));
    units_on = In_All (IsOn vars) (unit_lits units) (λ l i. unit_on l (All_In (λ k. is_told F journal k ≡ true) (unit_lits units) l r.told i));
    stack_on = r.stack_on;
    distinct = r.distinct;
    units_held = held_alive cells units r.units_held;
  }

  not_ended : false ≡ list_any is_empty (added journal)
  not_ended = sym (or_parts (list_any is_empty F) (list_any is_empty (added journal)) (sym (list_any-append is_empty F (added journal)) ∙ r.going)).1

  all_or_passed : (n : ℕ) (c : List Literal) → (book F journal).clause n ≡ Some c → Contains cells (n, clause_of c) ⊎ IsPassedOver vars c
  all_or_passed n c is = elim (cases_Bool (takes_part c)) as (λ _. Contains cells (n, clause_of c) ⊎ IsPassedOver vars c) [
    | inl part ↦ inl (r.all n c is part)
    | inr idle ↦ inr (record { idle = idle; on = alive_on n c is })
  ]

module _ (F : List (List Literal)) (vars : ℕ) (cells : List (ℕ × List Literal)) (units : List (Literal × ℕ)) (stack : List Fix) (out : LineState) (unspent : out.spent ≡ false) (journal : List Entry)
    (r : Resumes F vars cells units stack out journal) where
  abbrev origin : Origin
  origin = record { formula = F; journal = journal; output = out }

  -- the journal without entries of its own
  over : Resumes F vars cells units stack out (journal ++ [])
  over = subst (Resumes F vars cells units stack out) (sym (append-nil journal)) r

  pub resumed_stands : Stands origin [] (resumed vars cells units stack out)
  resumed_stands = record {
    sound = over.sound;
    hinted = over.hinted;
    rulers = λ k d lt. absurd (omega arith);
    on = λ k d lt. absurd (omega arith);
    ended = not_ended F vars cells units stack out (journal ++ []) over;
    held = over.held;
    all = all_or_passed F vars cells units stack out (journal ++ []) over;
    alone = over.alone;
    told = over.told;
    every = λ l t. or_left (has (unit_lits units) l) (is_alive_unit (resumed vars cells units stack out) l) (over.every l t);
    lines = record {
      entries = over.entries;
      last = over.last;
      whole = λ q. has_text_begun origin;
      short = λ q. absurd (true≢false (sym q ∙ unspent));
      target = refl;
      flushed = refl;
    };
  }
