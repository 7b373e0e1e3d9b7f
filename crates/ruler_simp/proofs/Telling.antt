-- What simplifying a formula comes to.
use Rattle.std.proofs.Common.{◌≡◌, ◌∙◌, ℕ, zero, suc, ◌+◌, ◌<◌, ◌≤◌, ◌==◌, ◌||◌, not, nat_eq, Bool, true, false, cond, List, [], ◌∷◌, ◌++◌, map, filter, length, get_or, refl, sym, ap, subst, inl, inr, arith, length-append, append-nil, eq-eqb, Some, Contains}
use Rattle.std.specs.Prelude.{Result, Ok, Err}
use Rattle.std.specs.List.{list_any, All, IsDistinct}
use Rattle.std.specs.Option.{option_map}
use Rattle.std.proofs.lemmas.Bool.{and_parts, or_parts, not-true, true≢false}
use Rattle.std.proofs.lemmas.List.Folds.{list_any-append}
use Rattle.std.proofs.lemmas.List.Sorted.{IsPermutation-sym, Contains-permutation}
use Rattle.sat_words.specs.Literal.{Literal, IsOn}
use Rattle.sat_words.specs.Clause.{has, InOrder, is_empty, distinct_lits, has_opposites, two_or_more, clause_of}
use Rattle.sat_words.specs.Truth.{formula_true}
use Rattle.sat_words.specs.FormulaData.{FormulaData}
use Rattle.rup_model.specs.declared.journal.Round.{Round as RoundStart}
use Rattle.rup_model.specs.declared.journal.Entry.{Entry}
use Rattle.rup_model.specs.declared.journal.Entry.TheVariants.{Round}
use Rattle.rup_model.specs.Journal.{Book, book, added, is_told, LogSound}
use Rattle.rup_model.specs.Opening.{Start, IsRulersPart, IsStart, IsOpening, OpensAfter, program_opening}
use Rattle.rup_model.proofs.Lists.{In, any_In, In_map, map_In, Contains_In, In_Contains}
use Rattle.rup_model.proofs.Additions.{added-append, told_more}
use Rattle.rup_model.proofs.Numbers.{book_last}
use Rattle.rup_model.proofs.JournalSteps.{log_rounds}
use Rattle.rup_model.proofs.Units.{two_long}
use Rattle.rup_model.proofs.ProgramOpening.{All_from_In, distinct_in_order, program_numbers, program_opens}
use Rattle.rup_model.proofs.Refuting.{added_empty_refutes}
use Rattle.model_stack.specs.declared.stack.Fix.{Fix}
use Rattle.model_stack.specs.Extend.{extend, Lifts}
use Rattle.drat_text.specs.LineState.{LineState}
use Rattle.drat_text.specs.JournalText.{Origin}
use Rattle.drat_text.specs.declared.stop.LineStop.{LineStop}
use Rattle.drat_text.specs.declared.stop.LineStop.TheVariants.{Memory}
use Rattle.simp_base.specs.WorkState.{WorkState, IsWork, IsFixOn, lists, unit_clauses, known, begun, is_alive_unit, unit_lits}
use Rattle.simp_base.specs.Log.{journal_of, Stands}
use Rattle.simp_base.specs.Parts.{takes_part}
use Rattle.simp_base.specs.Causes.{HasOutputCause}
use Rattle.simp_base.specs.declared.work.Run.{Run}
use Rattle.simp_base.specs.declared.work.Run.TheVariants.{Done as RunDone, Refuted as RunRefuted}
use Rattle.simp_base.proofs.Begin.{begun_work, begun_stands}
use Rattle.simp_base.proofs.Filters.{filter_In}
use Rattle.simp_base.proofs.Lists.{All_In}
use Rattle.simp_base.proofs.Order.{held_ordered}
use Rattle.simp_base.proofs.Widening.{grows_none}
use Rattle.ruler_simp.specs.declared.ruling.Simplified.{Simplified}
use Rattle.ruler_simp.specs.declared.ruling.Outcome.{Outcome}
use Rattle.ruler_simp.specs.declared.ruling.Outcome.TheVariants.{Simplified as LeftOver, Refuted as NoModel}
use Rattle.ruler_simp.specs.declared.rounds.Schedule.{Schedule}
use Rattle.ruler_simp.specs.Rounds.{SimplifiedIn, WasSimplified}
use Rattle.ruler_simp.specs.Left.{start_of, left_clauses, IsLeft, IsTaken}
use Rattle.ruler_simp.specs.Ruled.{AreOn, HaveUnitNumbers, IsSimplified, origin_of, Ruled}
use Rattle.ruler_simp.specs.Again.{ResumesAs, LiftsOn, round_start, before_round, IsSimplifiedAgain, RuledAgain}
use Rattle.ruler_simp.proofs.Going.{IsReady, GoesOn, IsOver}
use Rattle.ruler_simp.proofs.Running.{whole_log, whole_vars, whole_comes, whole_first, whole_last}
use Rattle.ruler_simp.proofs.Units.{rulers_part, units_are}
use Rattle.ruler_simp.proofs.Numbered.{Cell, starts_are}
use Rattle.ruler_simp.proofs.Leaving.{good, held_some, none_empty, formula_holds, known_holds}

-- All literals are on the variables

on_left : (w : WorkState) (s : Simplified) → IsWork w → IsLeft w s → AreOn w.vars s
on_left w s kept left = record {
  start = All_from_In (λ (c : Cell). All (IsOn w.vars) c.1) s.start.items (λ c i.
      All_In (All (IsOn w.vars)) (lists w.clauses) c.1 kept.clauses_on (In_map (λ (x : Cell). x.1) w.clauses c (filter_In (λ (x : Cell). takes_part x.1) w.clauses c (Contains_In cells c (Contains-permutation s.start.items cells c (IsPermutation-sym cells s.start.items left.kept) (In_Contains s.start.items c i)))).0));
  units = subst (λ (us : List Literal). All (IsOn w.vars) us) (sym left.units) kept.units_on;
  stack = subst (λ (S : List Fix). All (IsFixOn w.vars) S) (sym left.stack) kept.stack_on;
}
  where
    cells : List Cell
    cells = filter (λ (x : Cell). takes_part x.1) w.clauses

-- The work that is left

module _ (o : Origin) (mine : List Entry) (start w : WorkState) (st : Stands o mine w) (kept : IsWork w) (goes : GoesOn start w) (none : list_any is_empty o.formula ≡ false)
    (alone : (l : Literal) → is_alive_unit w l ≡ true → has w.units l ≡ true) (s : Simplified) (left : IsLeft w s) where
  abbrev K : List Entry
  K = journal_of o mine

  unended : list_any is_empty (added K) ≡ false
  unended = sym st.ended ∙ goes.ready.going

  within : (n : ℕ) (c : List Literal) → (book o.formula K).clause n ≡ Some c → (1 ≤ n) × (n < 1 + length (o.formula ++ added K))
  within n c is =
      let t = good o.formula K none unended n c is in
      let m = length-append o.formula (added K) in
      (t.0, (let lt = t.1 in omega arith))

  part_held : (n : ℕ) (c : List Literal) → (book o.formula K).clause n ≡ Some c → takes_part c ≡ true → Contains w.clauses (n, clause_of c)
  part_held n c is part = elim (st.all n c is) as (λ _. Contains w.clauses (n, clause_of c)) [ inl i ↦ i | inr p ↦ absurd (true≢false (sym part ∙ p.idle)) ]

  -- the work's clauses have their literals in order, and none is empty
  in_order : (n : ℕ) (c : List Literal) → Contains w.clauses (n, c) → InOrder c
  in_order n c i = held_ordered ((book o.formula K).clause n) c (st.held n c i)

  some : (n : ℕ) (c : List Literal) → Contains w.clauses (n, c) → is_empty c ≡ false
  some n c i = held_some ((book o.formula K).clause n) c (st.held n c i) (λ d is. (good o.formula K none unended n d is).2)

  pub starts : map start_of s.start.items ≡ (program_opening o.formula K).starts
  starts = starts_are (book o.formula K) (length (o.formula ++ added K)) w.clauses s.start.items kept.numbers left.kept left.sorted st.held part_held within

  pub told : All (λ l. is_told o.formula K l ≡ true) (unit_lits s.units.items)
  told = subst (λ (us : List Literal). All (λ l. is_told o.formula K l ≡ true) us) (sym left.units) st.told

  pub distinct : distinct_lits (unit_lits s.units.items) ≡ true
  distinct = ap distinct_lits left.units ∙ kept.distinct

  -- the number of each unit is that of its clause
  pub numbered : HaveUnitNumbers (book o.formula K) s.units.items
  numbered k d lt = st.alone _ _ (left.held k d lt)

  pub units : (l : Literal) → has (unit_lits s.units.items) l ≡ has (program_opening o.formula K).units l
  units l = ap (λ (us : List Literal). has us l) left.units ∙ units_are o mine w st alone l

  -- a model of what is left, mended by what came to the stack, is one of what there was
  pub lifts_on : LiftsOn start s
  lifts_on = record {
    fixes = goes.lifted.fixes;
    stack = left.stack ∙ goes.lifted.stack;
    lifts = λ a t. goes.lifted.lifts a
        (known_holds w s.start.items left.kept in_order some alone a
        (subst (λ (us : List Literal). formula_true a (lists s.start.items ++ unit_clauses us) ≡ true) left.units t));
  }

  pub on : AreOn s.vars s
  on = subst (λ (v : ℕ). AreOn v s) (sym left.vars) (on_left w s kept left)

  -- the start clauses are those of the work that take part
  from_work : (x : Cell) → In x s.start.items → In x w.clauses × (takes_part x.1 ≡ true)
  from_work x i =
      let cells : List Cell = filter (λ (c : Cell). takes_part c.1) w.clauses in
      filter_In (λ (c : Cell). takes_part c.1) w.clauses x (Contains_In cells x (Contains-permutation s.start.items cells x (IsPermutation-sym cells s.start.items left.kept) (In_Contains s.start.items x i)))

  -- An entry begins the next round

  abbrev next_start : RoundStart
  next_start = round_start s

  abbrev R : List Entry
  R = before_round K s

  added_same : added R ≡ added K
  added_same = added-append K (Round next_start ∷ []) ∙ append-nil (added K)

  -- a start clause is spelled in order from there on
  alive_there : (n : ℕ) (c : List Literal) → In (n, c) s.start.items → Contains w.clauses (n, c) → (book o.formula R).clause n ≡ Some c
  alive_there n c i there =
      let among : list_any (λ m. m == n) next_start.starts ≡ true = any_In (λ (m : ℕ). m == n) next_start.starts n (In_map (λ (x : Cell). x.0) s.start.items (n, c) i) (eq-eqb n n refl) in
      ap (λ (b : Book). b.clause n) (book_last o.formula K (Round next_start))
      ∙ ap (λ (t : Bool). cond t (option_map clause_of ((book o.formula K).clause n)) ((book o.formula K).clause n)) among
      ∙ st.held n c there

  -- they are alive and long
  each_start : All (IsStart (book o.formula R)) (map start_of s.start.items)
  each_start = All_from_In (IsStart (book o.formula R)) (map start_of s.start.items) (λ x i. (
      let t = map_In start_of s.start.items x i in
      let m = from_work t.0 t.1 in
      let there : Contains w.clauses (t.0.0, t.0.1) = In_Contains w.clauses t.0 m.0 in
      let parts = and_parts (two_or_more t.0.1) (not (has_opposites t.0.1)) m.1 in
      subst (IsStart (book o.formula R)) t.2 (record {
        alive = alive_there t.0.0 t.0.1 t.1 there;
        shape = record { long = two_long t.0.1 parts.0; distinct = distinct_in_order t.0.1 (in_order t.0.0 t.0.1 there); no_opposites = not-true (has_opposites t.0.1) parts.1 };
      })))

  sound_there : LogSound o.formula R
  sound_there = log_rounds o.formula K st.sound next_start unended

  pub opens_after : OpensAfter o.formula (record { journal = R; starts = map start_of s.start.items; units = unit_lits s.units.items })
  opens_after = record {
    fits = sound_there.fits;
    accepted = sound_there.accepted;
    going = ap (list_any is_empty) added_same ∙ unended;
    starts = each_start;
    numbers = subst (λ (ss : List Start). IsDistinct nat_eq (map (λ (x : Start). x.number) ss)) (sym starts) (program_numbers o.formula K);
    told = λ k d lt. told_more o.formula K (Round next_start ∷ []) (get_or (unit_lits s.units.items) k d) (told k d lt);
    distinct = distinct;
  }

  pub simplified_again : IsSimplifiedAgain o.formula start K s
  simplified_again = record {
    opens = opens_after;
    starts = starts;
    units = units;
    numbered = numbered;
    lifts = lifts_on;
    on = on;
  }

-- nothing of the formula is left out, if it is the whole that was simplified
module _ (F : FormulaData) (out : LineState) (J : List Entry) (w : WorkState) (st : Stands (origin_of F out) J w) (kept : IsWork w) (goes : GoesOn (begun F out) w) (none : list_any is_empty F.clauses ≡ false)
    (alone : (l : Literal) → is_alive_unit w l ≡ true → has w.units l ≡ true) (s : Simplified) (left : IsLeft w s) where
  part : IsRulersPart F.clauses J
  part = rulers_part F.clauses out J w st goes.ready.going

  are_starts : map start_of s.start.items ≡ (program_opening F.clauses J).starts
  are_starts = starts (origin_of F out) J (begun F out) w st kept goes none alone s left

  opens : IsOpening F.clauses (record { journal = J; starts = map start_of s.start.items; units = unit_lits s.units.items })
  opens =
      let o = program_opens F.clauses J part in
      record {
        rulers_part = part;
        starts = subst (λ (ss : List Start). All (IsStart (book F.clauses J)) ss) (sym are_starts) o.starts;
        numbers = subst (λ (ss : List Start). IsDistinct nat_eq (map (λ (x : Start). x.number) ss)) (sym are_starts) o.numbers;
        told = told (origin_of F out) J (begun F out) w st kept goes none alone s left;
        distinct = distinct (origin_of F out) J (begun F out) w st kept goes none alone s left;
      }

  lifts : Lifts F.clauses (left_clauses s) s.stack
  lifts a t =
      let h = lifts_on (origin_of F out) J (begun F out) w st kept goes none alone s left in
      formula_holds F out (extend s.stack a) (subst (λ (S : List Fix). formula_true (extend S a) (known (begun F out)) ≡ true) (sym h.stack) (h.lifts a t))

  pub simplified : IsSimplified F J s
  simplified = record {
    going = none;
    opens = opens;
    starts = are_starts;
    units = units (origin_of F out) J (begun F out) w st kept goes none alone s left;
    numbered = numbered (origin_of F out) J (begun F out) w st kept goes none alone s left;
    lifts = lifts;
    on = on (origin_of F out) J (begun F out) w st kept goes none alone s left;
  }

-- The call

-- nothing ran
not_run : (w : WorkState) → w.ended ≡ false → IsWork w → (additions : Bool) (n : ℕ) → SimplifiedIn additions n w w (Err Memory) []
not_run w going kept additions zero = inl (record { ends = (refl, going); log = grows_none w; vars = λ none. refl; work = kept }, λ e. let none : ⊥ = cc in none)
not_run w going kept additions (suc n) = inl (inl (record { ends = (refl, going); log = grows_none w; vars = λ none. refl; work = kept }, λ e. let none : ⊥ = cc in none), λ e. absurd (let none : ⊥ = cc in none))

module _ (F : FormulaData) (schedule : Schedule) (old : LineState) (unspent : old.spent ≡ false) (blank : old.entries ≡ 0) (last : old.last ≡ length F.clauses) (on : All (All (IsOn F.vars)) F.clauses) where
  ready : IsReady (begun F old)
  ready = record { going = refl; unspent = unspent }

  begins : Stands (origin_of F old) [] (begun F old)
  begins = begun_stands F old unspent blank last

  module _ (w : WorkState) (kept : IsWork w) (new : LineState) (out : new ≡ w.output) where
    pub ruled : (answer : Result Run LineStop) → WasSimplified schedule (begun F old) w answer → (result : Result Outcome LineStop) → IsTaken answer w result → Ruled F schedule old new result
    ruled (Ok RunDone) h (Ok (LeftOver s)) left = (
        let goes : GoesOn (begun F old) w = whole_comes schedule (begun F old) w (Ok RunDone) h.0 ready h.1 in
        let log = whole_log schedule (begun F old) w (Ok RunDone) h.0 h.1 in
        let stands = log.stands (origin_of F old) [] begins in
        let first = whole_first schedule (begun F old) w h.0 h.1 in
        let end = whole_last schedule (begun F old) w h.0 h.1 in
        record {
          journal = h.0;
          work = w;
          ran = h.1;
          stands = stands;
          more = log.vars;
          few = log.few;
          vars = λ none. whole_vars schedule (begun F old) w (Ok RunDone) h.0 none h.1;
          has_vars = left.vars;
          has_stack = left.stack;
          output = out;
          answer = (
            simplified F old h.0 w stands kept goes (none_empty F old first.1.open_yet) end.1.alone s left,
            record { unspent = ap (λ (x : LineState). x.spent) out ∙ goes.ready.unspent; quiet = ap (λ (x : LineState). x.faults) out ∙ goes.quiet },
          );
        })
    ruled (Ok RunDone) h (Ok NoModel) left = absurd left
    ruled (Ok RunDone) h (Err stop) left = absurd left
    ruled (Ok RunRefuted) h (Ok (LeftOver s)) left = absurd left
    ruled (Ok RunRefuted) h (Ok NoModel) left = (
        let over : IsOver (begun F old) w = whole_comes schedule (begun F old) w (Ok RunRefuted) h.0 ready h.1 in
        let log = whole_log schedule (begun F old) w (Ok RunRefuted) h.0 h.1 in
        let stands = log.stands (origin_of F old) [] begins in
        record {
          journal = h.0;
          work = w;
          ran = h.1;
          stands = stands;
          more = log.vars;
          few = log.few;
          vars = λ none. whole_vars schedule (begun F old) w (Ok RunRefuted) h.0 none h.1;
          has_vars = tt;
          has_stack = tt;
          output = out;
          answer = (
            added_empty_refutes F.clauses h.0 stands.sound (sym stands.ended ∙ over.ended),
            record { unspent = ap (λ (x : LineState). x.spent) out ∙ over.unspent; quiet = ap (λ (x : LineState). x.faults) out ∙ over.quiet },
          );
        })
    ruled (Ok RunRefuted) h (Err stop) left = absurd left
    ruled (Err why) h (Ok outcome) left = absurd left
    ruled (Err why) h (Err stop) left = (
        let log = whole_log schedule (begun F old) w (Err why) h.0 h.1 in
        let stands = log.stands (origin_of F old) [] begins in
        let cause = whole_comes schedule (begun F old) w (Err why) h.0 ready h.1 in
        subst (λ (x : LineStop). Ruled F schedule old new (Err x)) (sym left) (record {
          journal = h.0;
          work = w;
          ran = h.1;
          stands = stands;
          more = log.vars;
          few = log.few;
          vars = λ none. whole_vars schedule (begun F old) w (Err why) h.0 none h.1;
          has_vars = tt;
          has_stack = tt;
          output = out;
          answer = (subst (λ (y : LineState). HasOutputCause old y why) (sym out) cause.0, sym stands.ended ∙ cause.1);
        }))

  -- there was no memory for the work
  pub none_made : (new : LineState) → new ≡ old → Ruled F schedule old new (Err Memory)
  none_made new same = record {
    journal = [];
    work = begun F old;
    ran = not_run (begun F old) refl (begun_work F old last on) schedule.additions schedule.rounds;
    stands = begins;
    more = omega arith;
    few = λ le. le;
    vars = λ none. refl;
    has_vars = tt;
    has_stack = tt;
    output = same;
    answer = (ap (λ (x : LineState). x.faults) same, refl);
  }

-- The call that goes on

module _ (F : List (List Literal)) (schedule : Schedule) (start : WorkState) (unspent : start.output.spent ≡ false) (going : start.ended ≡ false) (kept_start : IsWork start)
    (begins_again : (J : List Entry) → ResumesAs F start J → Stands (record { formula = F; journal = J; output = start.output }) [] start) where
  ready_again : IsReady start
  ready_again = record { going = going; unspent = unspent }

  abbrev at : List Entry → Origin
  at J = record { formula = F; journal = J; output = start.output }

  none_given : (J : List Entry) → ResumesAs F start J → list_any is_empty F ≡ false
  none_given J r = (or_parts (list_any is_empty F) (list_any is_empty (added J)) (sym (list_any-append is_empty F (added J)) ∙ r.2.going)).0

  module _ (w : WorkState) (kept : IsWork w) (new : LineState) (out : new ≡ w.output) where
    pub ruled_again : (answer : Result Run LineStop) → WasSimplified schedule start w answer → (result : Result Outcome LineStop) → IsTaken answer w result → RuledAgain F schedule start new result
    ruled_again (Ok RunDone) h (Ok (LeftOver s)) left = (
        let goes : GoesOn start w = whole_comes schedule start w (Ok RunDone) h.0 ready_again h.1 in
        let log = whole_log schedule start w (Ok RunDone) h.0 h.1 in
        let end = whole_last schedule start w h.0 h.1 in
        record {
          entries = h.0;
          work = w;
          ran = h.1;
          stands = λ J r. log.stands (at J) [] (begins_again J r);
          more = log.vars;
          few = log.few;
          vars = λ none. whole_vars schedule start w (Ok RunDone) h.0 none h.1;
          has_vars = left.vars;
          has_stack = left.stack;
          output = out;
          answer = λ J r. (
            simplified_again (at J) h.0 start w (log.stands (at J) [] (begins_again J r)) kept goes (none_given J r) end.1.alone s left,
            record { unspent = ap (λ (x : LineState). x.spent) out ∙ goes.ready.unspent; quiet = ap (λ (x : LineState). x.faults) out ∙ goes.quiet },
          );
        })
    ruled_again (Ok RunDone) h (Ok NoModel) left = absurd left
    ruled_again (Ok RunDone) h (Err stop) left = absurd left
    ruled_again (Ok RunRefuted) h (Ok (LeftOver s)) left = absurd left
    ruled_again (Ok RunRefuted) h (Ok NoModel) left = (
        let over : IsOver start w = whole_comes schedule start w (Ok RunRefuted) h.0 ready_again h.1 in
        let log = whole_log schedule start w (Ok RunRefuted) h.0 h.1 in
        record {
          entries = h.0;
          work = w;
          ran = h.1;
          stands = λ J r. log.stands (at J) [] (begins_again J r);
          more = log.vars;
          few = log.few;
          vars = λ none. whole_vars schedule start w (Ok RunRefuted) h.0 none h.1;
          has_vars = tt;
          has_stack = tt;
          output = out;
          answer = λ J r. (
            (let stands = log.stands (at J) [] (begins_again J r) in added_empty_refutes F (J ++ h.0) stands.sound (sym stands.ended ∙ over.ended)),
            record { unspent = ap (λ (x : LineState). x.spent) out ∙ over.unspent; quiet = ap (λ (x : LineState). x.faults) out ∙ over.quiet },
          );
        })
    ruled_again (Ok RunRefuted) h (Err stop) left = absurd left
    ruled_again (Err why) h (Ok outcome) left = absurd left
    ruled_again (Err why) h (Err stop) left = (
        let log = whole_log schedule start w (Err why) h.0 h.1 in
        let cause = whole_comes schedule start w (Err why) h.0 ready_again h.1 in
        subst (λ (x : LineStop). RuledAgain F schedule start new (Err x)) (sym left) (record {
          entries = h.0;
          work = w;
          ran = h.1;
          stands = λ J r. log.stands (at J) [] (begins_again J r);
          more = log.vars;
          few = log.few;
          vars = λ none. whole_vars schedule start w (Err why) h.0 none h.1;
          has_vars = tt;
          has_stack = tt;
          output = out;
          answer = λ J r. (
            subst (λ (y : LineState). HasOutputCause start.output y why) (sym out) cause.0,
            (let stands = log.stands (at J) [] (begins_again J r) in sym stands.ended ∙ cause.1),
          );
        }))

  -- there was no memory for the work
  pub none_made_again : (new : LineState) → new ≡ start.output → RuledAgain F schedule start new (Err Memory)
  none_made_again new same = record {
    entries = [];
    work = start;
    ran = not_run start going kept_start schedule.additions schedule.rounds;
    stands = begins_again;
    more = omega arith;
    few = λ le. le;
    vars = λ none. refl;
    has_vars = tt;
    has_stack = tt;
    output = same;
    answer = λ J r. (ap (λ (x : LineState). x.faults) same, sym (begins_again J r).ended ∙ going);
  }
