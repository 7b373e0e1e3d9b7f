-- What is known once the ruler has gone over the formula, and no ring has run.
use Rattle.io_edge.specs.declared.edge.Sink.{Ghosts}
use Rattle.std.proofs.Common.{◌≡◌, ◌≢◌, ◌∙◌, ◌≤◌, ◌^◌, ℕ, Bool, true, false, List, [], ◌++◌, length, Ok, Err, Some, None, append-nil, refl, sym, ap, subst, inl, inr, arith, true≢false}
use Rattle.std.specs.Prelude.{All, Result, replicate, ◌⊎◌, is_some}
use Rattle.std.specs.declared.option.Option.{Option}
use Rattle.std.proofs.lemmas.Bool.{cases_Bool}
use Rattle.std.proofs.lemmas.List.{length-replicate}
use Rattle.std.proofs.lemmas.List.Elements.{All-replicate}
use Rattle.std.specs.Io.KnownBytes.{append_known}
use Rattle.io_edge.specs.Paths.{IsEmptyWhereTold}
use Rattle.sat_words.specs.Literal.{Literal, IsOn}
use Rattle.sat_words.specs.Formats.{has_hints}
use Rattle.sat_words.specs.FormulaData.{FormulaData}
use Rattle.sat_words.specs.declared.line.ProofFormat.{ProofFormat}
use Rattle.sat_words.specs.declared.shared.TheConstants.{MAX_ENTRIES}
use Rattle.rup_model.specs.declared.journal.Entry.{Entry}
use Rattle.rup_model.specs.Journal.{formula_book, lines}
use Rattle.rup_model.specs.NumberedLines.{AreHinted, numbered_lines}
use Rattle.drat_text.specs.LineState.{LineState}
use Rattle.drat_text.specs.Text.{CanBeSpelled}
use Rattle.drat_text.specs.Spelling.{proof_bytes}
use Rattle.drat_text.specs.declared.stop.LineStop.{LineStop}
use Rattle.drat_text.specs.declared.stop.LineStop.TheVariants as line_stop
use Rattle.simp_base.specs.Log.{HasLines}
use Rattle.simp_base.specs.WorkState.{begun as begun_work}
use Rattle.simp_base.specs.declared.work.Run.{Run}
use Rattle.ruler_simp.specs.declared.ruling.Outcome.{Outcome}
use Rattle.ruler_simp.specs.declared.ruling.Outcome.TheVariants.{Simplified as LeftOver, Refuted as NoModel}
use Rattle.ruler_simp.specs.declared.ruling.Simplified.{Simplified}
use Rattle.ruler_simp.specs.Ruled.{IsAnswer, HasVars, HasStack, Ruled, run_of, origin_of as work_origin}
use Rattle.ruler_simp.specs.Rounds.{SimplifiedTo}
use Rattle.ruler_simp.proofs.Telling.{none_made}
use Rattle.share_core.proofs.Counting.{some_same}
use Rattle.share_rule.specs.declared.Layout.{Layout}
use Rattle.share_rule.specs.Books.{HasLog}
use Rattle.log_book.specs.declared.book.Book.{Book}
use Rattle.log_book.specs.Ended.{IsClosed}
use Rattle.log_book.specs.Kept.{HoldsText}
use Rattle.log_book.specs.Books.{begun, told_new, told_of, account_of, origin_of, IsLogOf, IsFilled, IsFrom, IsCutOff, IsCutLog}
use Rattle.core_rounds.specs.InRounds.{learned_by}
use Rattle.ring_run.specs.declared.job.Counts.{Counts}
use Rattle.portfolio_run.specs.declared.answer.Answer.TheVariants.{Unsat, Memory}
use Rattle.portfolio_run.specs.declared.plan.Plan.{Plan}
use Rattle.portfolio_run.specs.Held.{no_counts}
use Rattle.portfolio_run.specs.Pauses.{StandsInRounds, IsSmall, IsPaused}
use Rattle.portfolio_run.specs.Reached.{Records, WasRuled, HasReached, stopped_answer, pause_of}
use Rattle.portfolio_run.specs.Room.{layout_of}
use Rattle.portfolio_run.specs.Ruled.{schedule_of, IsRuledThrough}
use Rattle.portfolio_run.specs.Solved.{IsReached, IsSolved}
use Rattle.portfolio_run.proofs.Cuts.{cut_whole, front_of_same, front_told}
use Rattle.portfolio_run.proofs.Hinting.{simplified_format}
use Rattle.portfolio_run.proofs.InRounds.{none_stands, rulers_stand}
use Rattle.portfolio_run.proofs.Opens.{first_left}
use Rattle.portfolio_run.proofs.Resting.{IsResting, none_learned, same_learned, no_memory, no_entry, failed, refuted as refuted_resting}
use Rattle.portfolio_run.proofs.Rulers.{AreRulers, all_rulers, rulers_learned}
use Rattle.portfolio_run.proofs.Spelling.{formula_on, spelled_from, wider}

module _ (plan : Plan) (formula : FormulaData) (old now : LineState) (result : Result Outcome LineStop) (tally : List Counts) (few : formula.vars ≤ 2 ^ 30) (on : All (All (IsOn formula.vars)) formula.clauses)
    (rings : 1 ≤ plan.threads) (none : (tally ≡ []) ⊎ (tally ≡ replicate plan.threads no_counts)) (unspent : old.spent ≡ false) (begins : old.entries ≡ 0) (last_is : old.last ≡ length formula.clauses) (format_is : old.format ≡ plan.format)
    (was : Ruled formula (schedule_of plan) old now result) where
  abbrev F : List (List Literal)
  F = formula.clauses

  abbrev J : List Entry
  J = was.journal

  pub rulers : AreRulers J
  rulers = was.stands.rulers

  -- the variables that are left, which may be more than the formula's
  abbrev pub vars : ℕ
  vars = was.work.vars

  pub has_lines : HasLines (work_origin formula old) J vars now
  has_lines = subst (λ (s : LineState). HasLines (work_origin formula old) J vars s) (sym was.output) was.stands.lines

  wide_on : All (All (IsOn vars)) F
  wide_on = wider formula.vars vars was.more F on

  spelled : CanBeSpelled (lines F J)
  spelled = spelled_from vars (was.few few) (formula_book F) J (formula_on vars F wide_on) was.stands.on

  -- the output has come to the ruler's lines
  pub filled : now.spent ≡ false → IsFilled (begun F old) J now
  filled q =
      let last = has_lines.last in
      record {
        unspent = q;
        entries = has_lines.entries;
        last = omega arith;
        text = has_lines.whole q;
        target = has_lines.target;
        flushed = has_lines.flushed;
        spelled = spelled;
      }

  -- the ruler's journal stands
  pub rulers_stood : StandsInRounds vars plan.threads F J
  rulers_stood = rulers_stand vars plan.threads F [] J (none_stands vars plan.threads F) rulers was.stands.on

  -- nothing was learned in it
  pub nothing_learned : learned_by plan.threads J ≡ 0
  nothing_learned = same_learned plan.threads J [] (λ r. rulers_learned r J rulers) ∙ none_learned plan.threads

  -- if the log has hints, they are right
  pub rulers_hinted : has_hints plan.format ≡ true → AreHinted F J
  rulers_hinted q = was.stands.hinted (ap has_hints (simplified_format (schedule_of plan) (begun_work formula old) was.work (run_of result) J was.ran ∙ format_is) ∙ q)

  -- no ring ran
  rests : IsResting plan formula tally None J
  rests = record {
    some_ring = rings;
    runs = [];
    past = [];
    written = J;
    rounds = refl;
    due = tt;
    rulers = rulers;
    journal_is = sym (append-nil J);
    within = (let zero_is = nothing_learned in omega (arith, zero_is));
    never = inl refl;
    counts = [];
    tallied = tt;
    tally_is = elim none [
      | inl e ↦ inr (refl, e)
      | inr e ↦ inl e
    ];
    ruled = record {
      output = old;
      unspent = unspent;
      none = begins;
      last = last_is;
      work = was.work;
      result = run_of result;
      ran = subst (SimplifiedTo (schedule_of plan) (begun_work formula old) was.work (run_of result)) (sym (all_rulers J rulers).0) was.ran;
      alone = λ _. (all_rulers J rulers).1;
    };
    rulings = [];
    again = refl;
    vars = vars;
    few = was.few few;
    on = wide_on;
    stood = rulers_stood;
    sound = was.stands.sound;
    hinted = rulers_hinted;
  }

  -- the formula was refuted

  ruled_through : result ≡ Ok NoModel → IsRuledThrough formula (schedule_of plan) J
  unfolding rests
  ruled_through is = record { ruled = rests.ruled; through = λ why e. found_none why (sym (ap run_of is) ∙ e) }
    where
      found_none : (why : LineStop) → run_of (Ok NoModel) ≢ Err why
      found_none why clash = cc clash

  refuted_answer : result ≡ Ok NoModel → IsAnswer formula J old now (Ok NoModel) → IsReached plan formula Unsat tally old.faults now.faults J
  refuted_answer is h = refuted_resting plan formula tally None J rests old.faults now.faults h.0 (ruled_through is) h.1.quiet

  pub refuted : result ≡ Ok NoModel → IsReached plan formula Unsat tally old.faults now.faults J
  refuted is = refuted_answer is (subst (IsAnswer formula J old now) is was.answer)

  -- a full output has as many lines as the journal has entries
  full : now.entries ≡ MAX_ENTRIES → MAX_ENTRIES ≤ length J
  full e = let n : now.entries ≡ length J = has_lines.entries in omega (arith, e, n)

  -- it was stopped
  stopped_by : (why : LineStop) → IsAnswer formula J old now (Err why) → IsReached plan formula (stopped_answer why) tally old.faults now.faults J
  stopped_by line_stop.ProofFault h = failed plan formula tally None J rests old.faults now.faults h.0
  stopped_by line_stop.Full h = no_entry plan formula tally None J rests old.faults now.faults (full h.0.0) h.1 h.0.1
  stopped_by line_stop.Memory h = no_memory plan formula tally None J rests old.faults now.faults h.1 h.0

  pub stopped : (why : LineStop) → result ≡ Err why → IsReached plan formula (stopped_answer why) tally old.faults now.faults J
  stopped why is = stopped_by why (subst (IsAnswer formula J old now) is was.answer)

module _ {S : Type 0} {d : Ghosts S} (written flushed target : S → Option (List ℕ)) (faults : S → ℕ) where
  -- what a book promises that was filled through the bound of a line output
  abbrev pub LogLaw : Book S d → Type 0
  LogLaw b = (F : List (List Literal)) (J : List Entry) (l : Layout) (f : ProofFormat) (sink : S) (asked : Bool) → IsEmptyWhereTold (written sink)
      → IsFilled (begun F (told_new written flushed target faults f (length F) sink asked)) J (told_of written flushed target faults b)
      → HasLog account_of (IsLogOf written flushed target faults) b (origin_of written flushed target faults b) l F J × IsFrom target faults f sink asked (origin_of written flushed target faults b)

  -- and one whose sink failed meanwhile
  abbrev pub CutLaw : Book S d → Type 0
  CutLaw b = (F : List (List Literal)) (J : List Entry) (l : Layout) (f : ProofFormat) (sink : S) (asked : Bool) → IsEmptyWhereTold (written sink)
      → IsCutOff (begun F (told_new written flushed target faults f (length F) sink asked)) J l.vars (told_of written flushed target faults b)
      → IsCutLog written flushed target faults f sink b l F J

  module _ (sink : S) (plan : Plan) (formula : FormulaData) (b : Book S d) (result : Result Outcome LineStop) (tally : List Counts) (few : formula.vars ≤ 2 ^ 30) (on : All (All (IsOn formula.vars)) formula.clauses)
      (rings : 1 ≤ plan.threads) (none : tally ≡ replicate plan.threads no_counts) (was : WasRuled written flushed target faults sink plan formula b result) where
    abbrev F' : List (List Literal)
    F' = formula.clauses

    -- the ruler's journal
    abbrev pub rulers_journal : List Entry
    rulers_journal = was.ruled.journal

    abbrev before : LineState
    before = told_new written flushed target faults plan.format (length F') sink plan.keep_lines

    abbrev told : LineState
    told = told_of written flushed target faults b

    -- the variables that are left
    abbrev left_vars : ℕ
    left_vars = was.ruled.work.vars

    few_left : left_vars ≤ 2 ^ 30
    few_left = was.ruled.few few

    -- the layout of a table for these rings over so many variables
    abbrev layout_over : Layout
    layout_over = layout_of plan left_vars plan.conflicts

    lines_are : HasLines (work_origin formula before) rulers_journal left_vars told
    lines_are = has_lines plan formula before told result tally few on rings (inr none) refl refl refl refl was.ruled

    filled_book : told.spent ≡ false → IsFilled (begun F' before) rulers_journal told
    filled_book = filled plan formula before told result tally few on rings (inr none) refl refl refl refl was.ruled

    records_whole : LogLaw b → b.log.lines.spent ≡ false → Records written flushed target faults plan.format sink F' rulers_journal b
    records_whole law q =
        let h = law F' rulers_journal layout_over plan.format sink plan.keep_lines was.empty (filled_book q) in
        record { origin = origin_of written flushed target faults b; layout = layout_over; few = few_left; format_is = h.1.format_is; faults_are = h.1.faults_are; target_is = h.1.target_is; log = h.0.sink; kept = h.0.kept }

    records_cut : CutLaw b → b.log.lines.spent ≡ true → Records written flushed target faults plan.format sink F' rulers_journal b
    records_cut law q =
        let h = law F' rulers_journal layout_over plan.format sink plan.keep_lines was.empty (record { spent = q; text = lines_are.short q; target = lines_are.target }) in
        record { origin = h.origin; layout = layout_over; few = few_left; format_is = h.format_is; faults_are = h.faults_are; target_is = h.target_is; log = h.log; kept = λ c. absurd (true≢false (sym q ∙ c)) }

    records : LogLaw b → CutLaw b → Records written flushed target faults plan.format sink F' rulers_journal b
    records law cut = elim (cases_Bool b.log.lines.spent) as (λ _. Records written flushed target faults plan.format sink F' rulers_journal b) [
      | inl q ↦ records_cut cut q
      | inr q ↦ records_whole law q
    ]

    -- lines are kept if that was asked for
    asked : LogLaw b → b.log.lines.spent ≡ false → is_some b.log.kept.lines ≡ plan.keep_lines
    asked law q = (law F' rulers_journal layout_over plan.format sink plan.keep_lines was.empty (filled_book q)).1.keeps

    pub refuted_book : LogLaw b → CutLaw b → result ≡ Ok NoModel → HasReached written flushed target faults sink plan formula Unsat tally b
    refuted_book law cut is = record { journal = rulers_journal; records = records law cut; reached = refuted plan formula before told result tally few on rings (inr none) refl refl refl refl was.ruled is; asked = asked law }

    pub stopped_book : LogLaw b → CutLaw b → (why : LineStop) → result ≡ Err why → HasReached written flushed target faults sink plan formula (stopped_answer why) tally b
    stopped_book law cut why is = record { journal = rulers_journal; records = records law cut; reached = stopped plan formula before told result tally few on rings (inr none) refl refl refl refl was.ruled why is; asked = asked law }

    -- something is left: the rings rest before the first round
    module _ (left : Simplified) (is : result ≡ Ok (LeftOver left)) where
      left_answer : IsAnswer formula rulers_journal before told (Ok (LeftOver left))
      left_answer = subst (IsAnswer formula rulers_journal before told) is was.ruled.answer

      -- the variables are those of the work
      vars_are : left.vars ≡ left_vars
      vars_are = subst (HasVars left_vars) is was.ruled.has_vars

      pub paused_first : IsPaused (pause_of written flushed target faults sink plan formula left tally 0 b)
      paused_first = record {
        runs = [];
        past = [];
        mine = rulers_journal;
        rounds = refl;
        due = tt;
        done_is = sym (none_learned plan.threads);
        within = omega arith;
        rulers = was.ruled.stands.rulers;
        counts = [];
        tallied = tt;
        tally_is = none;
        many = ap length none ∙ length-replicate plan.threads no_counts;
        small = subst (All (IsSmall plan.threads 0)) (sym none) (All-replicate (IsSmall plan.threads 0) plan.threads no_counts (record { learned = omega arith; exported = omega arith; offered = omega arith; restarts = omega arith }));
        first = record {
          output = before;
          unspent = refl;
          none = refl;
          last = refl;
          work = was.ruled.work;
          ran = subst (λ (x : Result Run LineStop × List Entry). SimplifiedTo (schedule_of plan) (begun_work formula before) was.ruled.work x.0 x.1) (λ i. (run_of (is i), sym (all_rulers rulers_journal was.ruled.stands.rulers).0 i)) was.ruled.ran;
        };
        rulings = [];
        again = refl;
        vars_are = vars_are;
        stack_is = subst (HasStack was.ruled.work.stack) is was.ruled.has_stack;
        more = subst (λ (n : ℕ). formula.vars ≤ n) (sym vars_are) was.ruled.more;
        few = subst (λ (n : ℕ). n ≤ 2 ^ 30) (sym vars_are) few_left;
        stood = subst (λ (n : ℕ). StandsInRounds n plan.threads F' rulers_journal) (sym vars_are) (rulers_stood plan formula before told result tally few on rings (inr none) refl refl refl refl was.ruled);
        sound = was.ruled.stands.sound;
        hinted = rulers_hinted plan formula before told result tally few on rings (inr none) refl refl refl refl was.ruled;
        is_left = first_left formula rulers_journal left left_answer.0 was.ruled.stands.sound;
        filled = filled_book left_answer.1.unspent;
        quiet = left_answer.1.quiet;
      }

-- memory ran out before a line was put, and the sink was flushed
pub starved : (plan : Plan) (formula : FormulaData) (tally : List Counts) (before faults : ℕ) (flushed written : Option (List ℕ)) → formula.vars ≤ 2 ^ 30 → All (All (IsOn formula.vars)) formula.clauses → 1 ≤ plan.threads
    → (tally ≡ []) ⊎ (tally ≡ replicate plan.threads no_counts) → IsEmptyWhereTold written → before ≤ faults → IsClosed before faults flushed written → IsSolved plan formula Memory tally before faults flushed written None
starved plan formula tally before faults flushed written few on rings none empty later closed =
    let old : LineState = record { format = plan.format; entries = 0; last = length formula.clauses; spent = false; faults = before; written = written; target = None; flushed = None; kept = None } in
    let was : Ruled formula (schedule_of plan) old old (Err line_stop.Memory) = none_made formula (schedule_of plan) old refl refl refl on old refl in
    let h : IsReached plan formula Memory tally before before was.journal = stopped plan formula old old (Err line_stop.Memory) tally few on rings none refl refl refl refl was line_stop.Memory refl in
    let bytes : List ℕ = proof_bytes plan.format (numbered_lines formula.clauses was.journal) in
    let holds : HoldsText written bytes = told_text written bytes empty ((has_lines plan formula old old (Err line_stop.Memory) tally few on rings none refl refl refl refl was).whole refl).bytes in
    record {
      journal = was.journal;
      found = Memory;
      searched = before;
      reached = h;
      told = record { ends = inl refl; quiet = λ e. absurd (true≢false (sym e)) };
      finished = record {
        poured = before;
        grown = (omega arith, later);
        closed = closed;
        whole = λ _. holds;
        front = λ _. front_told written written bytes holds (front_of_same written);
        short = cut_whole plan.format formula.clauses was.journal written (record { fits = h.stands.fits; accepted = h.stands.accepted; empty_last = h.stands.last }) h.stands.hinted h.stands.spelled
            (front_told written written bytes holds (front_of_same written));
      };
      lines_are = record { are = tt; asked_for = λ e. absurd (true≢false (sym e)); quiet = λ e. absurd (true≢false (sym e)); there = λ asked other sure. absurd (other refl) };
    }
  where
    told_text : (bytes : Option (List ℕ)) (all : List ℕ) → IsEmptyWhereTold bytes → bytes ≡ append_known bytes all → HoldsText bytes all
    told_text None all none e = tt
    told_text (Some bytes) all none e = some_same bytes (bytes ++ all) e ∙ ap (λ (bs : List ℕ). bs ++ all) none
