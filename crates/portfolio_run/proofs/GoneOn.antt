-- What the ruler comes to as it goes on after a round: an answer, or the rings rest before the next.
use Rattle.std.proofs.Common.{◌≡◌, ◌∙◌, ◌<◌, ◌≤◌, ◌^◌, ℕ, true, false, List, ◌∷◌, ◌++◌, length, All, Ok, Err, None, append-nil, append_assoc, refl, sym, ap, subst, inl, inr, arith}
use Rattle.std.specs.Prelude.{Result}
use Rattle.std.specs.List.{list_any}
use Rattle.std.proofs.lemmas.List.Elements.{All-append}
use Rattle.io_edge.specs.Causes.{Rose}
use Rattle.sat_words.specs.Literal.{Literal, IsOn}
use Rattle.sat_words.specs.Clause.{is_empty}
use Rattle.sat_words.specs.Formats.{has_hints}
use Rattle.sat_words.specs.FormulaData.{FormulaData}
use Rattle.sat_words.specs.declared.shared.TheConstants.{MAX_ENTRIES}
use Rattle.rup_model.specs.declared.journal.Entry.{Entry}
use Rattle.rup_model.specs.Journal.{lines, added, formula_book, LogSound}
use Rattle.rup_model.specs.NumberedLines.{AreHinted}
use Rattle.rup_model.specs.Opening.{is_rulers}
use Rattle.rup_model.proofs.Additions.{added-append}
use Rattle.model_stack.specs.declared.stack.Fix.{Fix}
use Rattle.model_stack.specs.Extend.{Lifts}
use Rattle.model_stack.proofs.Walk.{lifts_along}
use Rattle.drat_text.specs.LineState.{LineState}
use Rattle.drat_text.specs.Text.{CanBeSpelled}
use Rattle.drat_text.specs.declared.stop.LineStop.{LineStop}
use Rattle.drat_text.specs.declared.stop.LineStop.TheVariants as line_stop
use Rattle.log_book.specs.Books.{begun, IsFilled, IsCutOff}
use Rattle.share_rule.specs.declared.rests.Rest.{Rest}
use Rattle.simp_base.specs.WorkState.{WorkState, known, resumed, unit_cells}
use Rattle.simp_base.specs.Log.{HasLines, Stands}
use Rattle.simp_base.specs.Causes.{HasOutputCause}
use Rattle.ruler_simp.specs.declared.ruling.Outcome.{Outcome}
use Rattle.ruler_simp.specs.declared.ruling.Outcome.TheVariants.{Simplified as LeftOver, Refuted as NoModel}
use Rattle.ruler_simp.specs.declared.ruling.Simplified.{Simplified}
use Rattle.ruler_simp.specs.Again.{ResumesAs, round_start, IsSimplifiedAgain, IsAnswerAgain}
use Rattle.ruler_simp.specs.Left.{left_clauses}
use Rattle.ruler_simp.specs.Ruled.{IsSound, run_of, HasVars, HasStack}
use Rattle.core_rounds.specs.Rounds.{RoundRun}
use Rattle.ring_run.specs.declared.job.Counts.{Counts}
use Rattle.portfolio_run.specs.declared.answer.Answer.{Answer}
use Rattle.portfolio_run.specs.declared.answer.Answer.TheVariants.{Unsat}
use Rattle.portfolio_run.specs.declared.plan.Plan.{Plan}
use Rattle.portfolio_run.specs.Journaled.{IsUnrefuted}
use Rattle.portfolio_run.specs.Pauses.{StandsInRounds, IsLeft, IsPaused}
use Rattle.portfolio_run.specs.Reached.{stopped_answer}
use Rattle.portfolio_run.specs.Resumed.{dropped_of, kept_of, AreLeftAfter, WasStopped, HasWorked}
use Rattle.portfolio_run.specs.Ruled.{schedule_of}
use Rattle.portfolio_run.specs.Rulings.{Ruling, deletions, work_after, AreDropped, IsRuling}
use Rattle.portfolio_run.specs.Solved.{IsReached}
use Rattle.portfolio_run.proofs.Appending.{filled_on, cut_off_on}
use Rattle.portfolio_run.proofs.Hinting.{hinted_deleted, simplified_format}
use Rattle.portfolio_run.proofs.Passed.{HavePassed}
use Rattle.portfolio_run.proofs.Pausing.{deletions_rulers, deletions_add, dropped_front, began, through, stood_on, rests}
use Rattle.portfolio_run.proofs.Resting.{IsResting, journal_stands, no_memory, no_entry, failed, refuted as none_left}
use Rattle.portfolio_run.proofs.RingsJournal.{adds_nothing}
use Rattle.portfolio_run.proofs.Rulers.{AreRulers}
use Rattle.portfolio_run.proofs.Spelling.{formula_on, spelled_from, wider}

-- an answer over a journal to whose lines the output has come since the first, or it failed at the line after them
pub record ComesTo (plan : Plan) (F : FormulaData) (answer : Answer) (tally : List Counts) (first new : LineState) : Type 0 where
  pub journal : List Entry
  pub reached : IsReached plan F answer tally first.faults new.faults journal
  pub vars : ℕ
  pub few : vars ≤ 2 ^ 30
  pub filled : new.spent ≡ false → IsFilled (begun F.clauses first) journal new
  pub cut : new.spent ≡ true → IsCutOff (begun F.clauses first) journal vars new

module _ (plan : Plan) (F : FormulaData) (vars : ℕ) (stack : List Fix) (tally : List Counts) (done : ℕ) (x : RoundRun) (xs : List RoundRun) (J : List Entry) (h : HavePassed plan F vars stack tally done x xs J) (more : done < plan.conflicts)
    (held : List Rest) (units : List (Literal × ℕ)) (dropped : AreDropped x (dropped_of held))
    (first old : LineState) (format_is : first.format ≡ plan.format) (filled : IsFilled (begun F.clauses first) J old) (left : AreLeftAfter F.clauses vars held units stack old J) where
  -- the output has not failed since the first line
  quiet : old.faults ≡ first.faults
  quiet = filled.text.quiet

  none_on : (n : ℕ) (ns : List ℕ) → All (All (IsOn n)) (added (deletions ns))
  none_on n ns = subst (All (All (IsOn n))) (sym (deletions_add ns)) (λ k d lt. absurd (omega arith))

  -- deletions refute nothing
  going_on : (ns : List ℕ) → IsUnrefuted (J ++ deletions ns)
  going_on ns = ap (list_any is_empty) (added-append J (deletions ns) ∙ ap (λ (G : List (List Literal)). added J ++ G) (deletions_add ns) ∙ append-nil (added J)) ∙ h.going

  spelled_on : (ns : List ℕ) → CanBeSpelled (lines F.clauses (J ++ deletions ns))
  spelled_on ns =
      spelled_from vars h.few (formula_book F.clauses) (J ++ deletions ns) (formula_on vars F.clauses (wider F.vars vars h.more F.clauses h.on))
      (stood_on plan F vars stack tally done x xs J h more vars (omega arith) h.few (deletions ns) (deletions_rulers ns) (none_on vars ns)).on

  -- It was stopped as it deleted clauses

  module _ (new : LineState) (result : Result Outcome LineStop) (w : WasStopped F.clauses vars held units stack old new result) where
    abbrev deleted : List Entry
    deleted = deletions w.front

    -- the journal then
    abbrev short : List Entry
    short = J ++ deleted

    front_dropped : AreDropped x w.front
    front_dropped = dropped_front x w.front w.rest (subst (AreDropped x) w.front_of dropped)

    resting_early : IsResting plan F tally None short
    resting_early =
        rests plan F vars stack tally done x xs J h more vars (omega arith) h.few deleted (deletions_rulers w.front) (none_on vars w.front)
        (w.sound J left) (λ q. hinted_deleted F.clauses J w.front (h.hinted q)) h.rulings
        (inl (w.front, front_dropped, refl, refl, h.ruled))

    lines_early : HasLines (record { formula = F.clauses; journal = J; output = old }) deleted vars new
    lines_early = w.lines J left

    reached_by : (stop : LineStop) → HasOutputCause old new stop → IsReached plan F (stopped_answer stop) tally first.faults new.faults short
    reached_by line_stop.ProofFault c = failed plan F tally None short resting_early first.faults new.faults (subst (λ (n : ℕ). Rose n new.faults) quiet c)
    reached_by line_stop.Full c =
        let many : new.entries ≡ length short = lines_early.entries in
        let all : new.entries ≡ MAX_ENTRIES = c.0 in
        no_entry plan F tally None short resting_early first.faults new.faults (omega (arith, many, all)) (going_on w.front) (c.1 ∙ quiet)
    reached_by line_stop.Memory c = no_memory plan F tally None short resting_early first.faults new.faults (going_on w.front) (c ∙ quiet)

    pub stopped_early : ComesTo plan F (stopped_answer w.stop) tally first new
    stopped_early = record {
      journal = short;
      reached = reached_by w.stop w.cause;
      vars = vars;
      few = h.few;
      filled = λ q. filled_on F.clauses first old new J deleted filled vars lines_early q (spelled_on w.front);
      cut = cut_off_on F.clauses first old new J deleted filled vars lines_early;
    }

  -- It deleted them, and worked on

  module _ (new : LineState) (result : Result Outcome LineStop) (w : HasWorked F.clauses (schedule_of plan) vars held units stack old new result) where
    abbrev ns : List ℕ
    ns = dropped_of held

    abbrev gone : List Entry
    gone = deletions ns

    abbrev entries : List Entry
    entries = w.ruled.entries

    -- the variables that are left
    abbrev wide : ℕ
    wide = w.ruled.work.vars

    -- what it went on with
    abbrev start : WorkState
    start = resumed vars (kept_of held ++ unit_cells units) units stack w.middle

    abbrev ruling : Ruling
    ruling = record { dropped = ns; start = start; work = w.ruled.work; result = run_of result; entries = entries }

    abbrev written : List Entry
    written = gone ++ entries

    -- the journal in the end
    abbrev I : List Entry
    I = J ++ written

    resumes : ResumesAs F.clauses start (J ++ gone)
    resumes = (units, refl, w.resumes J left)

    stands : Stands (record { formula = F.clauses; journal = J ++ gone; output = w.middle }) entries w.ruled.work
    stands = w.ruled.stands (J ++ gone) resumes

    same_journal : (J ++ gone) ++ entries ≡ I
    same_journal = append_assoc J gone entries

    is_ruling : IsRuling F.clauses (schedule_of plan) (work_after h.first.work h.rulings) x ruling
    is_ruling = record {
      dropped = dropped;
      vars_are = h.vars_are;
      stack_is = h.stack_is;
      begins = (refl, refl);
      unspent = w.unspent;
      resumes = subst (λ (K : List Entry). ResumesAs F.clauses start (K ++ gone)) h.rounds.6 resumes;
      ran = w.ruled.ran;
    }

    few_wide : wide ≤ 2 ^ 30
    few_wide = w.ruled.few h.few

    written_rulers : AreRulers written
    written_rulers = All-append (λ (e : Entry). is_rulers e ≡ true) gone entries (deletions_rulers ns) stands.rulers

    written_on : All (All (IsOn wide)) (added written)
    written_on = subst (All (All (IsOn wide))) (sym (added-append gone entries ∙ ap (λ (G : List (List Literal)). G ++ added entries) (deletions_add ns))) stands.on

    sound_there : LogSound F.clauses I
    sound_there = subst (LogSound F.clauses) same_journal stands.sound

    -- the output before it worked on
    filled_between : IsFilled (begun F.clauses first) (J ++ gone) w.middle
    filled_between = filled_on F.clauses first old w.middle J gone filled vars (w.lines J left) w.unspent (spelled_on ns)

    quiet_between : w.middle.faults ≡ first.faults
    quiet_between = filled_between.text.quiet

    -- the output of the work spells its lines as the plan says
    format_there : w.ruled.work.output.format ≡ plan.format
    format_there = simplified_format (schedule_of plan) start w.ruled.work (run_of result) entries w.ruled.ran ∙ filled_between.text.format ∙ format_is

    hinted_there : has_hints plan.format ≡ true → AreHinted F.clauses I
    hinted_there q = subst (AreHinted F.clauses) same_journal (stands.hinted (ap has_hints format_there ∙ q))

    resting : IsResting plan F tally None I
    resting =
        rests plan F vars stack tally done x xs J h more wide w.ruled.more few_wide written written_rulers written_on sound_there hinted_there (ruling ∷ h.rulings)
        (inr (ruling, h.rulings, refl, is_ruling, refl, (λ other. absurd (other refl)), h.ruled))

    -- The output

    has_lines : HasLines (record { formula = F.clauses; journal = J ++ gone; output = w.middle }) entries wide new
    has_lines = subst (HasLines (record { formula = F.clauses; journal = J ++ gone; output = w.middle }) entries wide) (sym w.ruled.output) stands.lines

    spelled_there : CanBeSpelled (lines F.clauses I)
    spelled_there = (journal_stands plan F tally None I resting).spelled

    filled_there : new.spent ≡ false → IsFilled (begun F.clauses first) I new
    filled_there q =
        subst (λ (K : List Entry). IsFilled (begun F.clauses first) K new) same_journal
        (filled_on F.clauses first w.middle new (J ++ gone) entries filled_between wide has_lines q (subst (λ (K : List Entry). CanBeSpelled (lines F.clauses K)) (sym same_journal) spelled_there))

    cut_there : new.spent ≡ true → IsCutOff (begun F.clauses first) I wide new
    cut_there q =
        subst (λ (K : List Entry). IsCutOff (begun F.clauses first) K wide new) same_journal (cut_off_on F.clauses first w.middle new (J ++ gone) entries filled_between wide has_lines q)

    comes_to : (answer : Answer) → IsReached plan F answer tally first.faults new.faults I → ComesTo plan F answer tally first new
    comes_to answer reached = record { journal = I; reached = reached; vars = wide; few = few_wide; filled = filled_there; cut = cut_there }

    -- What it came to

    answer_there : IsAnswerAgain F.clauses start I new result
    answer_there = subst (λ (K : List Entry). IsAnswerAgain F.clauses start K new result) same_journal (w.ruled.answer (J ++ gone) resumes)

    stopped_by : (stop : LineStop) → IsAnswerAgain F.clauses start I new (Err stop) → IsReached plan F (stopped_answer stop) tally first.faults new.faults I
    stopped_by line_stop.ProofFault a = failed plan F tally None I resting first.faults new.faults (subst (λ (n : ℕ). Rose n new.faults) quiet_between a.0)
    stopped_by line_stop.Full a =
        let many : new.entries ≡ length I = has_lines.entries ∙ ap length same_journal in
        let all : new.entries ≡ MAX_ENTRIES = a.0.0 in
        no_entry plan F tally None I resting first.faults new.faults (omega (arith, many, all)) a.1 (a.0.1 ∙ quiet_between)
    stopped_by line_stop.Memory a = no_memory plan F tally None I resting first.faults new.faults a.1 (a.0 ∙ quiet_between)

    pub stopped_late : (stop : LineStop) → result ≡ Err stop → ComesTo plan F (stopped_answer stop) tally first new
    stopped_late stop is = comes_to (stopped_answer stop) (stopped_by stop (subst (IsAnswerAgain F.clauses start I new) is answer_there))

    refuted_by : IsAnswerAgain F.clauses start I new (Ok NoModel) → IsReached plan F Unsat tally first.faults new.faults I
    refuted_by a = none_left plan F tally None I resting first.faults new.faults a.0 (through plan F vars stack tally done x xs J h more written) (a.1.quiet ∙ quiet_between)

    pub refuted : result ≡ Ok NoModel → ComesTo plan F Unsat tally first new
    refuted is = comes_to Unsat (refuted_by (subst (IsAnswerAgain F.clauses start I new) is answer_there))

    -- something is left, over which the next round can begin
    module _ (s : Simplified) (is : result ≡ Ok (LeftOver s)) (lifts : Lifts F.clauses (known start) stack) where
      left_there : IsSimplifiedAgain F.clauses start I s × IsSound w.middle new
      left_there = subst (IsAnswerAgain F.clauses start I new) is answer_there

      vars_are : s.vars ≡ wide
      vars_are = subst (HasVars wide) is w.ruled.has_vars

      is_left : IsLeft F I s
      is_left =
          let a = left_there.0 in
          record {
            whole = h.whole;
            going = ap (list_any is_empty) (sym (adds_nothing I (round_start s))) ∙ a.opens.going;
            opens = a.opens;
            starts = a.starts;
            units = a.units;
            numbered = a.numbered;
            lifts = subst (Lifts F.clauses (left_clauses s)) (sym a.lifts.stack) (lifts_along F.clauses (known start) (left_clauses s) stack a.lifts.fixes lifts a.lifts.lifts);
            on = a.on;
          }

      pub paused : IsPaused (record { plan = plan; formula = F; left = s; tally = tally; done = done; before = first; now = new })
      paused = record {
        runs = x ∷ xs;
        past = J;
        mine = written;
        rounds = h.rounds;
        due = (h.spent, subst (λ (n : ℕ). n < plan.conflicts) h.done_is more);
        done_is = h.done_is;
        within = h.within;
        rulers = written_rulers;
        counts = h.counts;
        tallied = h.tallied;
        tally_is = h.tally_is;
        many = h.many;
        small = h.small;
        first = began plan F vars stack tally done x xs J h more written;
        rulings = ruling ∷ h.rulings;
        again = (is_ruling, ap run_of is, refl, h.ruled);
        vars_are = vars_are;
        stack_is = subst (HasStack w.ruled.work.stack) is w.ruled.has_stack;
        more = (let low = h.more in let wider_than = w.ruled.more in let same = vars_are in omega (arith, low, wider_than, same));
        few = (let few = few_wide in let same = vars_are in omega (arith, few, same));
        stood = subst (λ (n : ℕ). StandsInRounds n plan.threads F.clauses I) (sym vars_are) (stood_on plan F vars stack tally done x xs J h more wide w.ruled.more few_wide written written_rulers written_on);
        sound = sound_there;
        hinted = hinted_there;
        is_left = is_left;
        filled = filled_there left_there.1.unspent;
        quiet = left_there.1.quiet ∙ quiet_between;
      }
